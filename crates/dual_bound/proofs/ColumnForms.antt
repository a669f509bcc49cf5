-- The form and the payments of a column, one payment after another.
use Rattle.std.proofs.Common.{◌≡◌, ◌∙◌, ℕ, ◌+◌, ◌*◌, ◌<◌, List, get_or, length, take, ap, arith, ℤ, pos, ◌+ℤ◌, ◌*ℤ◌, neg_ℤ, unsigned_abs}
use Rattle.std.proofs.lemmas.Int.{ints}
use Rattle.std.proofs.lemmas.List.Sums.{sum_by_more}
use Rattle.std.specs.List.{sum_by}
use Rattle.dual_bound.specs.Columns.{form_plus, other_forms, others_paid, signed_worth, worth_at}
use Rattle.dual_bound.specs.LeafBound.{least_side, signed_sum}
use Rattle.dual_bound.specs.declared.column.OtherPayment.{OtherPayment}
use Rattle.dual_bound.specs.declared.form.Form.{Form}
use Rattle.dual_bound.specs.declared.worth.Worth.{Worth}
use Rattle.dual_bound.proofs.FormFacts.{amount_form}
use Rattle.dual_bound.proofs.Signed.{signed_sum_more}
use Rattle.payment_schedule.specs.Schedule.{flow_by}
use Rattle.dual_bound.proofs.Sizes.{abs-neg}

-- a form, one other payment more
pub others-more : (start : Form) (worths : List Worth) (others : List OtherPayment) (i : ℕ) (other : OtherPayment) (worth : ℤ) → i < length others → other ≡ get_or others i other
    → worth ≡ signed_worth (worth_at worths other.place)
    → form_plus (form_plus start (other_forms worths (take i others))) (amount_form (neg_ℤ worth) other.coefficients.low other.coefficients.high other.coefficients.slack)
    ≡ form_plus start (other_forms worths (take (i + 1) others))
others-more start worths others i other worth few is is_worth = (λ j. record { slope = slope j; slack = slack j })
  where
    weight : OtherPayment → ℤ
    weight = λ o. signed_worth (worth_at worths o.place)

    side : OtherPayment → ℤ
    side = λ o. least_side (neg_ℤ (signed_worth (worth_at worths o.place))) o.coefficients.low o.coefficients.high

    loose : OtherPayment → ℕ
    loose = λ o. unsigned_abs (signed_worth (worth_at worths o.place)) * o.coefficients.slack

    slope : (start.slope +ℤ signed_sum side (take i others)) +ℤ least_side (neg_ℤ worth) other.coefficients.low other.coefficients.high ≡ start.slope +ℤ signed_sum side (take (i + 1) others)
    slope =
        let here : least_side (neg_ℤ worth) other.coefficients.low other.coefficients.high ≡ side (get_or others i other) =
        ap (λ z. least_side (neg_ℤ z) other.coefficients.low other.coefficients.high) is_worth ∙ ap side is in
        joined _ _ _ _ _ here (signed_sum_more side others i other few)
      where
        joined : (first so_far term next whole : ℤ) → term ≡ next → whole ≡ so_far +ℤ next → (first +ℤ so_far) +ℤ term ≡ first +ℤ whole
        joined first so_far term next whole same more = omega (arith, ints)

    slack : start.slack + sum_by loose (take i others) + unsigned_abs (neg_ℤ worth) * other.coefficients.slack ≡ start.slack + sum_by loose (take (i + 1) others)
    slack =
        let here : unsigned_abs (neg_ℤ worth) * other.coefficients.slack ≡ loose (get_or others i other) =
        ap (λ n. n * other.coefficients.slack) (abs-neg worth ∙ ap unsigned_abs is_worth) ∙ ap loose is in
        omega (arith, here, sum_by_more loose others i other few)

-- what other payments come to, one more
pub paid-more : (rate amount : ℕ) (worths : List Worth) (others : List OtherPayment) (i : ℕ) (other : OtherPayment) (paid : ℤ) → i < length others → other ≡ get_or others i other
    → paid ≡ signed_worth (worth_at worths other.place) *ℤ pos (flow_by rate amount other.payment).cents.0
    → others_paid rate amount worths (take i others) +ℤ paid ≡ others_paid rate amount worths (take (i + 1) others)
paid-more rate amount worths others i other paid few is same =
    let f : OtherPayment → ℤ = λ o. signed_worth (worth_at worths o.place) *ℤ pos (flow_by rate amount o.payment).cents.0 in
    let more = signed_sum_more f others i other few in
    let here : paid ≡ f (get_or others i other) = same ∙ ap f is in
    joined _ _ _ _ here more
  where
    joined : (so_far term next whole : ℤ) → term ≡ next → whole ≡ so_far +ℤ next → so_far +ℤ term ≡ whole
    joined so_far term next whole same more = omega (arith, ints)
