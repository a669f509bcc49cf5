-- The form of a line, one payment after another.
use Rattle.std.proofs.Common.{◌≡◌, ◌∙◌, ℕ, ◌+◌, ◌*◌, ◌<◌, List, [], ◌∷◌, All, get_or, length, take, refl, ap, subst, arith, ℤ, pos, ◌+ℤ◌, neg_ℤ, ◌≤ℤ◌, unsigned_abs}
use Rattle.std.proofs.lemmas.Int.{ints}
use Rattle.std.proofs.Math.ListN.{get_or-map}
use Rattle.std.proofs.lemmas.List.{length-map}
use Rattle.std.proofs.lemmas.List.Elements.{All-cons, All-head, All-tail}
use Rattle.std.proofs.lemmas.List.Sums.{sum_by_more}
use Rattle.std.specs.List.{AllZip, sum_by}
use Rattle.escrow_units.specs.Calendar.{years_after_of}
use Rattle.escrow_units.specs.Flows.{FallWithinFortyYears}
use Rattle.escrow_units.specs.SlgsTerms.{IsSettlement}
use Rattle.escrow_units.specs.declared.security.Flow.{Flow}
use Rattle.offer_book.proofs.CoefficientFacts.{coefficients-enclose}
use Rattle.offer_book.proofs.LineFacts.{line_payments-within}
use Rattle.offer_book.specs.Book.{BookContents, IsLine}
use Rattle.offer_book.specs.Coefficients.{Enclosure, EnclosesPayment, cost_coefficients, pay_by, pay_coefficients}
use Rattle.offer_book.specs.Portfolio.{line_payments}
use Rattle.offer_book.specs.Schedule.{kind_rate, schedule_of}
use Rattle.offer_book.specs.declared.coefficients.PayCoefficients.{PayCoefficients}
use Rattle.offer_book.specs.declared.line.Line.{Line}
use Rattle.payment_schedule.specs.declared.schedule.ScheduledPayment.{ScheduledPayment}
use Rattle.dual_bound.specs.LeafBound.{cost_worth, priced_form, least_side, paid_worth}
use Rattle.dual_bound.specs.declared.form.Form.{Form}
use Rattle.proof_tree.specs.declared.tree.Leaf.{Leaf}
use Rattle.dual_bound.proofs.Signed.{signed_sum_more}
use Rattle.dual_bound.proofs.Sizes.{abs-neg, pay_slack, pays_slope}
use Rattle.offer_book.specs.declared.payment_days.PaymentDays.{PaymentDays}

-- the form of what is paid, by a weight for each day, and of what is costed
abbrev pub form_with : (ℤ → ℤ) → ℤ → Enclosure → List PayCoefficients → Form
form_with weight own costs pays = record {
  slope = least_side own costs.low costs.high +ℤ pays_slope weight pays;
  slack = unsigned_abs own * costs.slack + sum_by (pay_slack weight) pays;
}

pub priced_form-is : (n : ℕ) (book : BookContents) (leaf : Leaf) (line : Line)
    → priced_form n book leaf line ≡ form_with (paid_worth n book leaf line.kind) (cost_worth leaf line.kind) (cost_coefficients line) (pay_coefficients book.days line)
unfolding priced_form
priced_form-is n book leaf line = refl

abbrev pub form_plus : Form → Form → Form
form_plus first second = record { slope = first.slope +ℤ second.slope; slack = first.slack + second.slack }

abbrev pub amount_form : ℤ → ℕ → ℕ → ℕ → Form
amount_form weight low high slack = record { slope = least_side weight low high; slack = unsigned_abs weight * slack }

pub form_with-none : (weight : ℤ → ℤ) (own : ℤ) (costs : Enclosure) → amount_form own costs.low costs.high costs.slack ≡ form_with weight own costs []
form_with-none weight own costs = (λ i. record { slope = slope i; slack = slack i })
  where
    slope : least_side own costs.low costs.high ≡ least_side own costs.low costs.high +ℤ pos 0
    slope = omega (arith, ints)

    slack : unsigned_abs own * costs.slack ≡ unsigned_abs own * costs.slack + 0
    slack = omega arith

pub form_with-more : (weight : ℤ → ℤ) (own : ℤ) (costs : Enclosure) (pays : List PayCoefficients) (i : ℕ) (pay : PayCoefficients) (worth : ℤ) → i < length pays
    → pay ≡ get_or pays i pay → worth ≡ weight pay.day
    → form_plus (form_with weight own costs (take i pays)) (amount_form (neg_ℤ worth) pay.low pay.high pay.slack) ≡ form_with weight own costs (take (i + 1) pays)
form_with-more weight own costs pays i pay worth few is is_worth = (λ j. record { slope = slope j; slack = slack j })
  where
    side : PayCoefficients → ℤ
    side = λ p. least_side (neg_ℤ (weight p.day)) p.low p.high

    slope : (least_side own costs.low costs.high +ℤ pays_slope weight (take i pays)) +ℤ least_side (neg_ℤ worth) pay.low pay.high ≡ least_side own costs.low costs.high +ℤ pays_slope weight (take (i + 1) pays)
    slope =
        let here : least_side (neg_ℤ worth) pay.low pay.high ≡ side (get_or pays i pay) = ap (λ z. least_side (neg_ℤ z) pay.low pay.high) is_worth ∙ ap side is in
        joined _ _ _ _ _ here (signed_sum_more side pays i pay few)
      where
        joined : (first so_far term other whole : ℤ) → term ≡ other → whole ≡ so_far +ℤ other → (first +ℤ so_far) +ℤ term ≡ first +ℤ whole
        joined first so_far term other whole same more = omega (arith, ints)

    slack : unsigned_abs own * costs.slack + sum_by (pay_slack weight) (take i pays) + unsigned_abs (neg_ℤ worth) * pay.slack ≡ unsigned_abs own * costs.slack + sum_by (pay_slack weight) (take (i + 1) pays)
    slack =
        let here : unsigned_abs (neg_ℤ worth) * pay.slack ≡ pay_slack weight (get_or pays i pay) =
        ap (λ n. n * pay.slack) (abs-neg worth ∙ ap unsigned_abs is_worth) ∙ ap (pay_slack weight) is in
        omega (arith, here, sum_by_more (pay_slack weight) pays i pay few)

-- the payments of a line fall within forty years
zip-within : (settle : ℤ) (units : ℕ) (pays : List PayCoefficients) (flows : List Flow) → AllZip (EnclosesPayment units) pays flows → FallWithinFortyYears settle flows
    → All (λ pay. (settle ≤ℤ pay.day) × (pay.day ≤ℤ years_after_of settle 40)) pays
zip-within settle units [] [] same within = λ k d few. absurd (omega arith)
zip-within settle units [] (flow ∷ flows) same within = absurd same
zip-within settle units (pay ∷ pays) [] same within = absurd same
zip-within settle units (pay ∷ pays) (flow ∷ flows) same within =
    All-cons (λ (p : PayCoefficients). (settle ≤ℤ p.day) × (p.day ≤ℤ years_after_of settle 40)) pay pays
    (let own = All-head (λ (f : Flow). (settle ≤ℤ f.day) × (f.day ≤ℤ years_after_of settle 40)) flow flows within in
    (omega (arith, ints, same.0.day, own.0), omega (arith, ints, same.0.day, own.1)))
    (zip-within settle units pays flows same.1 (All-tail (λ (f : Flow). (settle ≤ℤ f.day) × (f.day ≤ℤ years_after_of settle 40)) flow flows within))

pub pays-within : (days : PaymentDays) (line : Line) → IsSettlement days.settle → IsLine days line → All (λ pay. (days.settle ≤ℤ pay.day) × (pay.day ≤ℤ years_after_of days.settle 40)) (pay_coefficients days line)
pays-within days line h is =
    zip-within days.settle 0 (pay_coefficients days line) (line_payments days line 0) (coefficients-enclose days line h is 0).pays (line_payments-within days line 0 h is)

-- the payments of a line's schedule fall within forty years
pub schedule-within : (days : PaymentDays) (line : Line) → IsSettlement days.settle → IsLine days line → All (λ payment. (days.settle ≤ℤ payment.day) × (payment.day ≤ℤ years_after_of days.settle 40)) (schedule_of days line)
schedule-within days line h is =
    let pay : ScheduledPayment → PayCoefficients = pay_by (kind_rate line.kind) line.step in
    let P : PayCoefficients → Type 0 = λ pay. (days.settle ≤ℤ pay.day) × (pay.day ≤ℤ years_after_of days.settle 40) in
    λ k d few. subst P (get_or-map pay (schedule_of days line) k d) (pays-within days line h is k (pay d) (omega (arith, length-map (schedule_of days line) pay, few)))
