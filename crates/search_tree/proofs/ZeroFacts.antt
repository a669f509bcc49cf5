-- The leaf of prices of 0, which weighs the cost: its bound is never below 0.
use Rattle.std.proofs.Common.{◌≡◌, ◌∙◌, inl, inr, ℕ, zero, suc, ◌+◌, ◌*◌, ◌^◌, ◌≤◌, ◌==◌, Bool, true, false, if◌then◌else◌, List, [], ◌∷◌, replicate, refl, sym, ap, subst, arith, ℤ, pos, ◌+ℤ◌, ◌-ℤ◌, ◌*ℤ◌, ◌≤ℤ◌, neg_ℤ, int_le, unsigned_abs}
use Rattle.std.specs.Int.{int_min}
use Rattle.std.specs.List.{All, AllZip, sum_by, zip}
use Rattle.std.proofs.Math.Nat.{le-mul_of_pos_right, mul-le-mul_right}
use Rattle.std.proofs.lemmas.Bool.Decides.{nat_tests}
use Rattle.std.proofs.lemmas.Int.{clamps, ints}
use Rattle.std.proofs.lemmas.List.Elements.{All-head, All-tail}
use Rattle.std.proofs.lemmas.List.Sums.{sum_by-cons}
use Rattle.std.proofs.lemmas.Nat.{le-div}
use Rattle.dual_bound.proofs.Soundness.{all-lines}
use Rattle.dual_bound.proofs.BoundSizes.{bound-plain, within-plain}
use Rattle.dual_bound.specs.LeafBound.{bound_of, cost_worth, form_at, least_side, least_within, limit_multiplier, limit_price, paid_worth, price_on, priced_cost, priced_form, signed_sum}
use Rattle.node_ranges.specs.Ranges.{AreTight, IsTight, RangesContents}
use Rattle.proof_tree.specs.declared.prices.TheConstants.{PRICE_SCALE}
use Rattle.dual_bound.specs.declared.form.Form.{Form}
use Rattle.proof_tree.specs.declared.interval.Interval.{Interval}
use Rattle.proof_tree.specs.declared.tree.Leaf.{Leaf}
use Rattle.escrow_units.specs.declared.security.Flow.{Flow}
use Rattle.offer_book.specs.Book.{BookContents, IsBook, IsLine, IsSecurity}
use Rattle.offer_book.specs.Coefficients.{cost_coefficients, kind_costs, pay_coefficients}
use Rattle.offer_book.specs.Portfolio.{line_cost, line_payments}
use Rattle.offer_book.specs.declared.coefficients.TheConstants.{COEFFICIENT_SCALE}
use Rattle.offer_book.specs.declared.line.Line.{Line}
use Rattle.offer_book.specs.declared.line.LineKind.{LineKind}
use Rattle.offer_book.specs.declared.line.LineKind.TheVariants.{Cash, Market, Security}
use Rattle.offer_book.specs.declared.payment_days.PaymentDays.{PaymentDays}

abbrev pub zeros : ℕ → Leaf
zeros count = record { rho = PRICE_SCALE; mu = 0; prices = replicate count 0; weights = [] }

-- ---- nothing that is paid is worth anything
price-zero : (needs : List Flow) (count : ℕ) (day : ℤ) → price_on needs (replicate count 0) day ≡ 0
unfolding price_on
price-zero [] count day = refl
price-zero (need ∷ needs) zero day = refl
price-zero (need ∷ needs) (suc count) day = by (int_le day need.day) (price_on needs (replicate count 0) day) (price-zero needs count day)
  where
    by : (b : Bool) (later : ℕ) → later ≡ 0 → (if b then 0 else later) ≡ 0
    by true later is = refl
    by false later is = is

limit-zero : (n : ℕ) (settle : ℤ) (weight : ℕ) (day : ℤ) → weight ≡ 0 → limit_price n settle weight day ≡ 0
limit-zero n settle weight day none = rw none (omega arith)

weight-zero : (count : ℕ) (kind : LineKind) → limit_multiplier (zeros count) kind ≡ 0
weight-zero count Cash = refl
weight-zero count (Security slgs) = refl
weight-zero count (Market note) = refl

worth-zero : (n : ℕ) (book : BookContents) (count : ℕ) (kind : LineKind) (day : ℤ) → paid_worth n book (zeros count) kind day ≡ pos 0
worth-zero n book count kind day =
    (λ i. pos (price-zero book.needs count day i) -ℤ pos (limit-zero n book.days.settle (limit_multiplier (zeros count) kind) day (weight-zero count kind) i))

cost-worth : (count : ℕ) (kind : LineKind) → cost_worth (zeros count) kind ≡ pos PRICE_SCALE
cost-worth count kind = ap (λ (w : ℕ). pos PRICE_SCALE -ℤ pos w) (weight-zero count kind)

sum-zero : {X : Type 0} (f : X → ℤ) (xs : List X) → ((x : X) → f x ≡ pos 0) → signed_sum f xs ≡ pos 0
sum-zero f [] none = refl
sum-zero f (x ∷ xs) none = (λ i. none x i +ℤ sum-zero f xs none i)

amounts-zero : {X : Type 0} (f : X → ℕ) (xs : List X) → ((x : X) → f x ≡ 0) → sum_by f xs ≡ 0
amounts-zero f [] none = refl
amounts-zero f (x ∷ xs) none = omega (arith, sum_by-cons f x xs, none x, amounts-zero f xs none)

-- ---- one line
reduced-some : (n : ℕ) (book : BookContents) (count : ℕ) (line : Line) (units : ℕ) → pos 0 ≤ℤ priced_cost n book (zeros count) line units
unfolding priced_cost
reduced-some n book count line units =
    by (cost_worth (zeros count) line.kind) (signed_sum (λ flow. paid_worth n book (zeros count) line.kind flow.day *ℤ pos flow.cents.0) (line_payments book.days line units)) (line_cost line units)
    (cost-worth count line.kind)
    (sum-zero (λ flow. paid_worth n book (zeros count) line.kind flow.day *ℤ pos flow.cents.0) (line_payments book.days line units)
    (λ flow. ap (λ (w : ℤ). w *ℤ pos flow.cents.0) (worth-zero n book count line.kind flow.day) ∙ nothing flow.cents.0))
  where
    nothing : (cents : ℕ) → pos 0 *ℤ pos cents ≡ pos 0
    nothing cents = omega (arith, ints)

    by : (own paid : ℤ) (cost : ℕ) → own ≡ pos PRICE_SCALE → paid ≡ pos 0 → pos 0 ≤ℤ (pos COEFFICIENT_SCALE *ℤ (own *ℤ pos cost -ℤ paid))
    by own paid cost is none = rw (is, none) (omega (arith, ints))

-- the slack of what a line costs is no more than what one unit costs
slack-low : (days : PaymentDays) (line : Line) → IsLine days line → (cost_coefficients line).slack ≤ (cost_coefficients line).low
slack-low days line is = by line.kind refl is
  where
    by : (kind : LineKind) → line.kind ≡ kind → IsLine days line → (kind_costs kind line.step).slack ≤ (kind_costs kind line.step).low
    by Cash same own = omega arith
    by (Security slgs) same own = omega arith
    by (Market note) same (inl cash) = absurd (let clash : Market note ≡ Cash = sym same ∙ cash.kind in cc)
    by (Market note) same (inr own) =
        let is_note = (subst-security (Market note) same own.security).1 in
        let price = is_note.least_price in
        let product : 100 * note.price.0 ≤ line.step * note.price.0 = mul-le-mul_right note.price.0 own.step_at_least in
        let scaled : COEFFICIENT_SCALE * 10 ^ 10 ≤ COEFFICIENT_SCALE * (line.step * note.price.0) = omega (arith, product, price) in
        omega (arith, le-div COEFFICIENT_SCALE (COEFFICIENT_SCALE * (line.step * note.price.0)) (10 ^ 10) (omega arith) scaled)
      where
        subst-security : (kind : LineKind) → line.kind ≡ kind → IsSecurity days line.kind → IsSecurity days kind
        subst-security kind same is = subst (IsSecurity days) same is

form-some : (n : ℕ) (book : BookContents) (count : ℕ) (line : Line) (units : ℕ) → IsLine book.days line → 1 ≤ units → pos 0 ≤ℤ form_at (priced_form n book (zeros count) line) units
unfolding priced_form
form-some n book count line units is some =
    by (cost_worth (zeros count) line.kind) (cost_coefficients line).low (cost_coefficients line).high (cost_coefficients line).slack
    (signed_sum (λ pay. least_side (neg_ℤ (paid_worth n book (zeros count) line.kind pay.day)) pay.low pay.high) (pay_coefficients book.days line))
    (sum_by (λ pay. unsigned_abs (paid_worth n book (zeros count) line.kind pay.day) * pay.slack) (pay_coefficients book.days line))
    (cost-worth count line.kind)
    (sum-zero (λ pay. least_side (neg_ℤ (paid_worth n book (zeros count) line.kind pay.day)) pay.low pay.high) (pay_coefficients book.days line)
    (λ pay. ap (λ (w : ℤ). least_side (neg_ℤ w) pay.low pay.high) (worth-zero n book count line.kind pay.day) ∙ side pay.low pay.high))
    (amounts-zero (λ pay. unsigned_abs (paid_worth n book (zeros count) line.kind pay.day) * pay.slack) (pay_coefficients book.days line)
    (λ pay. ap (λ (w : ℤ). unsigned_abs w * pay.slack) (worth-zero n book count line.kind pay.day) ∙ none pay.slack))
    (slack-low book.days line is)
  where
    side : (low high : ℕ) → least_side (neg_ℤ (pos 0)) low high ≡ pos 0
    side low high = omega (arith, ints)

    none : (slack : ℕ) → unsigned_abs (pos 0) * slack ≡ 0
    none slack = omega arith

    by : (own : ℤ) (low high slack : ℕ) (paid : ℤ) (more : ℕ) → own ≡ pos PRICE_SCALE → paid ≡ pos 0 → more ≡ 0 → slack ≤ low
        → pos 0 ≤ℤ ((least_side own low high +ℤ paid) *ℤ pos units -ℤ pos (unsigned_abs own * slack + more))
    by own low high slack paid more is nothing no_more less = rw (is, nothing, no_more) (grow low slack units some less)
      where
        grow : (low slack units : ℕ) → 1 ≤ units → slack ≤ low → pos 0 ≤ℤ ((pos PRICE_SCALE *ℤ pos low +ℤ pos 0) *ℤ pos units -ℤ pos (PRICE_SCALE * slack + 0))
        grow low slack units some less = omega (arith, ints, less, le-mul_of_pos_right low some)

least-some : (days : PaymentDays) (line : Line) → IsLine days line → 1 ≤ line.least
least-some days line (inl cash) = omega (arith, cash.least)
least-some days line (inr security) = security.least

line-some : (n : ℕ) (book : BookContents) (count : ℕ) (line : Line) (interval : Interval) → IsLine book.days line → IsTight line interval → pos 0 ≤ℤ least_within n book (zeros count) line interval
line-some n book count line interval is tight =
    subst (λ (z : ℤ). pos 0 ≤ℤ z) (sym (within-plain n book (zeros count) line interval refl)) (by (interval.low == interval.high) refl (interval.low == 0) refl)
  where
    form : Form
    form = priced_form n book (zeros count) line

    at : (units : ℕ) → 1 ≤ units → pos 0 ≤ℤ form_at form units
    at units some = form-some n book count line units is some

    by : (one : Bool) → (interval.low == interval.high) ≡ one → (none : Bool) → (interval.low == 0) ≡ none
        → pos 0 ≤ℤ (if one then priced_cost n book (zeros count) line interval.low
        else if none then int_min (pos 0) (int_min (form_at form line.least) (form_at form interval.high))
        else int_min (form_at form interval.low) (form_at form interval.high))
    by true e none f = reduced-some n book count line interval.low
    by false e true f =
        let apart : interval.low ≡ interval.high → ⊥ = (λ same. grind (arith, nat_tests, e, same)) in
        let low : interval.low ≡ 0 = grind (arith, nat_tests, f) in
        omega (arith, ints, clamps, at line.least (least-some book.days line is), at interval.high (omega (arith, apart, low)))
    by false e false f =
        let some : interval.low ≡ 0 → ⊥ = (λ same. grind (arith, nat_tests, f, same)) in
        omega (arith, ints, clamps, at interval.low (omega (arith, some)), at interval.high (omega (arith, some, tight.ordered)))

-- ---- all lines
lines-some : (n : ℕ) (book : BookContents) (count : ℕ) (lines : List Line) (ranges : List Interval) → All (IsLine book.days) lines → AllZip IsTight lines ranges
    → pos 0 ≤ℤ signed_sum (λ (p : Line × Interval). least_within n book (zeros count) p.0 p.1) (zip lines ranges)
lines-some n book count [] ranges are tight = omega (arith, ints)
lines-some n book count (line ∷ lines) [] are tight = absurd tight
lines-some n book count (line ∷ lines) (interval ∷ ranges) are tight =
    omega (arith, ints, line-some n book count line interval (All-head (IsLine book.days) line lines are) tight.0, lines-some n book count lines ranges (All-tail (IsLine book.days) line lines are) tight.1)

pub zeros-some : (n : ℕ) (book : BookContents) (count : ℕ) (ranges : RangesContents) → IsBook book → AreTight book ranges → pos 0 ≤ℤ bound_of n book ranges (zeros count)
zeros-some n book count ranges limits tight =
    omega (arith, ints, bound-plain n book ranges (zeros count) refl, lines-some n book count book.lines ranges.lines (all-lines book.days book.lines limits.lines) tight.lines)
