-- The least of a line within an interval is at most its reduced cost at each permitted number of units there.
use Rattle.std.proofs.Common.{◌≡◌, ◌∙◌, ℕ, suc, ◌+◌, ◌*◌, ◌≤◌, ◌==◌, List, [], ◌∷◌, refl, ap, arith, ℤ, pos, negsuc, ◌+ℤ◌, ◌-ℤ◌, ◌*ℤ◌, neg_ℤ, ◌≤ℤ◌, int_le, unsigned_abs, Bool, true, false, if◌then◌else◌, All, inl, inr}
use Rattle.std.proofs.lemmas.Int.{ints, clamps}
use Rattle.std.proofs.lemmas.List.Elements.{All-head, All-tail}
use Rattle.std.proofs.lemmas.List.Sums.{sum_by-cons}
use Rattle.std.proofs.Math.Nat.{mul-le-mul_left}
use Rattle.std.specs.Int.{int_min}
use Rattle.std.specs.List.{AllZip, sum_by}
use borrow.Author.Differences.{product_is}
use Rattle.escrow_units.specs.declared.security.Flow.{Flow}
use Rattle.offer_book.proofs.LineFacts.{line_cost-none, line_payments-none}
use Rattle.offer_book.specs.Book.{BookContents}
use Rattle.offer_book.specs.Coefficients.{EnclosesPayment, EnclosesUnits, cost_coefficients, pay_coefficients}
use Rattle.offer_book.specs.Portfolio.{IsPermittedUnits, line_cost, line_payments}
use Rattle.offer_book.specs.declared.coefficients.PayCoefficients.{PayCoefficients}
use Rattle.offer_book.specs.declared.coefficients.TheConstants.{COEFFICIENT_SCALE}
use Rattle.offer_book.specs.declared.line.Line.{Line}
use Rattle.dual_bound.specs.LeafBound.{cost_worth, credited, form_at, priced_form, least_side, least_by, paid_worth, priced_cost, signed_sum}
use Rattle.node_ranges.specs.Ranges.{LieIn}
use Rattle.dual_bound.specs.declared.form.Form.{Form}
use Rattle.proof_tree.specs.declared.interval.Interval.{Interval}
use Rattle.proof_tree.specs.declared.tree.Leaf.{Leaf}
use Rattle.dual_bound.proofs.Sizes.{abs-neg, pay_slack, pays_slope}
use Rattle.dual_bound.proofs.Signed.{add-mul, mul-add, mul-comm, mul-neg, mul-sub, neg-mul, pos-mul, scale-in, sub-mul}

-- the side of a coefficient by the sign of its weight
side-above : (m low high : ℕ) → least_side (pos m) low high ≡ pos m *ℤ pos low
side-above m low high = at (int_le (pos 0) (pos m)) refl
  where
    at : (t : Bool) → int_le (pos 0) (pos m) ≡ t → (if t then pos m *ℤ pos low else pos m *ℤ pos high) ≡ pos m *ℤ pos low
    at true e = refl
    at false e = absurd (omega (arith, ints))

side-below : (m low high : ℕ) → least_side (negsuc m) low high ≡ negsuc m *ℤ pos high
side-below m low high = at (int_le (pos 0) (negsuc m)) refl
  where
    at : (t : Bool) → int_le (pos 0) (negsuc m) ≡ t → (if t then negsuc m *ℤ pos low else negsuc m *ℤ pos high) ≡ negsuc m *ℤ pos high
    at true e = absurd (omega (arith, ints))
    at false e = refl

-- an amount that is enclosed, times a weight, is at least the side with which it is least
side-le : (weight : ℤ) (low high slack units cents : ℕ) → low * units ≤ COEFFICIENT_SCALE * cents + slack → COEFFICIENT_SCALE * cents ≤ high * units + slack
    → (least_side weight low high *ℤ pos units) ≤ℤ (weight *ℤ pos (COEFFICIENT_SCALE * cents) +ℤ pos (unsigned_abs weight * slack))
side-le (pos m) low high slack units cents least most =
    let side : least_side (pos m) low high *ℤ pos units ≡ pos (m * low * units) =
    ap (λ z. z *ℤ pos units) (side-above m low high ∙ pos-mul m low) ∙ pos-mul (m * low) units in
    omega (arith, ints, side, mul-le-mul_left m least)
side-le (negsuc m) low high slack units cents least most =
    let whole : neg_ℤ (pos (suc m) *ℤ pos high) *ℤ pos units ≡ neg_ℤ (pos (suc m * high * units)) =
    neg-mul (pos (suc m) *ℤ pos high) (pos units) ∙ ap (λ z. neg_ℤ z) (ap (λ z. z *ℤ pos units) (pos-mul (suc m) high) ∙ pos-mul (suc m * high) units) in
    let side : least_side (negsuc m) low high *ℤ pos units ≡ neg_ℤ (pos (suc m * high * units)) =
    ap (λ z. z *ℤ pos units) (side-below m low high ∙ neg-mul (pos (suc m)) (pos high)) ∙ whole in
    omega (arith, ints, side, mul-le-mul_left (suc m) most)

-- what payments are worth by a weight for each day
abbrev worth : (ℤ → ℤ) → List Flow → ℤ
worth weight flows = signed_sum (λ flow. weight flow.day *ℤ pos flow.cents.0) flows

pay-le : (weight : ℤ → ℤ) (units : ℕ) (pay : PayCoefficients) (flow : Flow) → EnclosesPayment units pay flow
    → (least_side (neg_ℤ (weight pay.day)) pay.low pay.high *ℤ pos units)
    ≤ℤ (pos (pay_slack weight pay) -ℤ pos COEFFICIENT_SCALE *ℤ (weight flow.day *ℤ pos flow.cents.0))
pay-le weight units pay flow encloses =
    let side = side-le (neg_ℤ (weight pay.day)) pay.low pay.high pay.slack units flow.cents.0 encloses.amount.least encloses.amount.most in
    let slack = ap (λ n. n * pay.slack) (abs-neg (weight pay.day)) in
    let same = ap (λ day. pos COEFFICIENT_SCALE *ℤ (weight day *ℤ pos flow.cents.0)) encloses.day in
    let scaled = scale-in COEFFICIENT_SCALE flow.cents.0 (weight pay.day) in
    let turned : neg_ℤ (weight pay.day) *ℤ pos (COEFFICIENT_SCALE * flow.cents.0) ≡ neg_ℤ (weight pay.day *ℤ pos (COEFFICIENT_SCALE * flow.cents.0)) =
    mul-comm (neg_ℤ (weight pay.day)) (pos (COEFFICIENT_SCALE * flow.cents.0))
    ∙ (mul-neg (pos (COEFFICIENT_SCALE * flow.cents.0)) (weight pay.day) ∙ ap (λ z. neg_ℤ z) (mul-comm (pos (COEFFICIENT_SCALE * flow.cents.0)) (weight pay.day))) in
    joined _ _ _ _ _ _ _ side slack same scaled turned
  where
    joined : (left product back scaled there : ℤ) (given slack : ℕ) → left ≤ℤ (product +ℤ pos given) → given ≡ slack → back ≡ there → back ≡ scaled → product ≡ neg_ℤ scaled
        → left ≤ℤ (pos slack -ℤ there)
    joined left product back scaled there given slack side given_is same back_is product_is = omega (arith, ints)

pays-le : (weight : ℤ → ℤ) (units : ℕ) (pays : List PayCoefficients) (flows : List Flow) → AllZip (EnclosesPayment units) pays flows
    → (pays_slope weight pays *ℤ pos units) ≤ℤ (pos (sum_by (pay_slack weight) pays) -ℤ pos COEFFICIENT_SCALE *ℤ worth weight flows)
pays-le weight units [] [] all = omega (arith, ints)
pays-le weight units [] (flow ∷ flows) all = absurd all
pays-le weight units (pay ∷ pays) [] all = absurd all
pays-le weight units (pay ∷ pays) (flow ∷ flows) all =
    let first = pay-le weight units pay flow all.0 in
    let rest = pays-le weight units pays flows all.1 in
    let slope = add-mul (least_side (neg_ℤ (weight pay.day)) pay.low pay.high) (pays_slope weight pays) (pos units) in
    let paid = mul-add (pos COEFFICIENT_SCALE) (weight flow.day *ℤ pos flow.cents.0) (worth weight flows) in
    let slack = sum_by-cons (pay_slack weight) pay pays in
    joined _ _ _ _ _ _ _ _ _ first rest slope paid slack
  where
    joined : (whole a b c d e : ℤ) (slack now later : ℕ) → a ≤ℤ (pos now -ℤ c) → b ≤ℤ (pos later -ℤ d) → whole ≡ a +ℤ b → e ≡ c +ℤ d → slack ≡ now + later
        → whole ≤ℤ (pos slack -ℤ e)
    joined whole a b c d e slack now later first rest slope paid all_slack = omega (arith, ints)

-- the form of a line is never above its reduced cost
form-le : (n : ℕ) (book : BookContents) (leaf : Leaf) (line : Line) (units : ℕ) → EnclosesUnits book.days line units
    → form_at (priced_form n book leaf line) units ≤ℤ priced_cost n book leaf line units
unfolding priced_form priced_cost
form-le n book leaf line units encloses =
    let weight = paid_worth n book leaf line.kind in
    let own = cost_worth leaf line.kind in
    let costs = cost_coefficients line in
    let flows = line_payments book.days line units in
    let pays = pay_coefficients book.days line in
    let side = side-le own costs.low costs.high costs.slack units (line_cost line units) encloses.costs.least encloses.costs.most in
    let paid = pays-le weight units pays flows encloses.pays in
    let slope = add-mul (least_side own costs.low costs.high) (pays_slope weight pays) (pos units) in
    let exact = mul-sub (pos COEFFICIENT_SCALE) (own *ℤ pos (line_cost line units)) (worth weight flows) in
    let scaled = scale-in COEFFICIENT_SCALE (line_cost line units) own in
    joined _ _ _ _ _ _ _ _ _ side paid slope exact scaled
  where
    joined : (whole a b c d e f : ℤ) (now later : ℕ) → a ≤ℤ (c +ℤ pos now) → b ≤ℤ (pos later -ℤ d) → whole ≡ a +ℤ b → e ≡ f -ℤ d → f ≡ c
        → (whole -ℤ pos (now + later)) ≤ℤ e
    joined whole a b c d e f now later side paid slope exact scaled = omega (arith, ints)

-- an affine form between two numbers is at least the least at them
affine-least : (form : Form) (a x b : ℕ) → a ≤ x → x ≤ b → int_min (form_at form a) (form_at form b) ≤ℤ form_at form x
affine-least form a x b from to = at form.slope
  where
    at : (slope : ℤ) → int_min (slope *ℤ pos a -ℤ pos form.slack) (slope *ℤ pos b -ℤ pos form.slack) ≤ℤ (slope *ℤ pos x -ℤ pos form.slack)
    at (pos m) = omega (arith, ints, clamps, mul-le-mul_left m from)
    at (negsuc m) = omega (arith, ints, clamps, mul-le-mul_left (suc m) to)

-- no units have no reduced cost
worth-none : (weight : ℤ → ℤ) (flows : List Flow) → All (λ flow. flow.cents.0 ≡ 0) flows → worth weight flows ≡ pos 0
worth-none weight [] none = refl
worth-none weight (flow ∷ flows) none =
    let first : weight flow.day *ℤ pos flow.cents.0 ≡ weight flow.day *ℤ pos 0 = ap (λ n. weight flow.day *ℤ pos n) (All-head (λ (f : Flow). f.cents.0 ≡ 0) flow flows none) in
    let nothing : weight flow.day *ℤ pos 0 ≡ pos 0 = omega (arith, ints) in
    let rest = worth-none weight flows (All-tail (λ (f : Flow). f.cents.0 ≡ 0) flow flows none) in
    (λ i. (first ∙ nothing) i +ℤ rest i)

priced_cost-none : (n : ℕ) (book : BookContents) (leaf : Leaf) (line : Line) (units : ℕ) → units ≡ 0 → priced_cost n book leaf line units ≡ pos 0
unfolding priced_cost
priced_cost-none n book leaf line units none =
    let own : cost_worth leaf line.kind *ℤ pos (line_cost line units) ≡ cost_worth leaf line.kind *ℤ pos 0 = ap (λ m. cost_worth leaf line.kind *ℤ pos m) (line_cost-none line units none) in
    let nothing : cost_worth leaf line.kind *ℤ pos 0 ≡ pos 0 = omega (arith, ints) in
    let paid = worth-none (paid_worth n book leaf line.kind) (line_payments book.days line units) (line_payments-none book.days line units none) in
    (λ i. pos COEFFICIENT_SCALE *ℤ ((own ∙ nothing) i -ℤ paid i))

-- where each unit is credited a load, a form is never above what units cost less what they are credited
credited-le : (n : ℕ) (book : BookContents) (leaf : Leaf) (line : Line) (own_load : ℤ) (units : ℕ) → EnclosesUnits book.days line units
    → form_at (credited (priced_form n book leaf line) own_load) units ≤ℤ (priced_cost n book leaf line units -ℤ own_load *ℤ pos units)
credited-le n book leaf line own_load units encloses =
    let exact = form-le n book leaf line units encloses in
    let apart = sub-mul (priced_form n book leaf line).slope own_load (pos units) in
    joined _ _ _ _ (priced_form n book leaf line).slack exact apart
  where
    joined : (whole sloped loaded cost : ℤ) (slack : ℕ) → (sloped -ℤ pos slack) ≤ℤ cost → whole ≡ sloped -ℤ loaded → (whole -ℤ pos slack) ≤ℤ (cost -ℤ loaded)
    joined whole sloped loaded cost slack exact apart = omega (arith, ints, exact, apart)

-- no units cost nothing, and are credited nothing
pub credited-none : (n : ℕ) (book : BookContents) (leaf : Leaf) (line : Line) (own_load : ℤ) (units : ℕ) → units ≡ 0 → priced_cost n book leaf line units -ℤ own_load *ℤ pos units ≡ pos 0
credited-none n book leaf line own_load units none =
    let cost = priced_cost-none n book leaf line units none in
    let own : own_load *ℤ pos units ≡ own_load *ℤ pos 0 = ap (λ (m : ℕ). own_load *ℤ pos m) none in
    let nothing : own_load *ℤ pos 0 ≡ pos 0 = omega (arith, ints) in
    omega (arith, ints, cost, own, nothing)

pub least-le : (n : ℕ) (book : BookContents) (leaf : Leaf) (line : Line) (own_load : ℤ) (interval : Interval) (units : ℕ) → EnclosesUnits book.days line units
    → IsPermittedUnits line units → LieIn interval units
    → least_by n book leaf line own_load interval ≤ℤ (priced_cost n book leaf line units -ℤ own_load *ℤ pos units)
least-le n book leaf line own_load interval units encloses permitted inside = at (interval.low == interval.high) refl (interval.low == 0) refl
  where
    form : Form
    form = credited (priced_form n book leaf line) own_load

    exact : form_at form units ≤ℤ (priced_cost n book leaf line units -ℤ own_load *ℤ pos units)
    exact = credited-le n book leaf line own_load units encloses

    between : (a : ℕ) → a ≤ units → int_min (form_at form a) (form_at form interval.high) ≤ℤ (priced_cost n book leaf line units -ℤ own_load *ℤ pos units)
    between a from = omega (arith, ints, exact, affine-least form a units interval.high from inside.high)

    from_zero : IsPermittedUnits line units → int_min (pos 0) (int_min (form_at form line.least) (form_at form interval.high)) ≤ℤ (priced_cost n book leaf line units -ℤ own_load *ℤ pos units)
    from_zero (inl none) = omega (arith, ints, clamps, credited-none n book leaf line own_load units none)
    from_zero (inr some) = omega (arith, ints, clamps, between line.least some.0)

    at : (one : Bool) → (interval.low == interval.high) ≡ one → (zero_low : Bool) → (interval.low == 0) ≡ zero_low
        → (if one
        then priced_cost n book leaf line interval.low -ℤ own_load *ℤ pos interval.low
        else if zero_low
        then int_min (pos 0) (int_min (form_at form line.least) (form_at form interval.high))
        else int_min (form_at form interval.low) (form_at form interval.high)) ≤ℤ (priced_cost n book leaf line units -ℤ own_load *ℤ pos units)
    at true one zero_low z =
        let here : interval.low ≡ units = grind (arith, inside.low, inside.high) in
        omega (arith, ints, ap (λ (x : ℕ). priced_cost n book leaf line x -ℤ own_load *ℤ pos x) here)
    at false one true z = from_zero permitted
    at false one false z = between interval.low inside.low
