-- Forms, reduced costs and bounds within 128 bits, and between -10^37 and 10^37.
use Rattle.std.proofs.Common.{◌≡◌, ◌∙◌, ℕ, zero, suc, ◌+◌, ◌*◌, ◌^◌, ◌<◌, ◌≤◌, ◌==◌, refl, sym, ap, subst, arith, inl, inr, ◌⊎◌, List, [], ◌∷◌, All, ℤ, pos, ◌+ℤ◌, ◌-ℤ◌, ◌*ℤ◌, unsigned_abs, Bool, true, false, if◌then◌else◌, length, get_or, take}
use Rattle.std.specs.Int.{int_min}
use Rattle.std.specs.List.{AllZip, sum_by, zip}
use Rattle.std.proofs.Math.Nat.{mul-le-mul, mul-le-mul_left, mul-le-mul_right}
use Rattle.std.proofs.lemmas.Int.{clamps, ints, unsigned_abs-mul}
use Rattle.std.proofs.lemmas.List.Elements.{All-head, All-tail}
use Rattle.std.proofs.lemmas.List.{take_all}
use Rattle.std.proofs.lemmas.List.Sums.{sum_by-cons, sum_by-take-le, sum_by_more}
use Rattle.std.proofs.lemmas.Slice.Zip.{length-zip}
use Rattle.escrow_units.specs.Flows.{total}
use Rattle.escrow_units.specs.SlgsTerms.{IsSettlement}
use Rattle.escrow_units.specs.declared.limits.TheConstants.{AMOUNT_LIMIT}
use Rattle.escrow_units.specs.declared.security.Flow.{Flow}
use Rattle.offer_book.proofs.CoefficientBounds.{pays-close, pays-high_little}
use Rattle.offer_book.proofs.LineFacts.{cash-at_most, line_payments-little, line_payments-total, par-at_most, security-at_most}
use Rattle.offer_book.specs.Book.{AreLines, BookContents, IsBook, IsCashLine, IsLine, IsSecurityLine}
use Rattle.offer_book.specs.Coefficients.{cost_coefficients, pay_coefficients}
use Rattle.offer_book.specs.Portfolio.{line_cost, line_payments}
use Rattle.offer_book.specs.declared.coefficients.TheConstants.{COEFFICIENT_SCALE}
use Rattle.offer_book.specs.declared.line.Line.{Line}
use Rattle.dual_bound.specs.LeafBound.{bound_of, cost_worth, credited, form_at, least_by, least_of_form, form_of, least_side, least_within, paid_worth, priced_cost, priced_form, priced_needs, reduced_cost, signed_sum, unit_load, weighed_ends}
use Rattle.dual_bound.specs.Loads.{IsLoad}
use Rattle.offer_book.specs.Sums.{coarse_step}
use Rattle.proof_tree.specs.declared.weights.SumWeight.{SumWeight}
use Rattle.node_ranges.specs.Ranges.{AreOf, HasRoomFor, IsOrdered, RangesContents}
use Rattle.proof_tree.specs.Tree.{IsLeaf}
use Rattle.dual_bound.specs.declared.form.Form.{Form}
use Rattle.proof_tree.specs.declared.prices.TheConstants.{PRICE_SCALE}
use Rattle.proof_tree.specs.declared.interval.Interval.{Interval}
use Rattle.proof_tree.specs.declared.tree.Leaf.{Leaf}
use Rattle.dual_bound.proofs.FormFacts.{priced_form-is}
use Rattle.dual_bound.proofs.LineBound.{credited-none}
use Rattle.dual_bound.proofs.LoadFacts.{ends-small, load-is}
use Rattle.dual_bound.proofs.Signed.{signed_sum_more, sub-mul}
use Rattle.dual_bound.proofs.Sizes.{IsLight, abs-sum, cash-once, cost-sized, cost_worth-light, paid_worth-light, pays-few, pays-sized, pays_slack-small, pays_slope, pays_slope-small, pays_slope-units, side-small}
use Rattle.offer_book.specs.declared.payment_days.PaymentDays.{PaymentDays}

-- ---- the form of a line
-- a slope, by the step of the line and how many dates it pays on
form-slope : (n : ℕ) (book : BookContents) (leaf : Leaf) (line : Line) → IsSettlement book.days.settle → IsLeaf (length book.needs) leaf → IsLine book.days line
    → unsigned_abs (priced_form n book leaf line).slope
    ≤ PRICE_SCALE * (4_000_000_000 * line.step) + length (pay_coefficients book.days line) * (2 * PRICE_SCALE * (1_400_000_000 * line.step))
form-slope n book leaf line h well is =
    let weight = paid_worth n book leaf line.kind in
    let own = cost_worth leaf line.kind in
    let costs = cost-sized book.days line is in
    let first = side-small own (cost_coefficients line).low (cost_coefficients line).high PRICE_SCALE (4_000_000_000 * line.step) (cost_worth-light leaf line.kind well.cost well.limit) costs.low costs.high in
    let rest = pays_slope-small weight line.step (pay_coefficients book.days line) (paid_worth-light n book leaf line.kind well) (pays-sized book.days line h is) in
    omega (
      arith,
      first,
      rest,
      ap (λ (f : Form). unsigned_abs f.slope) (priced_form-is n book leaf line),
      abs-sum (least_side own (cost_coefficients line).low (cost_coefficients line).high) (pays_slope weight (pay_coefficients book.days line)),
    )

pub form-slack : (n : ℕ) (book : BookContents) (leaf : Leaf) (line : Line) → IsSettlement book.days.settle → IsLeaf (length book.needs) leaf → IsLine book.days line
    → (priced_form n book leaf line).slack ≤ 10 ^ 23
form-slack n book leaf line h well is =
    let weight = paid_worth n book leaf line.kind in
    let first = mul-le-mul (cost_worth-light leaf line.kind well.cost well.limit) (cost-sized book.days line is).slack in
    let rest = pays_slack-small weight line.step (pay_coefficients book.days line) (paid_worth-light n book leaf line.kind well) (pays-sized book.days line h is) in
    omega (arith, first, rest, ap (λ (f : Form). f.slack) (priced_form-is n book leaf line), few is)
  where
    few : IsLine book.days line → length (pay_coefficients book.days line) ≤ 84
    few (inl cash) = omega (arith, cash-once book.days line cash)
    few (inr security) = pays-few book.days line h security

-- what units of a line of securities add by the slope
form-units : (n : ℕ) (book : BookContents) (leaf : Leaf) (line : Line) (units : ℕ) → IsSettlement book.days.settle → IsLeaf (length book.needs) leaf → IsSecurityLine book.days line → units ≤ line.most
    → unsigned_abs (priced_form n book leaf line).slope * units ≤ 4 * 10 ^ 33
form-units n book leaf line units h well security most =
    let weight = paid_worth n book leaf line.kind in
    let own = cost_worth leaf line.kind in
    let costs = cost-sized book.days line (inr security) in
    let first = side-small own (cost_coefficients line).low (cost_coefficients line).high PRICE_SCALE (4_000_000_000 * line.step) (cost_worth-light leaf line.kind well.cost well.limit) costs.low costs.high in
    let rest = pays_slope-units weight units (pay_coefficients book.days line) (paid_worth-light n book leaf line.kind well) (pays-close book.days line) in
    let sum : unsigned_abs (priced_form n book leaf line).slope
    ≤ unsigned_abs (least_side own (cost_coefficients line).low (cost_coefficients line).high) + unsigned_abs (pays_slope weight (pay_coefficients book.days line)) =
    omega (
      arith,
      ap (λ (f : Form). unsigned_abs f.slope) (priced_form-is n book leaf line),
      abs-sum (least_side own (cost_coefficients line).low (cost_coefficients line).high) (pays_slope weight (pay_coefficients book.days line)),
    ) in
    omega (
      arith,
      mul-le-mul_right units sum,
      mul-le-mul_right units first,
      rest,
      par-at_most book.days line units security most,
      pays-high_little book.days line units h security most,
    )

form-cash : (n : ℕ) (book : BookContents) (leaf : Leaf) (line : Line) (units : ℕ) → IsSettlement book.days.settle → IsLeaf (length book.needs) leaf → IsCashLine line → units ≤ line.most
    → unsigned_abs (priced_form n book leaf line).slope * units ≤ 7 * 10 ^ 34
form-cash n book leaf line units h well cash most =
    let slope = form-slope n book leaf line h well (inl cash) in
    let once = ap (λ k. k * (2 * PRICE_SCALE * (1_400_000_000 * line.step))) (cash-once book.days line cash) in
    let whole : unsigned_abs (priced_form n book leaf line).slope ≤ 6_800_000_000_000_000_000_000 = omega (arith, slope, once, cash.step) in
    omega (arith, mul-le-mul whole (few line.most most cash.most))
  where
    few : (most : ℕ) → units ≤ most → most ≤ AMOUNT_LIMIT → units ≤ 10_000_000_000_000
    few most a b = omega arith

pub form-times : (n : ℕ) (book : BookContents) (leaf : Leaf) (line : Line) (units : ℕ) → IsSettlement book.days.settle → IsLeaf (length book.needs) leaf → IsLine book.days line → units ≤ line.most
    → unsigned_abs (priced_form n book leaf line).slope * units ≤ 7 * 10 ^ 34
form-times n book leaf line units h well (inl cash) most = form-cash n book leaf line units h well cash most
form-times n book leaf line units h well (inr security) most = omega (arith, form-units n book leaf line units h well security most)

at-small : (form : Form) (units most : ℕ) → unsigned_abs form.slope * units ≤ most → form.slack ≤ 10 ^ 23 → unsigned_abs (form_at form units) ≤ most + 10 ^ 23
at-small form units most slope slack = omega (arith, ints, unsigned_abs-mul form.slope (pos units))

-- ---- reduced costs
worth-small : (weight : ℤ → ℤ) (flows : List Flow) → IsLight weight → unsigned_abs (signed_sum (λ (flow : Flow). weight flow.day *ℤ pos flow.cents.0) flows) ≤ 2 * PRICE_SCALE * total flows
worth-small weight [] light = omega arith
worth-small weight (flow ∷ flows) light =
    omega (
      arith,
      abs-sum (weight flow.day *ℤ pos flow.cents.0) (signed_sum (λ (f : Flow). weight f.day *ℤ pos f.cents.0) flows),
      unsigned_abs-mul (weight flow.day) (pos flow.cents.0),
      mul-le-mul_right flow.cents.0 (light flow.day),
      sum_by-cons (λ (f : Flow). f.cents.0) flow flows,
      worth-small weight flows light,
    )

reduced-within : (n : ℕ) (book : BookContents) (leaf : Leaf) (line : Line) (units cost paid : ℕ) → IsLeaf (length book.needs) leaf
    → line_cost line units ≤ cost → total (line_payments book.days line units) ≤ paid
    → unsigned_abs (priced_cost n book leaf line units) ≤ COEFFICIENT_SCALE * (PRICE_SCALE * cost + 2 * PRICE_SCALE * paid)
unfolding priced_cost
reduced-within n book leaf line units cost paid well few little =
    let weight = paid_worth n book leaf line.kind in
    let own = cost_worth leaf line.kind in
    let sum = signed_sum (λ (flow : Flow). weight flow.day *ℤ pos flow.cents.0) (line_payments book.days line units) in
    let worth = worth-small weight (line_payments book.days line units) (paid_worth-light n book leaf line.kind well) in
    let first = mul-le-mul (cost_worth-light leaf line.kind well.cost well.limit) few in
    let product = unsigned_abs-mul own (pos (line_cost line units)) in
    let whole = unsigned_abs-mul (pos COEFFICIENT_SCALE) (own *ℤ pos (line_cost line units) -ℤ sum) in
    let apart = abs-apart (own *ℤ pos (line_cost line units)) sum in
    let inner : unsigned_abs (own *ℤ pos (line_cost line units) -ℤ sum) ≤ PRICE_SCALE * cost + 2 * PRICE_SCALE * paid = omega (arith, apart, worth, first, product, little) in
    omega (arith, whole, mul-le-mul_left COEFFICIENT_SCALE inner)
  where
    abs-apart : (a b : ℤ) → unsigned_abs (a -ℤ b) ≤ unsigned_abs a + unsigned_abs b
    abs-apart a b = omega (arith, ints)

reduced-cash : (n : ℕ) (book : BookContents) (leaf : Leaf) (line : Line) (units : ℕ) → IsSettlement book.days.settle → IsLeaf (length book.needs) leaf → IsCashLine line → units ≤ line.most
    → unsigned_abs (priced_cost n book leaf line units) ≤ 5 * 10 ^ 34
reduced-cash n book leaf line units h well cash most =
    omega (arith, reduced-within n book leaf line units (10 ^ 13) (2 * 10 ^ 13) well (cash-at_most line units cash most) (omega (arith, line_payments-total book.days line units h (inl cash) most)))

reduced-security : (n : ℕ) (book : BookContents) (leaf : Leaf) (line : Line) (units : ℕ) → IsSettlement book.days.settle → IsLeaf (length book.needs) leaf → IsSecurityLine book.days line → units ≤ line.most
    → unsigned_abs (priced_cost n book leaf line units) ≤ 4 * 10 ^ 33
reduced-security n book leaf line units h well security most =
    omega (arith, reduced-within n book leaf line units (316 * 10 ^ 9) (134 * 10 ^ 10) well (security-at_most book.days line units security most) (line_payments-little book.days line units h security most))

-- ---- the least of a line
min-small : (a b : ℤ) (most : ℕ) → unsigned_abs a ≤ most → unsigned_abs b ≤ most → unsigned_abs (int_min a b) ≤ most
min-small a b most first second = omega (arith, ints, clamps)

-- a cost or a form, less what units are credited
apart-small : (a b : ℤ) (few less most : ℕ) → unsigned_abs a ≤ few → unsigned_abs b ≤ less → few + less ≤ most → unsigned_abs (a -ℤ b) ≤ most
apart-small a b few less most first second sum = omega (arith, ints, first, second, sum)

load-small : (own_load : ℤ) (line : Line) (units : ℕ) → IsLoad line own_load → units ≤ line.most → unsigned_abs (own_load *ℤ pos units) ≤ 64 * 10 ^ 32
load-small own_load line units load most = omega (arith, unsigned_abs-mul own_load (pos units), mul-le-mul_left (unsigned_abs own_load) most, load.small)

credited-at : (form : Form) (own_load : ℤ) (units : ℕ) → form_at (credited form own_load) units ≡ form_at form units -ℤ own_load *ℤ pos units
credited-at form own_load units =
    let apart = sub-mul form.slope own_load (pos units) in
    omega (arith, ints, apart)

least-within : (n : ℕ) (book : BookContents) (leaf : Leaf) (line : Line) (own_load : ℤ) (interval : Interval) (most : ℕ) → interval.low ≤ interval.high → HasRoomFor line interval
    → (line.least ≤ line.most) ⊎ (line.most ≡ 0)
    → ((units : ℕ) → units ≤ line.most → unsigned_abs (priced_cost n book leaf line units -ℤ own_load *ℤ pos units) ≤ most)
    → ((units : ℕ) → units ≤ line.most → unsigned_abs (form_at (credited (priced_form n book leaf line) own_load) units) ≤ most)
    → unsigned_abs (least_by n book leaf line own_load interval) ≤ most
least-within n book leaf line own_load interval most ordered room order exact at = by (interval.low == interval.high) refl (interval.low == 0) refl order
  where
    low : interval.low ≤ line.most
    low = omega (arith, ordered, room)

    form : Form
    form = credited (priced_form n book leaf line) own_load

    by : (one : Bool) → (interval.low == interval.high) ≡ one → (none : Bool) → (interval.low == 0) ≡ none → (line.least ≤ line.most) ⊎ (line.most ≡ 0)
        → unsigned_abs (if one
        then priced_cost n book leaf line interval.low -ℤ own_load *ℤ pos interval.low
        else if none
        then int_min (pos 0) (int_min (form_at form line.least) (form_at form interval.high))
        else int_min (form_at form interval.low) (form_at form interval.high)) ≤ most
    by true e none f order = exact interval.low low
    by false e true f (inl least) =
        min-small (pos 0) (int_min (form_at form line.least) (form_at form interval.high)) most (omega arith)
        (min-small (form_at form line.least) (form_at form interval.high) most (at line.least least) (at interval.high room))
    by false e true f (inr none) = absurd (grind (arith, low, room, ordered))
    by false e false f order = min-small (form_at form interval.low) (form_at form interval.high) most (at interval.low low) (at interval.high room)

least-cash : (n : ℕ) (book : BookContents) (leaf : Leaf) (line : Line) (own_load : ℤ) (interval : Interval) → IsSettlement book.days.settle → IsLeaf (length book.needs) leaf → IsCashLine line
    → IsLoad line own_load → interval.low ≤ interval.high → HasRoomFor line interval → unsigned_abs (least_by n book leaf line own_load interval) ≤ 71 * 10 ^ 33
least-cash n book leaf line own_load interval h well cash load ordered room =
    least-within n book leaf line own_load interval (71 * 10 ^ 33) ordered room (order line.most refl)
    (λ units most. apart-small (priced_cost n book leaf line units) (own_load *ℤ pos units) (5 * 10 ^ 34) 0 (71 * 10 ^ 33) (reduced-cash n book leaf line units h well cash most) (none units) (omega arith))
    (λ units most. subst (λ (z : ℤ). unsigned_abs z ≤ 71 * 10 ^ 33) (sym (credited-at (priced_form n book leaf line) own_load units))
    (apart-small (form_at (priced_form n book leaf line) units) (own_load *ℤ pos units) (7 * 10 ^ 34 + 10 ^ 23) 0 (71 * 10 ^ 33) (at-small (priced_form n book leaf line) units (7 * 10 ^ 34) (form-cash n book leaf line units h well cash most) (form-slack n book leaf line h well (inl cash))) (none units) (omega arith)))
  where
    order : (most : ℕ) → line.most ≡ most → (line.least ≤ line.most) ⊎ (line.most ≡ 0)
    order zero e = inr e
    order (suc m) e = inl (omega (arith, cash.least, e))

    none : (units : ℕ) → unsigned_abs (own_load *ℤ pos units) ≤ 0
    none units =
        let zero_load : own_load *ℤ pos units ≡ pos 0 *ℤ pos units = ap (λ (z : ℤ). z *ℤ pos units) (load.cash cash.kind) in
        let nothing : pos 0 *ℤ pos units ≡ pos 0 = omega (arith, ints) in
        omega (arith, ints, zero_load, nothing)

least-security : (n : ℕ) (book : BookContents) (leaf : Leaf) (line : Line) (own_load : ℤ) (interval : Interval) → IsSettlement book.days.settle → IsLeaf (length book.needs) leaf
    → IsSecurityLine book.days line → IsLoad line own_load → interval.low ≤ interval.high → HasRoomFor line interval → unsigned_abs (least_by n book leaf line own_load interval) ≤ 12 * 10 ^ 33
least-security n book leaf line own_load interval h well security load ordered room =
    least-within n book leaf line own_load interval (12 * 10 ^ 33) ordered room (inl security.ordered)
    (λ units most. apart-small (priced_cost n book leaf line units) (own_load *ℤ pos units) (4 * 10 ^ 33) (64 * 10 ^ 32) (12 * 10 ^ 33) (reduced-security n book leaf line units h well security most) (load-small own_load line units load most) (omega arith))
    (λ units most. subst (λ (z : ℤ). unsigned_abs z ≤ 12 * 10 ^ 33) (sym (credited-at (priced_form n book leaf line) own_load units))
    (apart-small (form_at (priced_form n book leaf line) units) (own_load *ℤ pos units) (4 * 10 ^ 33 + 10 ^ 23) (64 * 10 ^ 32) (12 * 10 ^ 33) (at-small (priced_form n book leaf line) units (4 * 10 ^ 33) (form-units n book leaf line units h well security most) (form-slack n book leaf line h well (inr security)))
    (load-small own_load line units load most) (omega arith)))

pub least-small : (n : ℕ) (book : BookContents) (leaf : Leaf) (line : Line) (own_load : ℤ) (interval : Interval) → IsSettlement book.days.settle → IsLeaf (length book.needs) leaf → IsLine book.days line
    → IsLoad line own_load → interval.low ≤ interval.high → HasRoomFor line interval → unsigned_abs (least_by n book leaf line own_load interval) ≤ 71 * 10 ^ 33
least-small n book leaf line own_load interval h well (inl cash) load ordered room = least-cash n book leaf line own_load interval h well cash load ordered room
least-small n book leaf line own_load interval h well (inr security) load ordered room = omega (arith, least-security n book leaf line own_load interval h well security load ordered room)

-- ---- what goes into a sum of two parts
pub slope-small : (n : ℕ) (book : BookContents) (leaf : Leaf) (line : Line) → IsSettlement book.days.settle → IsLeaf (length book.needs) leaf → IsLine book.days line
    → unsigned_abs (priced_form n book leaf line).slope ≤ 10 ^ 33
slope-small n book leaf line h well (inl cash) =
    let once = ap (λ k. k * (2 * PRICE_SCALE * (1_400_000_000 * line.step))) (cash-once book.days line cash) in
    omega (arith, form-slope n book leaf line h well (inl cash), once, cash.step)
slope-small n book leaf line h well (inr security) =
    let few = mul-le-mul_right (2 * PRICE_SCALE * (1_400_000_000 * line.step)) (pays-few book.days line h security) in
    omega (arith, form-slope n book leaf line h well (inr security), few, security.step_at_most)

pub cost-small : (n : ℕ) (book : BookContents) (leaf : Leaf) (line : Line) (units : ℕ) → IsSettlement book.days.settle → IsLeaf (length book.needs) leaf → IsLine book.days line → units ≤ line.most
    → unsigned_abs (priced_cost n book leaf line units) ≤ 71 * 10 ^ 33
cost-small n book leaf line units h well (inl cash) most = omega (arith, reduced-cash n book leaf line units h well cash most)
cost-small n book leaf line units h well (inr security) most = omega (arith, reduced-security n book leaf line units h well security most)

pub load-times : (line : Line) (own_load : ℤ) (units : ℕ) → IsLoad line own_load → units ≤ line.most → unsigned_abs own_load * units ≤ 10 ^ 34
load-times line own_load units load most = omega (arith, mul-le-mul_left (unsigned_abs own_load) most, load.small)

-- what units of a line add by a slope, where each is credited a load
pub credited-times : (n : ℕ) (book : BookContents) (leaf : Leaf) (line : Line) (own_load : ℤ) (units : ℕ) → IsSettlement book.days.settle → IsLeaf (length book.needs) leaf → IsLine book.days line
    → IsLoad line own_load → units ≤ line.most → unsigned_abs (credited (priced_form n book leaf line) own_load).slope * units ≤ 7 * 10 ^ 34
credited-times n book leaf line own_load units h well (inl cash) load most =
    let none : (priced_form n book leaf line).slope -ℤ own_load ≡ (priced_form n book leaf line).slope = omega (arith, ints, load.cash cash.kind) in
    omega (arith, ap (λ (z : ℤ). unsigned_abs z * units) none, form-cash n book leaf line units h well cash most)
credited-times n book leaf line own_load units h well (inr security) load most =
    let apart : unsigned_abs ((priced_form n book leaf line).slope -ℤ own_load) ≤ unsigned_abs (priced_form n book leaf line).slope + unsigned_abs own_load = omega (arith, ints) in
    omega (arith, mul-le-mul_right units apart, form-units n book leaf line units h well security most, load-times line own_load units load most)

-- ---- the bound
pub priced-small : (needs : List Flow) (prices : List ℕ) → All (λ price. price ≤ 2 * PRICE_SCALE) prices → priced_needs needs prices ≤ 2 * PRICE_SCALE * total needs
unfolding priced_needs
priced-small [] prices small = omega arith
priced-small (need ∷ needs) [] small = omega arith
priced-small (need ∷ needs) (price ∷ prices) small =
    omega (
      arith,
      sum_by-cons (λ (p : Flow × ℕ). p.0.cents.0 * p.1) (need, price) (zip needs prices),
      sum_by-cons (λ (f : Flow). f.cents.0) need needs,
      mul-le-mul_left need.cents.0 (All-head (λ (p : ℕ). p ≤ 2 * PRICE_SCALE) price prices small),
      priced-small needs prices (All-tail (λ (p : ℕ). p ≤ 2 * PRICE_SCALE) price prices small),
    )

securities-sum : (n : ℕ) (book : BookContents) (leaf : Leaf) (lines : List Line) (ranges : List Interval) → IsSettlement book.days.settle → IsLeaf (length book.needs) leaf
    → All (IsSecurityLine book.days) lines → AllZip HasRoomFor lines ranges → All IsOrdered ranges
    → unsigned_abs (signed_sum (λ (p : Line × Interval). least_within n book leaf p.0 p.1) (zip lines ranges)) ≤ length lines * (12 * 10 ^ 33)
securities-sum n book leaf [] [] h well are room ordered = omega arith
securities-sum n book leaf [] (interval ∷ ranges) h well are room ordered = absurd room
securities-sum n book leaf (line ∷ lines) [] h well are room ordered = absurd room
securities-sum n book leaf (line ∷ lines) (interval ∷ ranges) h well are room ordered =
    let is = All-head (IsSecurityLine book.days) line lines are in
    let own = least-security n book leaf line (unit_load book leaf.weights line) interval h well is (load-is book leaf.weights line well.weights (inr is)) (All-head IsOrdered interval ranges ordered) room.0 in
    let rest = securities-sum n book leaf lines ranges h well (All-tail (IsSecurityLine book.days) line lines are) room.1 (All-tail IsOrdered interval ranges ordered) in
    omega (arith, own, rest, abs-sum (least_within n book leaf line interval) (signed_sum (λ (p : Line × Interval). least_within n book leaf p.0 p.1) (zip lines ranges)))

lines-sum : (n : ℕ) (book : BookContents) (leaf : Leaf) (lines : List Line) (ranges : List Interval) → IsSettlement book.days.settle → IsLeaf (length book.needs) leaf
    → AreLines book.days lines → AllZip HasRoomFor lines ranges → All IsOrdered ranges
    → unsigned_abs (signed_sum (λ (p : Line × Interval). least_within n book leaf p.0 p.1) (zip lines ranges)) ≤ 71 * 10 ^ 33 + 512 * (12 * 10 ^ 33)
lines-sum n book leaf [] ranges h well are room ordered = absurd are
lines-sum n book leaf (cash ∷ lines) [] h well are room ordered = absurd room
lines-sum n book leaf (cash ∷ lines) (interval ∷ ranges) h well are room ordered =
    let own = least-cash n book leaf cash (unit_load book leaf.weights cash) interval h well are.0 (load-is book leaf.weights cash well.weights (inl are.0)) (All-head IsOrdered interval ranges ordered) room.0 in
    let rest = securities-sum n book leaf lines ranges h well are.1 room.1 (All-tail IsOrdered interval ranges ordered) in
    omega (arith, own, rest, mul-le-mul_right (12 * 10 ^ 33) are.2, abs-sum (least_within n book leaf cash interval) (signed_sum (λ (p : Line × Interval). least_within n book leaf p.0 p.1) (zip lines ranges)))

pub bound-small : (n : ℕ) (book : BookContents) (ranges : RangesContents) (leaf : Leaf) → IsBook book → IsLeaf (length book.needs) leaf
    → AreOf book ranges → All IsOrdered ranges.lines → All IsOrdered ranges.sums → unsigned_abs (bound_of n book ranges leaf) < 10 ^ 37
unfolding bound_of
bound-small n book ranges leaf limits well room ordered sums_ordered =
    let needs = priced-small book.needs leaf.prices well.range in
    let few = mul-le-mul_left (2 * PRICE_SCALE) limits.needs.small in
    let ends = ends-small book ranges.sums leaf.weights limits room.sums sums_ordered well.weights in
    let sum = lines-sum n book leaf book.lines ranges.lines limits.settlement well limits.lines room.lines ordered in
    omega (
      arith,
      needs,
      few,
      ends,
      sum,
      abs-sum (pos (COEFFICIENT_SCALE * priced_needs book.needs leaf.prices) +ℤ weighed_ends book ranges.sums leaf.weights)
          (signed_sum (λ (p : Line × Interval). least_within n book leaf p.0 p.1) (zip book.lines ranges.lines)),
      abs-sum (pos (COEFFICIENT_SCALE * priced_needs book.needs leaf.prices)) (weighed_ends book ranges.sums leaf.weights),
    )

-- ---- a pair of two lists at a place
pub zip-at : {A B : Type 0} (xs : List A) (ys : List B) (place : ℕ) (x : A) (y : B) → place < length xs → length xs ≡ length ys
    → get_or (zip xs ys) place (x, y) ≡ (get_or xs place x, get_or ys place y)
zip-at [] ys place x y few same = absurd (omega arith)
zip-at (first ∷ xs) [] place x y few same = absurd (omega arith)
zip-at (first ∷ xs) (there ∷ ys) zero x y few same = refl
zip-at (first ∷ xs) (there ∷ ys) (suc place) x y few same = zip-at xs ys place x y (omega arith) (omega arith)

pub room-length : (lines : List Line) (ranges : List Interval) → AllZip HasRoomFor lines ranges → length lines ≡ length ranges
room-length [] [] room = refl
room-length [] (interval ∷ ranges) room = absurd room
room-length (line ∷ lines) [] room = absurd room
room-length (line ∷ lines) (interval ∷ ranges) room = ap suc (room-length lines ranges room.1)

pub room-at : (lines : List Line) (ranges : List Interval) (place : ℕ) (line : Line) (interval : Interval) → AllZip HasRoomFor lines ranges → place < length lines
    → HasRoomFor (get_or lines place line) (get_or ranges place interval)
room-at [] ranges place line interval room few = absurd (omega arith)
room-at (first ∷ lines) [] place line interval room few = absurd room
room-at (first ∷ lines) (there ∷ ranges) zero line interval room few = room.0
room-at (first ∷ lines) (there ∷ ranges) (suc place) line interval room few = room-at lines ranges place line interval room.1 (omega arith)

-- ---- the least of a line, by its interval
pub least-one : (n : ℕ) (book : BookContents) (leaf : Leaf) (line : Line) (own_load : ℤ) (interval : Interval) → interval.low ≡ interval.high
    → priced_cost n book leaf line interval.low -ℤ own_load *ℤ pos interval.low ≡ least_by n book leaf line own_load interval
least-one n book leaf line own_load interval same =
    let test : (interval.low == interval.high) ≡ true = grind arith in
    rw test refl

pub least-apart : (n : ℕ) (book : BookContents) (leaf : Leaf) (line : Line) (own_load : ℤ) (interval : Interval) (form : Form) → form ≡ credited (priced_form n book leaf line) own_load
    → (interval.low ≡ interval.high → ⊥) → least_of_form form line interval ≡ least_by n book leaf line own_load interval
least-apart n book leaf line own_load interval form is apart =
    let test : (interval.low == interval.high) ≡ false = grind (arith, apart) in
    rw test (ap (λ (f : Form). least_of_form f line interval) is)

-- ---- a leaf with its weights of sums
pub of-times : (n : ℕ) (book : BookContents) (leaf : Leaf) (line : Line) (units : ℕ) → IsSettlement book.days.settle → IsLeaf (length book.needs) leaf → IsLine book.days line → units ≤ line.most
    → unsigned_abs (form_of n book leaf line).slope * units ≤ 7 * 10 ^ 34
of-times n book leaf line units h well is most = credited-times n book leaf line (unit_load book leaf.weights line) units h well is (load-is book leaf.weights line well.weights is) most

pub of-slack : (n : ℕ) (book : BookContents) (leaf : Leaf) (line : Line) → IsSettlement book.days.settle → IsLeaf (length book.needs) leaf → IsLine book.days line
    → (form_of n book leaf line).slack ≤ 10 ^ 23
of-slack n book leaf line h well is = form-slack n book leaf line h well is

pub within-small : (n : ℕ) (book : BookContents) (leaf : Leaf) (line : Line) (interval : Interval) → IsSettlement book.days.settle → IsLeaf (length book.needs) leaf → IsLine book.days line
    → interval.low ≤ interval.high → HasRoomFor line interval → unsigned_abs (least_within n book leaf line interval) ≤ 71 * 10 ^ 33
within-small n book leaf line interval h well is ordered room =
    least-small n book leaf line (unit_load book leaf.weights line) interval h well is (load-is book leaf.weights line well.weights is) ordered room

-- ---- a leaf without weights of sums
no-unit_load : (book : BookContents) (leaf : Leaf) (line : Line) → leaf.weights ≡ [] → unit_load book leaf.weights line ≡ pos 0
no-unit_load book leaf line none =
    let nothing : pos (COEFFICIENT_SCALE * coarse_step book) *ℤ pos 0 ≡ pos 0 = omega (arith, ints) in
    ap (λ (weights : List SumWeight). unit_load book weights line) none ∙ nothing

pub form-plain : (n : ℕ) (book : BookContents) (leaf : Leaf) (line : Line) → leaf.weights ≡ [] → form_of n book leaf line ≡ priced_form n book leaf line
form-plain n book leaf line none =
    let nothing : (priced_form n book leaf line).slope -ℤ pos 0 ≡ (priced_form n book leaf line).slope = omega (arith, ints) in
    ap (credited (priced_form n book leaf line)) (no-unit_load book leaf line none) ∙ (λ i. record { slope = nothing i; slack = (priced_form n book leaf line).slack })

pub least-plain : (n : ℕ) (book : BookContents) (leaf : Leaf) (line : Line) (interval : Interval) → leaf.weights ≡ [] → interval.low ≡ interval.high
    → priced_cost n book leaf line interval.low ≡ least_within n book leaf line interval
least-plain n book leaf line interval none same =
    let nothing : priced_cost n book leaf line interval.low ≡ priced_cost n book leaf line interval.low -ℤ pos 0 *ℤ pos interval.low = omega (arith, ints) in
    nothing ∙ least-one n book leaf line (pos 0) interval same ∙ ap (λ (z : ℤ). least_by n book leaf line z interval) (sym (no-unit_load book leaf line none))

pub within-plain : (n : ℕ) (book : BookContents) (leaf : Leaf) (line : Line) (interval : Interval) → leaf.weights ≡ []
    → least_within n book leaf line interval
    ≡ (if interval.low == interval.high then priced_cost n book leaf line interval.low else least_of_form (priced_form n book leaf line) line interval)
within-plain n book leaf line interval none =
    let nothing : priced_cost n book leaf line interval.low -ℤ pos 0 *ℤ pos interval.low ≡ priced_cost n book leaf line interval.low = omega (arith, ints) in
    let slope : (priced_form n book leaf line).slope -ℤ pos 0 ≡ (priced_form n book leaf line).slope = omega (arith, ints) in
    ap (λ (z : ℤ). least_by n book leaf line z interval) (no-unit_load book leaf line none)
    ∙ (λ i. if interval.low == interval.high then nothing i else least_of_form (record { slope = slope i; slack = (priced_form n book leaf line).slack }) line interval)

pub reduced-plain : (n : ℕ) (book : BookContents) (leaf : Leaf) (line : Line) (units : ℕ) → leaf.weights ≡ [] → reduced_cost n book leaf line units ≡ priced_cost n book leaf line units
reduced-plain n book leaf line units none =
    let nothing : priced_cost n book leaf line units -ℤ pos 0 *ℤ pos units ≡ priced_cost n book leaf line units = omega (arith, ints) in
    ap (λ (z : ℤ). priced_cost n book leaf line units -ℤ z *ℤ pos units) (no-unit_load book leaf line none) ∙ nothing

-- no units have no reduced cost
pub reduced-none : (n : ℕ) (book : BookContents) (leaf : Leaf) (line : Line) (units : ℕ) → units ≡ 0 → reduced_cost n book leaf line units ≡ pos 0
reduced-none n book leaf line units none = credited-none n book leaf line (unit_load book leaf.weights line) units none

pub bound-plain : (n : ℕ) (book : BookContents) (ranges : RangesContents) (leaf : Leaf) → leaf.weights ≡ []
    → bound_of n book ranges leaf
    ≡ pos (COEFFICIENT_SCALE * priced_needs book.needs leaf.prices) +ℤ signed_sum (λ (p : Line × Interval). least_within n book leaf p.0 p.1) (zip book.lines ranges.lines)
unfolding bound_of
bound-plain n book ranges leaf none =
    let first : pos (COEFFICIENT_SCALE * priced_needs book.needs leaf.prices) +ℤ pos 0 ≡ pos (COEFFICIENT_SCALE * priced_needs book.needs leaf.prices) = omega (arith, ints) in
    let ends : weighed_ends book ranges.sums leaf.weights ≡ pos 0 = ap (weighed_ends book ranges.sums) none in
    ap (λ (z : ℤ). pos (COEFFICIENT_SCALE * priced_needs book.needs leaf.prices) +ℤ z +ℤ signed_sum (λ (p : Line × Interval). least_within n book leaf p.0 p.1) (zip book.lines ranges.lines)) ends
    ∙ ap (λ (z : ℤ). z +ℤ signed_sum (λ (p : Line × Interval). least_within n book leaf p.0 p.1) (zip book.lines ranges.lines)) first

pub bound-plain_all : (n : ℕ) (book : BookContents) (ranges : RangesContents) (leaf : Leaf) (place : ℕ) (bound : ℤ) → leaf.weights ≡ [] → length book.lines ≤ place
    → bound ≡ pos (COEFFICIENT_SCALE * priced_needs book.needs leaf.prices) +ℤ signed_sum (λ (p : Line × Interval). least_within n book leaf p.0 p.1) (take place (zip book.lines ranges.lines))
    → bound ≡ bound_of n book ranges leaf
bound-plain_all n book ranges leaf place bound none all so_far =
    so_far
    ∙ ap (λ pairs. pos (COEFFICIENT_SCALE * priced_needs book.needs leaf.prices) +ℤ signed_sum (λ (p : Line × Interval). least_within n book leaf p.0 p.1) pairs)
    (take_all place (zip book.lines ranges.lines) (omega (arith, length-zip book.lines ranges.lines)))
    ∙ sym (bound-plain n book ranges leaf none)

-- the least purchase of a line whose interval has more than one number
pub least-room : (days : PaymentDays) (line : Line) (interval : Interval) → IsLine days line → interval.low ≤ interval.high → HasRoomFor line interval → (interval.low ≡ interval.high → ⊥) → line.least ≤ line.most
least-room days line interval (inl cash) ordered room apart = omega (arith, cash.least, some)
  where
    some : 1 ≤ line.most
    some = grind (arith, ordered, room, apart)
least-room days line interval (inr security) ordered room apart = security.ordered

-- ---- the needs, one after another
abbrev pub priced_need : Flow × ℕ → ℕ
priced_need p = p.0.cents.0 * p.1

pub priced-more : (needs : List Flow) (prices : List ℕ) (place : ℕ) (need : Flow) (cents price worth : ℕ) → place < length needs → length needs ≡ length prices
    → cents ≡ (get_or needs place need).cents.0 → price ≡ get_or prices place 0 → worth ≡ sum_by priced_need (take place (zip needs prices))
    → worth + cents * price ≡ sum_by priced_need (take (place + 1) (zip needs prices))
priced-more needs prices place need cents price worth few same cents_is price_is so_far =
    let there : place < length (zip needs prices) = omega (arith, length-zip needs prices) in
    let here : priced_need (get_or (zip needs prices) place (need, 0)) ≡ cents * price =
    ap priced_need (zip-at needs prices place need 0 few same) ∙ (λ i. sym cents_is i * sym price_is i) in
    omega (arith, so_far, here, sum_by_more priced_need (zip needs prices) place (need, 0) there)

pub priced-part : (needs : List Flow) (prices : List ℕ) (place : ℕ) → All (λ price. price ≤ 2 * PRICE_SCALE) prices → total needs ≤ AMOUNT_LIMIT
    → sum_by priced_need (take place (zip needs prices)) ≤ 2 * 10 ^ 25
unfolding priced_needs
priced-part needs prices place small few =
    omega (arith, sum_by-take-le priced_need (zip needs prices) place, priced-small needs prices small, mul-le-mul_left (2 * PRICE_SCALE) few)

pub priced-all : (needs : List Flow) (prices : List ℕ) (place worth : ℕ) → length needs ≤ place → length needs ≡ length prices
    → worth ≡ sum_by priced_need (take place (zip needs prices)) → worth ≡ priced_needs needs prices
unfolding priced_needs
priced-all needs prices place worth all same so_far =
    so_far ∙ ap (sum_by priced_need) (take_all place (zip needs prices) (omega (arith, length-zip needs prices)))

-- ---- the lines, one after another
pub bound-more : (first so_far own : ℤ) (f : Line × Interval → ℤ) (lines : List Line) (ranges : List Interval) (place : ℕ) (line : Line) (interval : Interval)
    → place < length lines → length lines ≡ length ranges → line ≡ get_or lines place line → interval ≡ get_or ranges place interval
    → so_far ≡ first +ℤ signed_sum f (take place (zip lines ranges)) → own ≡ f (line, interval)
    → so_far +ℤ own ≡ first +ℤ signed_sum f (take (place + 1) (zip lines ranges))
bound-more first so_far own f lines ranges place line interval few same line_is interval_is so_far_is own_is =
    let there : place < length (zip lines ranges) = omega (arith, length-zip lines ranges) in
    let here : f (get_or (zip lines ranges) place (line, interval)) ≡ own =
    ap f (zip-at lines ranges place line interval few same) ∙ (λ i. f (sym line_is i, sym interval_is i)) ∙ sym own_is in
    joined _ _ _ _ _ _ so_far_is here (signed_sum_more f (zip lines ranges) place (line, interval) there)
  where
    joined : (first so_far own sum term whole : ℤ) → so_far ≡ first +ℤ sum → term ≡ own → whole ≡ sum +ℤ term → so_far +ℤ own ≡ first +ℤ whole
    joined first so_far own sum term whole a b e = omega (arith, ints)

pub bound-all : (n : ℕ) (book : BookContents) (ranges : RangesContents) (leaf : Leaf) (place : ℕ) (bound : ℤ) → length book.lines ≤ place
    → bound ≡ pos (COEFFICIENT_SCALE * priced_needs book.needs leaf.prices) +ℤ weighed_ends book ranges.sums leaf.weights
    +ℤ signed_sum (λ (p : Line × Interval). least_within n book leaf p.0 p.1) (take place (zip book.lines ranges.lines))
    → bound ≡ bound_of n book ranges leaf
unfolding bound_of
bound-all n book ranges leaf place bound all so_far =
    so_far
    ∙ ap (λ pairs. pos (COEFFICIENT_SCALE * priced_needs book.needs leaf.prices) +ℤ weighed_ends book ranges.sums leaf.weights +ℤ signed_sum (λ (p : Line × Interval). least_within n book leaf p.0 p.1) pairs)
    (take_all place (zip book.lines ranges.lines) (omega (arith, length-zip book.lines ranges.lines)))
