-- At the root no line is worth much more than it costs: the least of each is at most its rounding below nothing.
use Rattle.std.proofs.Common.{◌≡◌, ◌∙◌, ℕ, zero, suc, ◌+◌, ◌-◌, ◌*◌, ◌/◌, ◌≤◌, ◌==◌, Bool, false, true, if◌then◌else◌, List, [], ◌∷◌, length, refl, sym, ap, subst, inl, inr, arith, ℤ, pos, negsuc, ◌+ℤ◌, ◌-ℤ◌, ◌*ℤ◌, neg_ℤ, ◌≤ℤ◌, int_le, unsigned_abs, All}
use Rattle.std.proofs.lemmas.Int.{ints, clamps}
use Rattle.std.proofs.lemmas.List.Elements.{All-cons, All-head, All-nil, All-tail}
use Rattle.std.proofs.lemmas.List.Sums.{sum_by-cons}
use Rattle.std.proofs.Math.Nat.{mul-le-mul, mul-le-mul_left, mul-le-mul_right}
use Rattle.std.specs.Int.{int_min}
use Rattle.std.specs.List.{sum_by}
use Rattle.escrow_units.specs.SlgsTerms.{IsSettlement}
use Rattle.escrow_units.specs.declared.security.Flow.{Flow}
use Rattle.offer_book.specs.Book.{AreLines, BookContents, IsLine, IsSecurityLine}
use Rattle.offer_book.specs.Coefficients.{cost_coefficients, kind_costs, pay_coefficients}
use Rattle.offer_book.proofs.ScheduleFacts.{cash-coefficients}
use Rattle.offer_book.specs.Portfolio.{line_cost, line_payments}
use Rattle.offer_book.specs.declared.coefficients.PayCoefficients.{PayCoefficients}
use Rattle.offer_book.specs.declared.coefficients.TheConstants.{COEFFICIENT_SCALE}
use Rattle.offer_book.specs.declared.line.Line.{Line}
use Rattle.offer_book.specs.declared.line.LineKind.{LineKind}
use Rattle.offer_book.specs.declared.line.LineKind.TheVariants.{Cash, Market, Security}
use Rattle.offer_book.proofs.LineFacts.{line_cost-none, line_payments-none}
use Rattle.dual_bound.specs.LeafBound.{cost_worth, form_at, least_side, limit_price, paid_worth, price_on, priced_cost, priced_form, signed_sum}
use Rattle.dual_bound.specs.declared.form.Form.{Form}
use Rattle.proof_tree.specs.declared.prices.TheConstants.{PRICE_SCALE}
use Rattle.node_ranges.specs.Ranges.{whole_interval}
use Rattle.dual_bound.proofs.BoundSizes.{within-plain}
use Rattle.dual_bound.proofs.FormFacts.{form_with, priced_form-is}
use Rattle.dual_bound.proofs.Signed.{pos-mul}
use Rattle.dual_bound.proofs.Sizes.{IsSized, cost-sized, pay_slack, pays-sized, pays_slope}
use Rattle.backward_build.specs.PlainCase.{AreNoBargains, IsNoBargain}
use Rattle.backward_build.specs.PriceCurve.{leaf_of_prices, worth_at}
use Rattle.backward_build.proofs.CurveFacts.{price_on-within}
use Rattle.plain_case.specs.RootLeast.{IsLeastByRounding, LeastsAreRounding, root_rounding}

-- ---- weights at a leaf of prices
cost_worth-whole : (prices : List ℕ) (kind : LineKind) → cost_worth (leaf_of_prices prices) kind ≡ pos PRICE_SCALE
cost_worth-whole prices Cash = omega (arith, ints)
cost_worth-whole prices (Security slgs) = omega (arith, ints)
cost_worth-whole prices (Market note) = omega (arith, ints)

limit-free : (n : ℕ) (settle day : ℤ) → limit_price n settle 0 day ≡ 0
limit-free n settle day = omega arith

less-nothing : (a b : ℕ) → b ≡ 0 → pos a -ℤ pos b ≡ pos a
less-nothing a b none = omega (arith, ints)

paid_worth-price : (n : ℕ) (book : BookContents) (prices : List ℕ) (kind : LineKind) (day : ℤ) → paid_worth n book (leaf_of_prices prices) kind day ≡ pos (price_on book.needs prices day)
paid_worth-price n book prices Cash day = less-nothing (price_on book.needs prices day) _ (limit-free n book.days.settle day)
paid_worth-price n book prices (Security slgs) day = less-nothing (price_on book.needs prices day) _ (limit-free n book.days.settle day)
paid_worth-price n book prices (Market note) day = less-nothing (price_on book.needs prices day) _ (limit-free n book.days.settle day)

-- ---- sides of coefficients
side-above : (m low high : ℕ) → least_side (pos m) low high ≡ pos (m * low)
side-above m low high = at (int_le (pos 0) (pos m)) refl
  where
    at : (t : Bool) → int_le (pos 0) (pos m) ≡ t → (if t then pos m *ℤ pos low else pos m *ℤ pos high) ≡ pos (m * low)
    at true e = pos-mul m low
    at false e = absurd (omega (arith, ints))

side-below : (p low high : ℕ) → least_side (neg_ℤ (pos p)) low high ≡ neg_ℤ (pos (p * high))
side-below zero low high = omega (arith, ints)
side-below (suc m) low high = at (int_le (pos 0) (negsuc m)) refl
  where
    at : (t : Bool) → int_le (pos 0) (negsuc m) ≡ t → (if t then negsuc m *ℤ pos low else negsuc m *ℤ pos high) ≡ neg_ℤ (pos (suc m * high))
    at true e = absurd (omega (arith, ints))
    at false e = omega (arith, ints)

abbrev worth_of : (ℤ → ℕ) → List PayCoefficients → ℕ
worth_of price pays = sum_by (λ pay. price pay.day * pay.high) pays

slope-worth : (weight : ℤ → ℤ) (price : ℤ → ℕ) (pays : List PayCoefficients) → ((day : ℤ) → weight day ≡ pos (price day)) → pays_slope weight pays ≡ neg_ℤ (pos (worth_of price pays))
slope-worth weight price [] is = omega (arith, ints)
slope-worth weight price (pay ∷ pays) is =
    let here : least_side (neg_ℤ (weight pay.day)) pay.low pay.high ≡ neg_ℤ (pos (price pay.day * pay.high)) =
    ap (λ z. least_side (neg_ℤ z) pay.low pay.high) (is pay.day) ∙ side-below (price pay.day) pay.low pay.high in
    joined _ _ _ _ _ here (slope-worth weight price pays is) (sum_by-cons (λ (p : PayCoefficients). price p.day * p.high) pay pays)
  where
    joined : (first rest : ℤ) (a b all : ℕ) → first ≡ neg_ℤ (pos a) → rest ≡ neg_ℤ (pos b) → all ≡ a + b → first +ℤ rest ≡ neg_ℤ (pos all)
    joined first rest a b all h k e = omega (arith, ints)

slack-small : (weight : ℤ → ℤ) (price : ℤ → ℕ) (step : ℕ) (pays : List PayCoefficients) → ((day : ℤ) → weight day ≡ pos (price day)) → ((day : ℤ) → price day ≤ PRICE_SCALE) → All (IsSized step) pays
    → sum_by (pay_slack weight) pays ≤ PRICE_SCALE * (length pays * (COEFFICIENT_SCALE / 2))
slack-small weight price step [] is small sized = omega arith
slack-small weight price step (pay ∷ pays) is small sized =
    let abs : unsigned_abs (weight pay.day) ≤ PRICE_SCALE = omega (arith, ints, is pay.day, small pay.day) in
    let own = mul-le-mul abs (All-head (IsSized step) pay pays sized).slack in
    omega (arith, own, sum_by-cons (pay_slack weight) pay pays, slack-small weight price step pays is small (All-tail (IsSized step) pay pays sized))

-- ---- the form of a line that is no bargain
form-from : (slope : ℤ) (a b slack units : ℕ) → slope ≡ pos a -ℤ pos b → b ≤ a → neg_ℤ (pos slack) ≤ℤ (slope *ℤ pos units -ℤ pos slack)
form-from slope a b slack units is less =
    let same : slope ≡ pos (a - b) = omega (arith, ints) in
    let product : slope *ℤ pos units ≡ pos ((a - b) * units) = ap (λ z. z *ℤ pos units) same ∙ pos-mul (a - b) units in
    omega (arith, ints, product)

form-least : (n : ℕ) (book : BookContents) (prices : List ℕ) (line : Line) (units : ℕ) → IsSettlement book.days.settle → IsLine book.days line → All (λ price. price ≤ PRICE_SCALE) prices → IsNoBargain book prices line
    → neg_ℤ (pos (root_rounding book line)) ≤ℤ form_at (priced_form n book (leaf_of_prices prices) line) units
form-least n book prices line units settled is small fair =
    let weight : ℤ → ℤ = paid_worth n book (leaf_of_prices prices) line.kind in
    let price : ℤ → ℕ = price_on book.needs prices in
    let own = cost_worth (leaf_of_prices prices) line.kind in
    let costs = cost_coefficients line in
    let pays = pay_coefficients book.days line in
    let cost_side : least_side own costs.low costs.high ≡ pos (PRICE_SCALE * costs.low) = ap (λ z. least_side z costs.low costs.high) (cost_worth-whole prices line.kind) ∙ side-above PRICE_SCALE costs.low costs.high in
    let paid_side = slope-worth weight price pays (λ day. paid_worth-price n book prices line.kind day) in
    let cost_slack : unsigned_abs own * costs.slack ≤ COEFFICIENT_SCALE * PRICE_SCALE =
    omega (arith, ap (λ z. unsigned_abs z * costs.slack) (cost_worth-whole prices line.kind), mul-le-mul_left PRICE_SCALE (cost-sized book.days line is).slack) in
    let paid_slack = slack-small weight price line.step pays (λ day. paid_worth-price n book prices line.kind day) (λ day. price_on-within book.needs prices day small) (pays-sized book.days line settled is) in
    let form = form_with weight own costs pays in
    let least = form-from form.slope (PRICE_SCALE * costs.low) (worth_at book.needs prices pays) form.slack units (joined _ _ _ _ cost_side paid_side) fair in
    let all : form.slack ≤ PRICE_SCALE * (COEFFICIENT_SCALE + length pays * (COEFFICIENT_SCALE / 2)) = omega (arith, cost_slack, paid_slack) in
    subst (λ (f : Form). neg_ℤ (pos (PRICE_SCALE * (COEFFICIENT_SCALE + length pays * (COEFFICIENT_SCALE / 2)))) ≤ℤ form_at f units) (sym (priced_form-is n book (leaf_of_prices prices) line))
    (below _ _ _ least all)
  where
    joined : (x y : ℤ) (a b : ℕ) → x ≡ pos a → y ≡ neg_ℤ (pos b) → x +ℤ y ≡ pos a -ℤ pos b
    joined x y a b h k = omega (arith, ints)

    below : (z : ℤ) (slack most : ℕ) → neg_ℤ (pos slack) ≤ℤ z → slack ≤ most → neg_ℤ (pos most) ≤ℤ z
    below z slack most h k = omega (arith, ints)

-- ---- the least of a line at the root
-- no units have no reduced cost
reduced-none : (n : ℕ) (book : BookContents) (prices : List ℕ) (line : Line) → priced_cost n book (leaf_of_prices prices) line 0 ≡ pos 0
unfolding priced_cost
reduced-none n book prices line =
    let weight : ℤ → ℤ = paid_worth n book (leaf_of_prices prices) line.kind in
    let cost : line_cost line 0 ≡ 0 = line_cost-none line 0 refl in
    let own = ap (λ m. cost_worth (leaf_of_prices prices) line.kind *ℤ pos m) cost in
    let paid = flows-none weight (line_payments book.days line 0) (line_payments-none book.days line 0 refl) in
    joined _ _ (cost_worth (leaf_of_prices prices) line.kind) own paid
  where
    joined : (a b w : ℤ) → a ≡ w *ℤ pos 0 → b ≡ pos 0 → pos COEFFICIENT_SCALE *ℤ (a -ℤ b) ≡ pos 0
    joined a b w h k = (λ i. pos COEFFICIENT_SCALE *ℤ ((h ∙ nothing) i -ℤ k i))
      where
        nothing : w *ℤ pos 0 ≡ pos 0
        nothing = omega (arith, ints)

    flows-none : (weight : ℤ → ℤ) (flows : List Flow) → All (λ flow. flow.cents.0 ≡ 0) flows → signed_sum (λ flow. weight flow.day *ℤ pos flow.cents.0) flows ≡ pos 0
    flows-none weight [] none = refl
    flows-none weight (flow ∷ flows) none =
        let first : weight flow.day *ℤ pos flow.cents.0 ≡ weight flow.day *ℤ pos 0 = ap (λ n. weight flow.day *ℤ pos n) (All-head (λ (f : Flow). f.cents.0 ≡ 0) flow flows none) in
        let nothing : weight flow.day *ℤ pos 0 ≡ pos 0 = omega (arith, ints) in
        let rest = flows-none weight flows (All-tail (λ (f : Flow). f.cents.0 ≡ 0) flow flows none) in
        (λ i. (first ∙ nothing) i +ℤ rest i)

-- the least of a line that is no bargain
line-least : (n : ℕ) (book : BookContents) (prices : List ℕ) (line : Line) → IsSettlement book.days.settle → IsLine book.days line → All (λ price. price ≤ PRICE_SCALE) prices → IsNoBargain book prices line
    → IsLeastByRounding n book prices line
line-least n book prices line settled is small fair =
    subst (λ (z : ℤ). down ≤ℤ z) (sym (within-plain n book (leaf_of_prices prices) line (whole_interval line) refl)) (at (0 == line.most) (reduced-none n book prices line))
  where
    form : Form
    form = priced_form n book (leaf_of_prices prices) line

    down : ℤ
    down = neg_ℤ (pos (root_rounding book line))

    at : (t : Bool) → priced_cost n book (leaf_of_prices prices) line 0 ≡ pos 0 → down ≤ℤ (if t then priced_cost n book (leaf_of_prices prices) line 0 else int_min (pos 0) (int_min (form_at form line.least) (form_at form line.most)))
    at true e = nothing (root_rounding book line) _ e
      where
        nothing : (a : ℕ) (z : ℤ) → z ≡ pos 0 → neg_ℤ (pos a) ≤ℤ z
        nothing a z h = omega (arith, ints)
    at false e = among (root_rounding book line) _ _ (form-least n book prices line line.least settled is small fair) (form-least n book prices line line.most settled is small fair)
      where
        among : (a : ℕ) (x y : ℤ) → neg_ℤ (pos a) ≤ℤ x → neg_ℤ (pos a) ≤ℤ y → neg_ℤ (pos a) ≤ℤ int_min (pos 0) (int_min x y)
        among a x y h k = omega (arith, ints, clamps)

cash-fair : (book : BookContents) (prices : List ℕ) (line : Line) → All (λ price. price ≤ PRICE_SCALE) prices → line.kind ≡ Cash → IsNoBargain book prices line
cash-fair book prices line small cash =
    let exactly : List PayCoefficients = record { day = book.days.settle; low = COEFFICIENT_SCALE * line.step; high = COEFFICIENT_SCALE * line.step; slack = 0 } ∷ [] in
    subst (λ (pays : List PayCoefficients). sum_by (λ (pay : PayCoefficients). price_on book.needs prices pay.day * pay.high) pays ≤ PRICE_SCALE * (cost_coefficients line).low) (sym (cash-coefficients book.days line cash))
    (subst (λ (kind : LineKind). sum_by (λ (pay : PayCoefficients). price_on book.needs prices pay.day * pay.high) exactly ≤ PRICE_SCALE * (kind_costs kind line.step).low) (sym cash)
    (omega (arith, mul-le-mul_right (COEFFICIENT_SCALE * line.step) (price_on-within book.needs prices book.days.settle small))))

offers-least : (n : ℕ) (book : BookContents) (prices : List ℕ) (lines : List Line) → IsSettlement book.days.settle → All (λ price. price ≤ PRICE_SCALE) prices → All (IsSecurityLine book.days) lines → All (IsNoBargain book prices) lines
    → All (IsLeastByRounding n book prices) lines
offers-least n book prices [] settled small are fair = All-nil (IsLeastByRounding n book prices)
offers-least n book prices (line ∷ lines) settled small are fair =
    All-cons (IsLeastByRounding n book prices) line lines
    (line-least n book prices line settled (inr (All-head (IsSecurityLine book.days) line lines are)) small (All-head (IsNoBargain book prices) line lines fair))
    (offers-least n book prices lines settled small (All-tail (IsSecurityLine book.days) line lines are) (All-tail (IsNoBargain book prices) line lines fair))

lines-least : (n : ℕ) (book : BookContents) (prices : List ℕ) (lines : List Line) → IsSettlement book.days.settle → All (λ price. price ≤ PRICE_SCALE) prices → AreLines book.days lines → AreNoBargains book prices lines
    → All (IsLeastByRounding n book prices) lines
lines-least n book prices [] settled small are fair = absurd are
lines-least n book prices (cash ∷ offers) settled small are fair =
    All-cons (IsLeastByRounding n book prices) cash offers
    (line-least n book prices cash settled (inl are.0) small (cash-fair book prices cash small are.0.kind))
    (offers-least n book prices offers settled small are.1 fair)

pub leasts_rounding : LeastsAreRounding
leasts_rounding n book prices limits small fair = lines-least n book prices book.lines limits.settlement small limits.lines fair
