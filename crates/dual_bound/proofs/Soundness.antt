-- Weak duality: a portfolio that meets the needs, within the limit or where the limit has no multiplier, costs at least the bound.
use Rattle.std.proofs.Common.{◌≡◌, ◌∙◌, ℕ, ◌+◌, ◌-◌, ◌*◌, ◌≤◌, List, [], ◌∷◌, length, drop, refl, sym, ap, arith, ℤ, pos, ◌+ℤ◌, ◌-ℤ◌, ◌*ℤ◌, neg_ℤ, ◌≤ℤ◌, All, inl, inr}
use Rattle.std.proofs.lemmas.Bool.{cases_lt}
use Rattle.std.proofs.lemmas.Int.{ints}
use Rattle.std.proofs.lemmas.List.Elements.{All-cons, All-head, All-tail, All-weaker}
use Rattle.std.proofs.lemmas.List.Sums.{sum_by-append, sum_by-cons}
use Rattle.std.proofs.Math.Nat.{mul-le-mul_left, mul-le-mul_right}
use Rattle.std.specs.List.{AllZip, flat_map, sum_by, zip}
use Rattle.escrow_units.specs.Flows.{index360_of, indexed}
use Rattle.escrow_units.specs.PresentValue.{IndexedFlow}
use Rattle.escrow_units.specs.declared.security.Flow.{Flow}
use Rattle.day_sums.proofs.RateFacts.{at_rate, rate-summed}
use Rattle.fixed_powers.proofs.WholeNumbers.{cancel-le}
use Rattle.fixed_powers.proofs.PresentValueFacts.{low_value-excludes}
use Rattle.fixed_powers.specs.DiscountPowers.{low, one}
use Rattle.fixed_powers.specs.PresentValues.{present_value}
use Rattle.fixed_powers.specs.declared.side.Side.TheVariants.{Low}
use Rattle.offer_book.proofs.CoefficientFacts.{coefficients-enclose}
use Rattle.offer_book.specs.Book.{AreLines, BookContents, IsBook, IsCashLine, IsLine, IsSecurity, IsSecurityLine}
use Rattle.offer_book.specs.Coefficients.{EnclosesUnits}
use Rattle.offer_book.specs.Portfolio.{IsPermitted, IsPermittedUnits, Meets, cost, line_cost, line_payments, payments, security_cost, security_flows}
use Rattle.offer_book.specs.Rival.{IsRival}
use Rattle.offer_book.specs.Sums.{coarse_step}
use Rattle.offer_book.specs.declared.coefficients.TheConstants.{COEFFICIENT_SCALE}
use Rattle.offer_book.specs.declared.line.Line.{Line}
use Rattle.offer_book.specs.declared.line.LineKind.{LineKind}
use Rattle.offer_book.specs.declared.line.LineKind.TheVariants.{Cash, Market, Security}
use Rattle.dual_bound.specs.Duality.{BoundsAll, BoundsRivals, CostsAtLeast}
use Rattle.dual_bound.specs.LeafBound.{bound_of, least_within, limit_multiplier, limit_price, price_on, priced_cost, priced_needs, reduced_cost, signed_sum, unit_load, weighed_ends}
use Rattle.node_ranges.specs.Ranges.{IsWithin, LieIn, RangesContents}
use Rattle.proof_tree.specs.Tree.{IsLeaf}
use Rattle.proof_tree.specs.declared.interval.Interval.{Interval}
use Rattle.proof_tree.specs.declared.tree.Leaf.{Leaf}
use Rattle.dual_bound.proofs.Coverage.{covered-worth, paid_at}
use Rattle.dual_bound.proofs.LineBound.{least-le}
use Rattle.dual_bound.proofs.LoadFacts.{ends-le, loaded-sum, loads-weigh}
use Rattle.dual_bound.proofs.Signed.{add-mul, mul-sub, neg-mul, pos-mul, signed_sum-apart, signed_sum-difference, signed_sum-scaled}
use Rattle.offer_book.specs.declared.payment_days.PaymentDays.{PaymentDays}

-- ---- sums over the lines of a portfolio
-- a sum over all payments, line by line
sum-flat_map : {X : Type 0} (amount : Flow → ℕ) (flows : X → List Flow) (xs : List X) → sum_by amount (flat_map flows xs) ≡ sum_by (λ x. sum_by amount (flows x)) xs
sum-flat_map amount flows [] = refl
sum-flat_map amount flows (x ∷ xs) =
    omega (arith, sum_by-append amount (flows x) (flat_map flows xs), sum-flat_map amount flows xs, sum_by-cons (λ y. sum_by amount (flows y)) x xs)

-- ---- what a line adds, as a difference
-- what the limit takes from the payments of a line
abbrev limited : ℕ → BookContents → Leaf → Line × ℕ → ℕ
limited n book leaf p = sum_by (at_rate (limit_price n book.days.settle (limit_multiplier leaf p.0.kind))) (line_payments book.days p.0 p.1)

abbrev priced : BookContents → Leaf → Line × ℕ → ℕ
priced book leaf p = paid_at book.needs leaf.prices (line_payments book.days p.0 p.1)

abbrev pair_cost : Line × ℕ → ℕ
pair_cost p = line_cost p.0 p.1

abbrev charged : ℕ → BookContents → Leaf → Line × ℕ → ℕ
charged n book leaf p = leaf.rho * pair_cost p + limited n book leaf p

abbrev credited : BookContents → Leaf → Line × ℕ → ℕ
credited book leaf p = limit_multiplier leaf p.0.kind * pair_cost p + priced book leaf p

difference-mul : (a b c : ℕ) → (pos a -ℤ pos b) *ℤ pos c ≡ pos (a * c) -ℤ pos (b * c)
difference-mul a b c = add-mul (pos a) (neg_ℤ (pos b)) (pos c) ∙ (λ i. pos-mul a c i +ℤ (neg-mul (pos b) (pos c) ∙ ap (λ z. neg_ℤ z) (pos-mul b c)) i)

worth-parts : (price limit : ℤ → ℕ) (flows : List Flow)
    → signed_sum (λ flow. (pos (price flow.day) -ℤ pos (limit flow.day)) *ℤ pos flow.cents.0) flows ≡ pos (sum_by (at_rate price) flows) -ℤ pos (sum_by (at_rate limit) flows)
worth-parts price limit [] = omega (arith, ints)
worth-parts price limit (flow ∷ flows) =
    omega (
      arith,
      ints,
      difference-mul (price flow.day) (limit flow.day) flow.cents.0,
      worth-parts price limit flows,
      sum_by-cons (at_rate price) flow flows,
      sum_by-cons (at_rate limit) flow flows,
    )

-- the reduced cost of units of a line
reduced-parts : (n : ℕ) (book : BookContents) (leaf : Leaf) (p : Line × ℕ)
    → priced_cost n book leaf p.0 p.1 ≡ pos COEFFICIENT_SCALE *ℤ (pos (charged n book leaf p) -ℤ pos (credited book leaf p))
unfolding priced_cost
reduced-parts n book leaf p =
    let own = difference-mul (leaf.rho) (limit_multiplier leaf p.0.kind) (pair_cost p) in
    let paid = worth-parts (price_on book.needs leaf.prices) (limit_price n book.days.settle (limit_multiplier leaf p.0.kind)) (line_payments book.days p.0 p.1) in
    ap (λ z. pos COEFFICIENT_SCALE *ℤ z)
    (joined (leaf.rho * pair_cost p) (limit_multiplier leaf p.0.kind * pair_cost p) (priced book leaf p) (limited n book leaf p) _ _ own paid)
  where
    joined : (a b c d : ℕ) (x y : ℤ) → x ≡ pos a -ℤ pos b → y ≡ pos c -ℤ pos d → x -ℤ y ≡ pos (a + d) -ℤ pos (b + c)
    joined a b c d x y own paid = omega (arith, ints)

reduced-sum : (n : ℕ) (book : BookContents) (leaf : Leaf) (pairs : List (Line × ℕ))
    → signed_sum (λ p. priced_cost n book leaf p.0 p.1) pairs
    ≡ pos COEFFICIENT_SCALE *ℤ (pos (sum_by (charged n book leaf) pairs) -ℤ pos (sum_by (credited book leaf) pairs))
reduced-sum n book leaf pairs =
    each pairs
    ∙ sym (signed_sum-scaled (pos COEFFICIENT_SCALE) (λ p. pos (charged n book leaf p) -ℤ pos (credited book leaf p)) pairs)
    ∙ ap (λ z. pos COEFFICIENT_SCALE *ℤ z) (signed_sum-difference (charged n book leaf) (credited book leaf) pairs)
  where
    each : (xs : List (Line × ℕ)) → signed_sum (λ p. priced_cost n book leaf p.0 p.1) xs ≡ signed_sum (λ p. pos COEFFICIENT_SCALE *ℤ (pos (charged n book leaf p) -ℤ pos (credited book leaf p))) xs
    each [] = refl
    each (p ∷ xs) = (λ i. reduced-parts n book leaf p i +ℤ each xs i)

-- the lines of a book
pub all-lines : (days : PaymentDays) (lines : List Line) → AreLines days lines → All (IsLine days) lines
all-lines days [] are = absurd are
all-lines days (cash ∷ securities) are =
    All-cons (IsLine days) cash securities (inl are.0) (All-weaker (IsSecurityLine days) (IsLine days) (λ line is. inr is) securities are.1)

-- the least of each line is at most its reduced cost
least-sum : (n : ℕ) (book : BookContents) (leaf : Leaf) (lines : List Line) (ranges : List Interval) (plan : List ℕ)
    → ((line : Line) (units : ℕ) → IsLine book.days line → EnclosesUnits book.days line units) → All (IsLine book.days) lines
    → All (λ p. IsPermittedUnits p.0 p.1) (zip lines plan) → length plan ≡ length lines → AllZip LieIn ranges plan
    → signed_sum (λ p. least_within n book leaf p.0 p.1) (zip lines ranges) ≤ℤ signed_sum (λ p. reduced_cost n book leaf p.0 p.1) (zip lines plan)
least-sum n book leaf [] ranges plan enclose are permitted same inside = omega (arith, ints)
least-sum n book leaf (line ∷ lines) ranges [] enclose are permitted same inside = absurd (omega arith)
least-sum n book leaf (line ∷ lines) [] (units ∷ plan) enclose are permitted same inside = absurd inside
least-sum n book leaf (line ∷ lines) (interval ∷ ranges) (units ∷ plan) enclose are permitted same inside =
    let own =
    least-le n book leaf line (unit_load book leaf.weights line) interval units (enclose line units (All-head (IsLine book.days) line lines are))
    (All-head (λ (p : Line × ℕ). IsPermittedUnits p.0 p.1) (line, units) (zip lines plan) permitted) inside.0 in
    let rest = least-sum n book leaf lines ranges plan enclose (All-tail (IsLine book.days) line lines are) (All-tail (λ (p : Line × ℕ). IsPermittedUnits p.0 p.1) (line, units) (zip lines plan) permitted) (omega arith) inside.1 in
    omega (arith, ints, own, rest)

-- what all lines are credited by the weights of sums is at least what their ends add: so it can be left out with them
ends-credited : (n : ℕ) (book : BookContents) (ranges : RangesContents) (leaf : Leaf) (plan : List ℕ) → IsLeaf (length book.needs) leaf → length plan ≡ length book.lines → IsWithin book ranges plan
    → (weighed_ends book ranges.sums leaf.weights +ℤ signed_sum (λ p. reduced_cost n book leaf p.0 p.1) (zip book.lines plan))
    ≤ℤ signed_sum (λ p. priced_cost n book leaf p.0 p.1) (zip book.lines plan)
ends-credited n book ranges leaf plan well same inside =
    let pairs = zip book.lines plan in
    let apart = signed_sum-apart (λ (p : Line × ℕ). priced_cost n book leaf p.0 p.1) (λ p. unit_load book leaf.weights p.0 *ℤ pos p.1) pairs in
    let by_sums = loaded-sum book leaf.weights pairs ∙ ap (λ (z : ℤ). pos (COEFFICIENT_SCALE * coarse_step book) *ℤ z) (loads-weigh book leaf.weights book.lines plan same) in
    let ends = ends-le book ranges.sums leaf.weights plan inside.sums well.weights.each in
    joined _ _ _ _ _ apart by_sums ends
  where
    joined : (ends reduced exact loaded weighed : ℤ) → reduced ≡ exact -ℤ loaded → loaded ≡ weighed → ends ≤ℤ weighed → (ends +ℤ reduced) ≤ℤ exact
    joined ends reduced exact loaded weighed apart same below = omega (arith, ints)

-- ---- the inequality of duality, in whole numbers
-- the charges of all lines
charged-sum : (n : ℕ) (book : BookContents) (leaf : Leaf) (pairs : List (Line × ℕ))
    → sum_by (charged n book leaf) pairs ≡ leaf.rho * sum_by pair_cost pairs + sum_by (limited n book leaf) pairs
charged-sum n book leaf [] = omega arith
charged-sum n book leaf (p ∷ pairs) =
    omega (
      arith,
      sum_by-cons (charged n book leaf) p pairs,
      ap (λ m. leaf.rho * m) (sum_by-cons pair_cost p pairs),
      sum_by-cons (limited n book leaf) p pairs,
      charged-sum n book leaf pairs,
    )

-- the credits of all lines
limit_credit : Leaf → Line × ℕ → ℕ
limit_credit leaf p = limit_multiplier leaf p.0.kind * pair_cost p

credited-sum : (book : BookContents) (leaf : Leaf) (pairs : List (Line × ℕ))
    → sum_by (credited book leaf) pairs ≡ sum_by (limit_credit leaf) pairs + sum_by (priced book leaf) pairs
unfolding limit_credit
credited-sum book leaf [] = omega arith
credited-sum book leaf (p ∷ pairs) =
    omega (
      arith,
      sum_by-cons (credited book leaf) p pairs,
      sum_by-cons (limit_credit leaf) p pairs,
      sum_by-cons (priced book leaf) p pairs,
      credited-sum book leaf pairs,
    )

-- a portfolio whose limit is credited at least what it takes costs at least the bound
bound-le : (n : ℕ) (book : BookContents) (ranges : RangesContents) (leaf : Leaf) (plan : List ℕ) → IsBook book → IsLeaf (length book.needs) leaf
    → IsPermitted book plan → Meets book plan → IsWithin book ranges plan
    → sum_by (limited n book leaf) (zip book.lines plan) ≤ sum_by (limit_credit leaf) (zip book.lines plan)
    → CostsAtLeast (bound_of n book ranges leaf) book leaf plan
unfolding bound_of
bound-le n book ranges leaf plan limits well permitted covered inside granted =
    let pairs = zip book.lines plan in
    let worth = covered-worth book.needs leaf.prices (payments book plan) limits.needs.rising well.falling (sym well.every_date) covered in
    let by_line : paid_at book.needs leaf.prices (payments book plan) ≡ sum_by (priced book leaf) pairs =
    sum-flat_map (at_rate (price_on book.needs leaf.prices)) (λ (p : Line × ℕ). line_payments book.days p.0 p.1) pairs in
    let charges = charged-sum n book leaf pairs in
    let credits = credited-sum book leaf pairs in
    let least = least-sum n book leaf book.lines ranges.lines plan (λ line units is. coefficients-enclose book.days line limits.settlement is units) (all-lines book.days book.lines limits.lines)
    permitted.units permitted.same_length inside.lines in
    let ends = ends-credited n book ranges leaf plan well permitted.same_length inside in
    let exact = reduced-sum n book leaf pairs in
    let whole : priced_needs book.needs leaf.prices + sum_by (charged n book leaf) pairs ≤ leaf.rho * cost book plan + sum_by (credited book leaf) pairs = omega arith in
    let scaled = mul-le-mul_left COEFFICIENT_SCALE whole in
    let split = mul-sub (pos COEFFICIENT_SCALE) (pos (sum_by (charged n book leaf) pairs)) (pos (sum_by (credited book leaf) pairs)) in
    joined _ _ _ _ _ _ (COEFFICIENT_SCALE * priced_needs book.needs leaf.prices) (COEFFICIENT_SCALE * (leaf.rho * cost book plan)) _ _
    least ends (exact ∙ split) (pos-mul COEFFICIENT_SCALE (sum_by (charged n book leaf) pairs)) (pos-mul COEFFICIENT_SCALE (sum_by (credited book leaf) pairs)) (omega arith)
  where
    joined : (least ends reduced exact above below : ℤ) (needs weighed more less : ℕ) → least ≤ℤ reduced → (ends +ℤ reduced) ≤ℤ exact → exact ≡ above -ℤ below → above ≡ pos more → below ≡ pos less
        → needs + more ≤ weighed + less → (pos needs +ℤ ends +ℤ least) ≤ℤ pos weighed
    joined least ends reduced exact above below needs weighed more less at_most credited_most is above_is below_is whole = omega (arith, ints)

-- ---- what the limit takes, and what it is credited
-- without a weight it takes nothing
price-none : (n : ℕ) (settle : ℤ) (weight : ℕ) (day : ℤ) → weight ≡ 0 → limit_price n settle weight day ≡ 0
price-none n settle weight day none = rw none (omega arith)

flows-free : (n : ℕ) (settle : ℤ) (weight : ℕ) (flows : List Flow) → weight ≡ 0 → sum_by (at_rate (limit_price n settle weight)) flows ≡ 0
flows-free n settle weight [] none = refl
flows-free n settle weight (flow ∷ flows) none =
    let nothing : at_rate (limit_price n settle weight) flow ≡ 0 = rw (price-none n settle weight flow.day none) (omega arith) in
    omega (arith, sum_by-cons (at_rate (limit_price n settle weight)) flow flows, nothing, flows-free n settle weight flows none)

limited-free : (n : ℕ) (book : BookContents) (leaf : Leaf) (line : Line) (units : ℕ) → limit_multiplier leaf line.kind ≡ 0 → limited n book leaf (line, units) ≡ 0
limited-free n book leaf line units none = flows-free n book.days.settle (limit_multiplier leaf line.kind) (line_payments book.days line units) none

weightless : (leaf : Leaf) (kind : LineKind) → leaf.mu ≡ 0 → limit_multiplier leaf kind ≡ 0
weightless leaf Cash none = refl
weightless leaf (Security slgs) none = none
weightless leaf (Market note) none = none

limited-none : (n : ℕ) (book : BookContents) (leaf : Leaf) (pairs : List (Line × ℕ)) → leaf.mu ≡ 0 → sum_by (limited n book leaf) pairs ≡ 0
limited-none n book leaf [] none = refl
limited-none n book leaf (p ∷ pairs) none =
    omega (arith, sum_by-cons (limited n book leaf) p pairs, limited-free n book leaf p.0 p.1 (weightless leaf p.0.kind none), limited-none n book leaf pairs none)

pub bounds-all : BoundsAll
bounds-all n book ranges leaf limits well none plan permitted covered inside =
    bound-le n book ranges leaf plan limits well permitted covered inside (omega (arith, limited-none n book leaf (zip book.lines plan) none))

-- of each cent that is paid the limit takes at most its weight times the low power of the day
limited-le : (n : ℕ) (settle : ℤ) (weight : ℕ) (flows : List Flow)
    → one * sum_by (at_rate (limit_price n settle weight)) flows ≤ weight * sum_by (at_rate (λ day. low n (index360_of settle day))) flows
limited-le n settle weight [] = omega arith
limited-le n settle weight (flow ∷ flows) =
    let power = low n (index360_of settle flow.day) in
    let price : one * limit_price n settle weight flow.day ≤ weight * power = omega arith in
    omega (
      arith,
      mul-le-mul_right flow.cents.0 price,
      limited-le n settle weight flows,
      ap (λ m. one * m) (sum_by-cons (at_rate (limit_price n settle weight)) flow flows),
      ap (λ m. weight * m) (sum_by-cons (at_rate (λ day. low n (index360_of settle day))) flow flows),
    )

-- a present value, by day
value-by_day : (n : ℕ) (settle : ℤ) (flows : List Flow) → present_value Low n (indexed settle flows) ≡ sum_by (at_rate (λ day. low n (index360_of settle day))) flows
value-by_day n settle [] = refl
value-by_day n settle (flow ∷ flows) =
    let first : IndexedFlow = record { index = index360_of settle flow.day; cents = flow.cents.0 } in
    omega (
      arith,
      sum_by-cons (λ (f : IndexedFlow). f.cents * low n f.index) first (indexed settle flows),
      sum_by-cons (at_rate (λ day. low n (index360_of settle day))) flow flows,
      value-by_day n settle flows,
    )

-- securities alone have the limit's multiplier
cash-weight : (leaf : Leaf) (line : Line) → IsCashLine line → limit_multiplier leaf line.kind ≡ 0
cash-weight leaf line cash = ap (limit_multiplier leaf) cash.kind

security-weight : (days : PaymentDays) (leaf : Leaf) (kind : LineKind) → IsSecurity days kind → limit_multiplier leaf kind ≡ leaf.mu
security-weight days leaf Cash security = absurd security
security-weight days leaf (Security slgs) security = refl
security-weight days leaf (Market note) security = refl

abbrev security_payments : PaymentDays → List (Line × ℕ) → List Flow
security_payments days pairs = flat_map (λ p. line_payments days p.0 p.1) pairs

securities-limited : (n : ℕ) (book : BookContents) (leaf : Leaf) (lines : List Line) (plan : List ℕ) → All (IsSecurityLine book.days) lines
    → sum_by (limited n book leaf) (zip lines plan) ≡ sum_by (at_rate (limit_price n book.days.settle leaf.mu)) (security_payments book.days (zip lines plan))
securities-limited n book leaf [] plan are = refl
securities-limited n book leaf (line ∷ lines) [] are = refl
securities-limited n book leaf (line ∷ lines) (units ∷ plan) are =
    let weight = security-weight book.days leaf line.kind (All-head (IsSecurityLine book.days) line lines are).security in
    let own = ap (λ w. sum_by (at_rate (limit_price n book.days.settle w)) (line_payments book.days line units)) weight in
    let rest = securities-limited n book leaf lines plan (All-tail (IsSecurityLine book.days) line lines are) in
    omega (
      arith,
      sum_by-cons (limited n book leaf) (line, units) (zip lines plan),
      own,
      rest,
      sum_by-append (at_rate (limit_price n book.days.settle leaf.mu)) (line_payments book.days line units) (security_payments book.days (zip lines plan)),
    )

securities-credit : (book : BookContents) (leaf : Leaf) (lines : List Line) (plan : List ℕ) → All (IsSecurityLine book.days) lines
    → sum_by (limit_credit leaf) (zip lines plan) ≡ leaf.mu * sum_by pair_cost (zip lines plan)
unfolding limit_credit
securities-credit book leaf [] plan are = omega arith
securities-credit book leaf (line ∷ lines) [] are = omega arith
securities-credit book leaf (line ∷ lines) (units ∷ plan) are =
    let weight = security-weight book.days leaf line.kind (All-head (IsSecurityLine book.days) line lines are).security in
    let own = ap (λ w. w * line_cost line units) weight in
    let rest = securities-credit book leaf lines plan (All-tail (IsSecurityLine book.days) line lines are) in
    omega (
      arith,
      sum_by-cons (limit_credit leaf) (line, units) (zip lines plan),
      own,
      rest,
      ap (λ m. leaf.mu * m) (sum_by-cons pair_cost (line, units) (zip lines plan)),
    )

-- what the limit takes from a rival, it is credited: its securities are worth no more than they cost
rival-limited : (limit : ℕ) (book : BookContents) (leaf : Leaf) (rival : List ℕ) → IsBook book → IsRival limit book rival
    → sum_by (limited (limit - 1) book leaf) (zip book.lines rival) ≤ sum_by (limit_credit leaf) (zip book.lines rival)
rival-limited limit book leaf rival limits is =
    split book.lines rival limits.lines securities
  where
    n : ℕ
    n = limit - 1

    rate : ℤ → ℕ
    rate = λ day. low n (index360_of book.days.settle day)

    bought : List (Line × ℕ)
    bought = drop 1 (zip book.lines rival)

    within : present_value Low n (indexed book.days.settle (security_flows book rival)) ≤ one * security_cost book rival
    within = elim (cases_lt (one * security_cost book rival) (present_value Low n (indexed book.days.settle (security_flows book rival)))) [
      | inl more ↦ absurd (low_value-excludes n (indexed book.days.settle (security_flows book rival)) (security_cost book rival) more is.yields)
      | inr least ↦ least
    ]

    worth : sum_by (at_rate rate) (security_payments book.days bought) ≤ one * sum_by pair_cost bought
    worth = omega (arith, within, value-by_day n book.days.settle (security_flows book rival), rate-summed rate (security_payments book.days bought))

    securities : sum_by (at_rate (limit_price n book.days.settle leaf.mu)) (security_payments book.days bought) ≤ leaf.mu * sum_by pair_cost bought
    securities =
        let taken = limited-le n book.days.settle leaf.mu (security_payments book.days bought) in
        let most = mul-le-mul_left leaf.mu worth in
        cancel-le _ _ one (omega arith) (omega (arith, taken, most))

    split : (lines : List Line) (plan : List ℕ) → AreLines book.days lines
        → sum_by (at_rate (limit_price n book.days.settle leaf.mu)) (security_payments book.days (drop 1 (zip lines plan))) ≤ leaf.mu * sum_by pair_cost (drop 1 (zip lines plan))
        → sum_by (limited n book leaf) (zip lines plan) ≤ sum_by (limit_credit leaf) (zip lines plan)
    split [] plan are taken = absurd are
    split (cash ∷ lines) [] are taken = omega arith
    split (cash ∷ lines) (units ∷ plan) are taken =
        let free = limited-free n book leaf cash units (cash-weight leaf cash are.0) in
        omega (
          arith,
          taken,
          sum_by-cons (limited n book leaf) (cash, units) (zip lines plan),
          free,
          sum_by-cons (limit_credit leaf) (cash, units) (zip lines plan),
          securities-limited n book leaf lines plan are.1,
          securities-credit book leaf lines plan are.1,
        )

pub bounds-rivals : BoundsRivals
bounds-rivals limit book ranges leaf limits well rival is inside =
    bound-le (limit - 1) book ranges leaf rival limits well is.permitted is.covered inside (rival-limited limit book leaf rival limits is)
