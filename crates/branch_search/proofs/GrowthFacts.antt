-- What is known at the nodes of a tree while it grows, and once it has ended.
use Rattle.std.proofs.Common.{◌≡◌, ◌∙◌, inl, inr, ℕ, zero, suc, ◌+◌, ◌*◌, ◌/◌, ◌-◌, ◌^◌, ◌<◌, ◌≤◌, ℤ, pos, negsuc, neg_ℤ, ◌≤ℤ◌, Bool, true, false, List, [], ◌∷◌, ◌++◌, length, set, refl, sym, ap, subst, arith, Option, unsigned_abs, cond}
use Rattle.std.proofs.Math.Nat.{div-le_of_le-mul}
use Rattle.std.specs.List.{All, count_by}
use Rattle.std.proofs.lemmas.Bool.{cases_lt}
use Rattle.std.proofs.lemmas.Int.{ints}
use Rattle.std.proofs.lemmas.List.{get_or_past, length-append, length-set}
use Rattle.std.proofs.lemmas.List.Elements.{All-from_get_or}
use Rattle.std.proofs.lemmas.List.Sums.{sum_by-append}
use Rattle.case_file.specs.Case.{CaseContents}
use Rattle.dual_bound.proofs.BoundSizes.{bound-small}
use Rattle.node_ranges.proofs.CostFacts.{cost-rises}
use Rattle.node_ranges.proofs.RangeFacts.{tight-of, tight-ordered}
use Rattle.node_ranges.proofs.RangeLaws.{root_is_tight, sides_are_tight}
use Rattle.dual_bound.specs.LeafBound.{bound_of, least_cost_of}
use Rattle.node_ranges.specs.Claims.{least_cost}
use Rattle.node_ranges.specs.Ranges.{AreTight, RangesContents, is_proper, narrowed}
use Rattle.price_lp.specs.declared.proposing.TheConstants.{LEAST_WEIGHT}
use Rattle.proof_tree.specs.Tree.{IsLeaf}
use Rattle.proof_tree.specs.declared.tree.Leaf.{Leaf}
use Rattle.proof_tree.specs.declared.tree.Part.TheVariants as part
use Rattle.halving_tree.specs.Halving.{IsHalved}
use Rattle.node_pool.proofs.PoolFacts.{count-set, one_if}
use Rattle.node_pool.proofs.WayFacts.{ways-tight}
use Rattle.node_pool.specs.Pool.{IsInHand, IsLeast, IsOneTree, NoneInHand, NoneWaits, SplitsAreWhole, is_waiting, state_at, with_state}
use Rattle.node_pool.specs.Tree.{AreEnded, IsEnded}
use Rattle.node_pool.specs.Way.{AreProper, IsWay, Step, ranges_at}
use Rattle.node_pool.specs.declared.node.NodeId.{NodeId}
use Rattle.node_pool.specs.declared.node.State.{State}
use Rattle.node_pool.specs.declared.node.State.TheVariants as state
use Rattle.offer_book.specs.Book.{BookContents, IsBook}
use Rattle.search_tree.proofs.EndFacts.{split-there}
use Rattle.search_tree.proofs.GrowFacts.{closed-kept, grown-cheaper, popped-kept, split-kept, stuck-kept}
use Rattle.search_tree.proofs.Rising.{bound-rises}
use Rattle.search_tree.proofs.SpentFacts.{goes-on}
use Rattle.search_tree.proofs.Ways.{some-way}
use Rattle.search_tree.specs.Best.{CoversBackward, IsNoDearer}
use Rattle.search_tree.specs.Growing.{GoesOn, HasGrown, IsAt, IsClosedBy, IsGrown, IsHeld, IsNodeAt, IsPopped, IsPriced, IsTried, no_node, node_of, obeys}
use Rattle.search_tree.specs.Tree.{HaveOwnNumbers, IsDrained, IsDrainedNode, TreeContents, closed_tree, open_node, split_tree, waiting_tree}
use Rattle.search_tree.specs.declared.node.Closing.{Closing}
use Rattle.search_tree.specs.declared.node.Closing.TheVariants as closing
use Rattle.search_tree.specs.declared.node.Priced.{Priced}
use Rattle.search_tree.specs.declared.node.SearchNode.{SearchNode}
use Rattle.halving_tree.specs.declared.rule.SplitRule.{SplitRule}
use Rattle.halving_tree.specs.declared.rule.SplitRule.TheVariants as rules
use Rattle.branch_search.specs.Growth.{IsFullTree, IsSide, left_to_do}

-- ---- the ranges of a node
-- each split on the way to a node is proper
grown-split : (case : CaseContents) (Obeys : RangesContents → ℕ → ℕ → Type 0) (best : Option ℕ) (popped : ℤ) (states : List State) (nodes : List SearchNode) → IsGrown case Obeys best popped states nodes → (parent line at : ℕ) (left right : NodeId) (above : List Step)
    → state_at states parent ≡ state.Split line at left right → IsWay states parent above → is_proper (ranges_at case.book above) (part.Line line) at ≡ true
grown-split case Obeys best popped states nodes grown parent line at left right above split way =
    let own : IsNodeAt case Obeys best popped parent (ranges_at case.book above) (node_of nodes parent) (state.Split line at left right) =
    subst (IsNodeAt case Obeys best popped parent (ranges_at case.book above) (node_of nodes parent)) split (grown.each parent above (split-there states parent line at left right split) way) in
    own.stands.0.proper

pub grown-proper : (case : CaseContents) (Obeys : RangesContents → ℕ → ℕ → Type 0) (best : Option ℕ) (popped : ℤ) (states : List State) (nodes : List SearchNode) → IsGrown case Obeys best popped states nodes → (number : ℕ) (way : List Step) → IsWay states number way
    → AreProper case.book way
grown-proper case Obeys best popped states nodes grown number [] way = tt
grown-proper case Obeys best popped states nodes grown number (step ∷ above) way = (
  grown-proper case Obeys best popped states nodes grown way.0 above way.2,
  grown-split case Obeys best popped states nodes grown way.0 step.line step.at way.1.left way.1.right above way.1.split way.2,
)

pub popped-way : (case : CaseContents) (Obeys : RangesContents → ℕ → ℕ → Type 0) (best : Option ℕ) (states : List State) (nodes : List SearchNode) (number : ℕ) → IsOneTree states → IsPopped case Obeys best states nodes number
    → (way : List Step) × IsWay states number way × AreProper case.book way
popped-way case Obeys best states nodes number one popped =
    let way = some-way states number one popped.held.there in
    (way.0, way.1, grown-proper case Obeys best (node_of nodes number).priced.bound states nodes popped.grown number way.0 way.1)

-- the ranges at hand are those of the node in hand
pub held-at : (case : CaseContents) (Obeys : RangesContents → ℕ → ℕ → Type 0) (best : Option ℕ) (states : List State) (nodes : List SearchNode) (number : ℕ) (ranges : RangesContents) → IsPopped case Obeys best states nodes number
    → ((way : List Step) → IsWay states number way → AreProper case.book way → ranges ≡ ranges_at case.book way) → IsHeld case Obeys best states nodes number ranges
held-at case Obeys best states nodes number ranges popped value = record {
  popped = popped;
  ranged = λ way is. value way is (grown-proper case Obeys best (node_of nodes number).priced.bound states nodes popped.grown number way is);
}

pub held-priced : (case : CaseContents) (Obeys : RangesContents → ℕ → ℕ → Type 0) (best : Option ℕ) (states : List State) (nodes : List SearchNode) (number : ℕ) (ranges : RangesContents) → IsOneTree states → IsHeld case Obeys best states nodes number ranges
    → IsPriced case ranges (node_of nodes number).priced
held-priced case Obeys best states nodes number ranges one held =
    let way = some-way states number one held.popped.held.there in
    subst (λ (r : RangesContents). IsPriced case r (node_of nodes number).priced) (sym (held.ranged way.0 way.1)) (held.popped.grown.each number way.0 held.popped.held.there way.1).priced

-- a cheaper best plan leaves the node in hand
pub held-cheaper : (case : CaseContents) (Obeys : RangesContents → ℕ → ℕ → Type 0) (best after : Option ℕ) (states : List State) (nodes : List SearchNode) (number : ℕ) (ranges : RangesContents) → IsNoDearer best after → IsHeld case Obeys best states nodes number ranges
    → IsHeld case Obeys after states nodes number ranges
held-cheaper case Obeys best after states nodes number ranges no_dearer held = record {
  popped = record {
    grown = grown-cheaper case Obeys best after (node_of nodes number).priced.bound states nodes no_dearer held.popped.grown;
    held = held.popped.held;
    others = held.popped.others;
  };
  ranged = held.ranged;
}

-- ---- a node is taken, closed, split, or put back
pub popped-next : (case : CaseContents) (Obeys : RangesContents → ℕ → ℕ → Type 0) (best : Option ℕ) (states : List State) (nodes : List SearchNode) (number : ℕ) → IsOneTree states → HasGrown case Obeys best states nodes → IsLeast states number → IsInHand (with_state states number state.InHand) number
    → IsPopped case Obeys best (with_state states number state.InHand) nodes number
popped-next case Obeys best states nodes number one grown least taken =
    let there : number < length states = omega (arith, taken.there, length-set states number state.InHand) in
    let way = some-way states number one there in
    popped-kept case Obeys best grown.0 states nodes number way.0 grown.1 there way.1 least

-- a node that is tried is closed, unless it stays open
tried-closed : (case : CaseContents) (best : Option ℕ) (ranges : RangesContents) (bound : ℤ) (how : Closing) → (how ≡ closing.Open → ⊥) → IsTried case best ranges bound how → IsClosedBy case best ranges bound how
tried-closed case best ranges bound closing.Open closed tried = absurd (closed refl)
tried-closed case best ranges bound closing.Borne closed tried = tried
tried-closed case best ranges bound (closing.Unreached day) closed tried = tried
tried-closed case best ranges bound (closing.Infeasible leaf) closed tried = tried
tried-closed case best ranges bound closing.Point closed tried = tried

pub closed-next : (case : CaseContents) (Obeys : RangesContents → ℕ → ℕ → Type 0) (best : Option ℕ) (tree : TreeContents) (number : ℕ) (ranges : RangesContents) (how : Closing) → IsHeld case Obeys best tree.pool.states tree.nodes number ranges → (how ≡ closing.Open → ⊥)
    → IsTried case best ranges (node_of tree.nodes number).priced.bound how → HasGrown case Obeys best (closed_tree tree number how).pool.states (closed_tree tree number how).nodes
closed-next case Obeys best tree number ranges how held closed tried =
    closed-kept case Obeys best tree.pool.states tree.nodes number ranges how held (tried-closed case best ranges (node_of tree.nodes number).priced.bound how closed tried)

-- an open node is split by the rule: where that is the halving tree's, it is one that the halving tree splits there
pub rule-obeyed : (case : CaseContents) (rule : SplitRule) (best : Option ℕ) (ranges : RangesContents) (priced : Priced) (line at : ℕ) → CoversBackward case best → IsPriced case ranges priced → GoesOn case best ranges priced.bound
    → (rule ≡ rules.Halving → IsHalved case.book.lines ranges.lines line at) → obeys case rule ranges line at
rule-obeyed case rules.Halving best ranges priced line at covers is open_node halved = record {
  goes_on = goes-on case best ranges priced.bound covers (omega (arith, ints, is.improved.given, is.bound)) open_node;
  halved = halved refl;
}
rule-obeyed case rules.Relaxation best ranges priced line at covers is open_node halved = tt

-- a side's leaf shows no lower least cost than its parent's
side-above : (case : CaseContents) (ranges : RangesContents) (line at : ℕ) (right : Bool) (own side : Priced) → (bound_of (case.limit - 1) case.book ranges own.leaf ≤ℤ bound_of (case.limit - 1) case.book (narrowed case.book ranges (part.Line line) at right) own.leaf)
    → IsPriced case ranges own → IsSide case ranges line at right own.leaf side → own.bound ≤ℤ side.bound
side-above case ranges line at right own side rises priced is =
    let shown = cost-rises own.leaf.rho (bound_of (case.limit - 1) case.book ranges own.leaf) (bound_of (case.limit - 1) case.book (narrowed case.book ranges (part.Line line) at right) own.leaf) rises in
    let no_less = is.no_less (omega (arith, priced.weighs)) in
    omega (arith, ints, shown, priced.bound, no_less)

pub split-next : (case : CaseContents) (Obeys : RangesContents → ℕ → ℕ → Type 0) (best : Option ℕ) (tree : TreeContents) (number line at : ℕ) (ranges : RangesContents) (left right : Priced) → IsBook case.book → AreTight case.book ranges → IsOneTree tree.pool.states
    → SplitsAreWhole tree.pool.states → IsHeld case Obeys best tree.pool.states tree.nodes number ranges → is_proper ranges (part.Line line) at ≡ true → line < length case.book.lines → Obeys ranges line at
    → IsSide case ranges line at false (node_of tree.nodes number).priced.leaf left → IsSide case ranges line at true (node_of tree.nodes number).priced.leaf right
    → HasGrown case Obeys best (split_tree tree number line at left right).pool.states (split_tree tree number line at left right).nodes
split-next case Obeys best tree number line at ranges left right limits tight one whole held proper few obeys left_is right_is =
    split-kept case Obeys best tree.pool.states tree.nodes number line at ranges left right held whole
    (record { proper = proper; few = few; low = omega (arith, ints); obeys = obeys })
    left_is.own (side-above case ranges line at false own left (bound-rises (case.limit - 1) case.book own.leaf ranges (part.Line line) at false limits tight proper) priced left_is)
    right_is.own (side-above case ranges line at true own right (bound-rises (case.limit - 1) case.book own.leaf ranges (part.Line line) at true limits tight proper) priced right_is)
  where
    own : Priced
    own = (node_of tree.nodes number).priced

    priced : IsPriced case ranges own
    priced = held-priced case Obeys best tree.pool.states tree.nodes number ranges one held

pub stuck-next : (case : CaseContents) (Obeys : RangesContents → ℕ → ℕ → Type 0) (best : Option ℕ) (tree : TreeContents) (number line at : ℕ) (ranges : RangesContents) → IsOneTree tree.pool.states → IsHeld case Obeys best tree.pool.states tree.nodes number ranges
    → GoesOn case best ranges (node_of tree.nodes number).priced.bound → Obeys ranges line at → case.budget < length tree.pool.states + 2
    → IsFullTree case Obeys best (node_of tree.nodes number).priced.bound (waiting_tree tree number)
stuck-next case Obeys best tree number line at ranges one held goes_on obeys full =
    let way = some-way tree.pool.states number one held.popped.held.there in
    let bound = (node_of tree.nodes number).priced.bound in
    record {
      stuck = stuck-kept case Obeys best tree.pool.states tree.nodes number ranges way.0 way.1 held goes_on line at obeys;
      full = omega (arith, full, length-set tree.pool.states number (state.Waiting bound));
    }

-- ---- what is left to do
pub less-popped : (tree : TreeContents) (number : ℕ) → IsInHand (with_state tree.pool.states number state.InHand) number → IsLeast tree.pool.states number
    → left_to_do (record tree.pool { states = with_state tree.pool.states number state.InHand }) + 1 ≡ left_to_do tree.pool
less-popped tree number taken least =
    let same = length-set tree.pool.states number state.InHand in
    let counted = count-set tree.pool.states number state.InHand (omega (arith, taken.there, same)) in
    let one : one_if (is_waiting (state_at tree.pool.states number)) ≡ 1 = ap (λ (t : State). one_if (is_waiting t)) least.waits in
    omega (arith, same, counted, one)

pub same-closed : (tree : TreeContents) (number : ℕ) (how : Closing) → IsInHand tree.pool.states number → left_to_do (closed_tree tree number how).pool ≡ left_to_do tree.pool
same-closed tree number how held =
    let same = length-set tree.pool.states number (state.Closed number) in
    let counted = count-set tree.pool.states number (state.Closed number) held.there in
    let none : one_if (is_waiting (state_at tree.pool.states number)) ≡ 0 = ap (λ (t : State). one_if (is_waiting t)) held.in_hand in
    omega (arith, same, counted, none)

pub less-split : (tree : TreeContents) (number line at : ℕ) (left right : Priced) → IsInHand tree.pool.states number → length tree.pool.states + 2 ≤ tree.pool.capacity
    → left_to_do (split_tree tree number line at left right).pool ≤ left_to_do tree.pool
less-split tree number line at left right held room =
    let split : State = state.Split line at (record { 0 = length tree.pool.states }) (record { 0 = length tree.pool.states + 1 }) in
    let sides : List State = state.Waiting left.bound ∷ state.Waiting right.bound ∷ [] in
    let same = length-set tree.pool.states number split in
    let long = length-append (set tree.pool.states number split) sides in
    let counted = count-set tree.pool.states number split held.there in
    let none : one_if (is_waiting (state_at tree.pool.states number)) ≡ 0 = ap (λ (t : State). one_if (is_waiting t)) held.in_hand in
    let more : count_by is_waiting (set tree.pool.states number split ++ sides) ≡ count_by is_waiting (set tree.pool.states number split) + 2 =
    sum_by-append (λ (t : State). cond (is_waiting t) 1 0) (set tree.pool.states number split) sides in
    omega (arith, same, long, counted, none, more, room)

-- ---- a tree that has ended
-- a quotient by a weight of a hundredth at least
quotient-small : (n less : ℕ) → LEAST_WEIGHT ≤ suc less → n < 10 ^ 37 → n / suc less ≤ 10 ^ 27
quotient-small n less weighs small =
    let room : n ≤ suc less * 10 ^ 27 = omega (arith, weighs, small) in
    div-le_of_le-mul (suc less) room

cost-small : (rho : ℕ) (bound : ℤ) → LEAST_WEIGHT ≤ rho → unsigned_abs bound < 10 ^ 37 → unsigned_abs (least_cost rho bound) < 10 ^ 28
cost-small zero bound weighs small = absurd (omega (arith, weighs))
cost-small (suc less) (pos zero) weighs small = omega arith
cost-small (suc less) (pos (suc below)) weighs small = omega (arith, quotient-small below less weighs (omega (arith, small)))
cost-small (suc less) (negsuc above) weighs small = farther (suc above / suc less) (quotient-small (suc above) less weighs small)
  where
    farther : (n : ℕ) → n ≤ 10 ^ 27 → unsigned_abs (neg_ℤ (pos n)) < 10 ^ 28
    farther n le = omega (arith, ints, le)

-- no leaf that weighs the cost by a hundredth at least shows a least cost that is too great
pub shown-small : (n : ℕ) (book : BookContents) (ranges : RangesContents) (leaf : Leaf) → IsBook book → AreTight book ranges → IsLeaf (length book.needs) leaf → LEAST_WEIGHT ≤ leaf.rho
    → unsigned_abs (least_cost_of n book ranges leaf) < 10 ^ 28
shown-small n book ranges leaf limits tight well weighs =
    cost-small leaf.rho (bound_of n book ranges leaf) weighs (bound-small n book ranges leaf limits well (tight-of book ranges tight) (tight-ordered book.lines ranges.lines tight.lines) tight.ordered)

pub bounds-small : (case : CaseContents) (Obeys : RangesContents → ℕ → ℕ → Type 0) (best : Option ℕ) (popped : ℤ) (states : List State) (nodes : List SearchNode) → IsBook case.book → IsOneTree states → IsGrown case Obeys best popped states nodes
    → All (λ (own : SearchNode). unsigned_abs own.priced.bound < 10 ^ 28) nodes
bounds-small case Obeys best popped states nodes limits one grown = All-from_get_or (λ (own : SearchNode). unsigned_abs own.priced.bound < 10 ^ 28) nodes no_node by-number
  where
    by-number : (number : ℕ) → number < length nodes → unsigned_abs (node_of nodes number).priced.bound < 10 ^ 28
    by-number number few =
        let inside : number < length states = omega (arith, few, grown.same) in
        let way = some-way states number one inside in
        let own = (grown.each number way.0 inside way.1).priced in
        let tight = ways-tight sides_are_tight case.book (root_is_tight case.book limits) way.0 (grown-proper case Obeys best popped states nodes grown number way.0 way.1) in
        let ranges = ranges_at case.book way.0 in
        subst (λ (b : ℤ). unsigned_abs b < 10 ^ 28) (sym own.bound)
        (shown-small (case.limit - 1) case.book ranges (node_of nodes number).priced.leaf limits tight own.improved.well_formed own.weighs)

-- each closed node is closed by its own number
closed-there : (states : List State) (number leaf : ℕ) → state_at states number ≡ state.Closed leaf → number < length states
closed-there states number leaf closed = elim (cases_lt number (length states)) [
  | inl below ↦ below
  | inr past ↦ absurd (let clash : state.InHand ≡ state.Closed leaf = sym (get_or_past states number state.InHand past) ∙ closed in cc)
]

pub own-numbers : (case : CaseContents) (Obeys : RangesContents → ℕ → ℕ → Type 0) (best : Option ℕ) (popped : ℤ) (states : List State) (nodes : List SearchNode) → IsOneTree states → IsGrown case Obeys best popped states nodes → HaveOwnNumbers states
own-numbers case Obeys best popped states nodes one grown number leaf closed =
    let inside = closed-there states number leaf closed in
    let way = some-way states number one inside in
    (subst (IsAt case Obeys best popped number (ranges_at case.book way.0) (node_of nodes number)) closed (grown.each number way.0 inside way.1).stands).0

-- once the nodes that wait are closed, every node is ended, and closed by its own number
drained-one : (number : ℕ) (s : State) (own : SearchNode) (t : State) (after : SearchNode) → (s ≡ state.InHand → ⊥) → IsDrainedNode number s own t after → IsEnded t
drained-one number (state.Waiting key) own t after free is = subst IsEnded (sym is.0) tt
drained-one number state.InHand own t after free is = absurd (free refl)
drained-one number (state.Split line at left right) own t after free is = subst IsEnded (sym is.0) tt
drained-one number (state.Closed leaf) own t after free is = subst IsEnded (sym is.0) tt

pub drained-ended : (before after : TreeContents) → NoneInHand before.pool.states → IsDrained before after → AreEnded after.pool.states
drained-ended before after none drained number few =
    let inside : number < length before.pool.states = omega (arith, few, drained.states) in
    drained-one number (state_at before.pool.states number) (node_of before.nodes number) (state_at after.pool.states number) (node_of after.nodes number) (none number inside) (drained.each number inside)

drained-own : (number leaf : ℕ) (s : State) (own : SearchNode) (t : State) (after : SearchNode) → ((other : ℕ) → s ≡ state.Closed other → other ≡ number) → t ≡ state.Closed leaf → IsDrainedNode number s own t after → leaf ≡ number
drained-own number leaf (state.Waiting key) own t after is closed drained = (let same : state.Closed leaf ≡ state.Closed number = sym closed ∙ drained.0 in cc)
drained-own number leaf state.InHand own t after is closed drained = absurd (let clash : state.Closed leaf ≡ state.InHand = sym closed ∙ drained.0 in cc)
drained-own number leaf (state.Split line at left right) own t after is closed drained = absurd (let clash : state.Closed leaf ≡ state.Split line at left right = sym closed ∙ drained.0 in cc)
drained-own number leaf (state.Closed other) own t after is closed drained = (let same : state.Closed leaf ≡ state.Closed other = sym closed ∙ drained.0 in is leaf (sym same))

pub drained-numbers : (before after : TreeContents) → HaveOwnNumbers before.pool.states → IsDrained before after → HaveOwnNumbers after.pool.states
drained-numbers before after own drained number leaf closed =
    let inside : number < length before.pool.states = omega (arith, closed-there after.pool.states number leaf closed, drained.states) in
    drained-own number leaf (state_at before.pool.states number) (node_of before.nodes number) (state_at after.pool.states number) (node_of after.nodes number) (own number) closed (drained.each number inside)

-- a tree without a waiting node is ended
pub none-ended : (states : List State) → NoneInHand states → NoneWaits states → AreEnded states
none-ended states none_held none_waits number few = by (state_at states number) refl
  where
    by : (s : State) → state_at states number ≡ s → IsEnded (state_at states number)
    by (state.Waiting key) is = absurd (none_waits number key is)
    by state.InHand is = absurd (none_held number few is)
    by (state.Split line at left right) is = subst IsEnded (sym is) tt
    by (state.Closed leaf) is = subst IsEnded (sym is) tt
