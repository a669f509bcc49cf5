-- What trees come to whose budgets are spent.
use Rattle.std.proofs.Common.{◌≡◌, ◌∙◌, ◌⊎◌, inl, inr, ℕ, ◌+◌, ◌-◌, ◌*◌, ◌<◌, ◌≤◌, ◌==◌, ℤ, pos, ◌-ℤ◌, ◌*ℤ◌, ◌≤ℤ◌, ◌<ℤ◌, Bool, true, false, not, ◌&&◌, ◌||◌, if◌then◌else◌, List, length, refl, sym, ap, subst, arith, Option, Some, None}
use Rattle.std.specs.Prelude.{IfSome, MatchOption, int_lt, option_map}
use Rattle.std.specs.List.{All}
use Rattle.std.proofs.lemmas.Int.{ints}
use Rattle.std.proofs.lemmas.List.Elements.{All-weaker}
use Rattle.case_file.specs.Case.{CaseContents}
use Rattle.cash_table.specs.Points.{is_excluded}
use Rattle.cash_table.specs.Reach.{IsInReach}
use Rattle.dual_bound.specs.LeafBound.{bound_of}
use Rattle.dual_bound.specs.Closing.{is_weak}
use Rattle.node_ranges.specs.Ranges.{RangesContents, is_single}
use Rattle.dual_bound.proofs.Signed.{scale-le}
use Rattle.offer_book.specs.declared.coefficients.TheConstants.{COEFFICIENT_SCALE}
use Rattle.node_ranges.specs.Claims.{Claim, bears_out_by, costs_enough, low_ends, placed_nodes}
use Rattle.proof_tree.specs.declared.tree.TreeNode.{TreeNode}
use Rattle.proof_tree.specs.declared.tree.TreeNode.TheVariants as node
use Rattle.escrow_check.specs.Acceptance.{claim_of}
use Rattle.escrow_units.specs.declared.limits.TheConstants.{AMOUNT_LIMIT}
use Rattle.halving_tree.specs.Halving.{HasMoreNodes}
use Rattle.halving_tree.specs.declared.rule.SplitRule.{SplitRule}
use Rattle.halving_tree.specs.declared.rule.SplitRule.TheVariants as rules
use Rattle.offer_book.specs.Book.{IsBook}
use Rattle.offer_book.specs.Portfolio.{cost}
use Rattle.search_tree.proofs.LawFacts.{full_trees_show}
use Rattle.search_tree.specs.Growing.{IsBought, IsHalvingSplit, obeys}
use Rattle.search_tree.specs.Laws.{IsFull, ShowsBound}
use Rattle.search_tree.specs.Shows.{IsBoundOf}
use Rattle.search_tree.specs.Tree.{AreNodesOf, TreeContents}
use Rattle.branch_search.proofs.PlanBuys.{plan-again, plan-bought, plan-buys_well}
use Rattle.branch_search.specs.Purchases.{certificate_of}
use Rattle.branch_search.specs.Runs.{IsSpentRun}
use Rattle.branch_search.specs.declared.growing.Shown.{Shown}
use Rattle.branch_search.specs.Search.{CostsNoLess, IsFound, IsFoundBy, IsNoDearerThanBackward, IsOverBound, IsShown, IsSpent, OfBackward}

-- ---- one tree
halves : (case : CaseContents) (rule : SplitRule) → rule ≡ rules.Halving → (ranges : RangesContents) (line at : ℕ) → obeys case rule ranges line at → IsHalvingSplit case ranges line at
halves case rule is ranges line at own = subst (λ (r : SplitRule). obeys case r ranges line at) is own

pub spent-run : (case : CaseContents) (rule : SplitRule) (best : Option ℕ) (bound : ℤ) (cents : ℕ) (before after : TreeContents) (nodes : List TreeNode) → IsFull case (obeys case rule) best bound before after → AreNodesOf case.book.needs after nodes
    → IsBoundOf bound cents → length before.pool.states ≤ case.budget → IsSpentRun case rule best (record { tree = nodes; bound = record { 0 = cents } })
spent-run case rule best bound cents before after nodes full written is_bound room = record {
  shown = record {
    trees = shows.well.trees;
    nodes = shows.well.limited;
    few = omega (arith, shows.count, room);
    full = omega (arith, shows.count, full.full);
    holds = shows.holds;
    greatest = shows.greatest;
    no_rival = shows.no_rival;
    raised = shows.well.raised;
    needed = shows.needed;
    root = shows.root;
  };
  over = shows.over;
  larger = λ is. shows.larger (halves case rule is);
}
  where
    shows : ShowsBound case (obeys case rule) best cents before nodes
    shows = full_trees_show case rule best bound cents before after nodes full written is_bound

-- ---- the answer
-- where the best plan costs more than the bound by more than the allowance, the budget is spent
pub spent-is : (case : CaseContents) (cents : ℕ) (nodes : List TreeNode) (best : Option ℕ) (plan : Option (List ℕ)) → IsInReach case.book → IsShown case nodes cents → HasMoreNodes case case.budget
    → best ≡ option_map (λ (p : List ℕ). cost case.book p) plan → IfSome plan (λ p. IsBought case.limit case.book p (cost case.book p)) → IfSome plan (λ p. cents + case.allowance < cost case.book p)
    → IsNoDearerThanBackward case.limit case.book best → IsSpent case (record { tree = nodes; bound = record { 0 = cents }; best = plan })
spent-is case cents nodes best plan reach shown larger best_is bought over no_dearer = record {
  in_reach = reach;
  shown = shown;
  best = over-plan plan bought over;
  no_dearer = dearer plan best_is;
  larger = larger;
}
  where
    over-plan : (found : Option (List ℕ)) → IfSome found (λ p. IsBought case.limit case.book p (cost case.book p)) → IfSome found (λ p. cents + case.allowance < cost case.book p) → IfSome found (IsOverBound case cents)
    over-plan None has more = tt
    over-plan (Some found) has more = record { permitted = has.permitted; meets = has.meets; within = has.within; over = more }

    dearer : (found : Option (List ℕ)) → best ≡ option_map (λ (p : List ℕ). cost case.book p) found
        → MatchOption found (IsNoDearerThanBackward case.limit case.book None) (λ p. IsNoDearerThanBackward case.limit case.book (Some (cost case.book p)))
    dearer None is = subst (IsNoDearerThanBackward case.limit case.book) is no_dearer
    dearer (Some found) is = subst (IsNoDearerThanBackward case.limit case.book) is no_dearer

-- ---- a claim of less
not-true : (b : Bool) → not b ≡ false → b ≡ true
not-true true is = refl
not-true false is = absurd (cc)

lt-of : (a b : ℤ) → int_lt a b ≡ true → a <ℤ b
lt-of a b e = omega (arith, ints)

lt-test : (a b : ℤ) → a <ℤ b → int_lt a b ≡ true
lt-test a b less = grind (arith, ints, less)

less-borne : (rho : ℕ) (bound own less : ℤ) → less ≤ℤ own → bears_out_by rho bound (Some own) ≡ true → bears_out_by rho bound (Some less) ≡ true
less-borne rho bound own less le borne =
    let scaled = scale-le (COEFFICIENT_SCALE * rho) (less -ℤ pos 1) (own -ℤ pos 1) (omega (arith, ints, le)) in
    let above = lt-of _ _ borne in
    lt-test _ _ (between _ _ _ scaled above)
  where
    between : (a b c : ℤ) → a ≤ℤ b → b <ℤ c → a <ℤ c
    between a b c le lt = omega (arith, ints)

less-enough : (case : CaseContents) (own less : ℤ) (plan : List ℕ) → less ≤ℤ own → costs_enough case.book (Some own) plan ≡ true → costs_enough case.book (Some less) plan ≡ true
less-enough case own less plan le enough = grind (arith, ints)

less-leaf : (none own less reached : Bool) → (own ≡ true → less ≡ true) → not (if none then reached else own) ≡ false → not (if none then reached else less) ≡ false
less-leaf false own less reached up is = ap not (up (not-true own is))
less-leaf true own less reached up is = is

less-point : (single excluded own less : Bool) → (own ≡ true → less ≡ true) → not (single && (excluded || own)) ≡ false → not (single && (excluded || less)) ≡ false
less-point true true own less up is = is
less-point true false own less up is = ap not (up (not-true own is))
less-point false excluded own less up is = is

-- a node that is closed for a claim is closed for one of less
less-claimed : (case : CaseContents) (own less : ℤ) (p : TreeNode × RangesContents) → less ≤ℤ own → is_weak case (Some own) p ≡ false → is_weak case (Some less) p ≡ false
less-claimed case own less (node.Split part at, ranges) le closed = closed
less-claimed case own less (node.Closed leaf, ranges) le closed =
    less-leaf (leaf.rho == 0) (bears_out_by leaf.rho (bound_of (case.limit - 1) case.book ranges leaf) (Some own)) (bears_out_by leaf.rho (bound_of (case.limit - 1) case.book ranges leaf) (Some less)) (int_lt (pos 0) (bound_of (case.limit - 1) case.book ranges leaf))
    (less-borne leaf.rho (bound_of (case.limit - 1) case.book ranges leaf) own less le) closed
less-claimed case own less (node.Point, ranges) le closed =
    less-point (is_single ranges) (is_excluded case.book (case.limit - 1) (low_ends ranges)) (costs_enough case.book (Some own) (low_ends ranges)) (costs_enough case.book (Some less) (low_ends ranges))
    (less-enough case own less (low_ends ranges) le) closed

-- where its gap is allowed, the plan is found
pub shown-found : (case : CaseContents) (cents gap : ℕ) (nodes : List TreeNode) (plan : List ℕ) (own : ℕ) → IsShown case nodes cents → case.budget ≤ 10_000 → case.allowance ≤ AMOUNT_LIMIT → IsBook case.book → IsBought case.limit case.book plan own
    → gap ≡ own - cents → gap ≤ case.allowance → IsFound case plan nodes gap
shown-found case cents gap nodes plan own shown budget small limits bought gap_is allowed = record {
  permitted = bought.permitted;
  meets = bought.meets;
  within = bought.within;
  packable = record {
    portfolio = (plan-buys_well case.book plan limits bought.permitted, omega (arith, small, allowed));
    few = omega (arith, shown.few, budget);
    nodes_are = shown.nodes;
    tree = shown.trees;
  };
  unopposed = record {
    portfolio = record {
      plan = plan;
      made = record { made = record { bought = plan-bought case.book plan bought.permitted; permitted = bought.permitted }; covered = bought.meets };
      within = bought.within;
    };
    tree = record { proper = shown.holds.proper; closed = subst (λ (claim : Claim). All (λ p. is_weak case claim p ≡ false) (placed_nodes case.book nodes)) (sym (claims gap)) (at-claim (pos own -ℤ pos gap) (grind (arith, ints))) };
    allowed = allowed;
  };
  least = λ less below sound.
      let closed = subst (λ (claim : Claim). All (λ p. is_weak case claim p ≡ false) (placed_nodes case.book nodes)) (claims less ∙ ap (λ (z : ℤ). Some z) (pos-less less below)) sound.closed in
      let most : own - less ≤ cents = shown.greatest (own - less) (record { proper = shown.holds.proper; closed = closed }) in
      omega (arith, most, below, gap_is);
}
  where
    claims : (other : ℕ) → claim_of case.book (certificate_of plan nodes other) ≡ Some (pos own -ℤ pos other)
    claims other = ap (λ (p : List ℕ). Some (pos (cost case.book p) -ℤ pos other)) (plan-again case.book plan bought.permitted) ∙ ap (λ (c : ℕ). Some (pos c -ℤ pos other)) (sym bought.priced)

    at-claim : (claim : ℤ) → claim ≤ℤ pos cents → All (λ p. is_weak case (Some claim) p ≡ false) (placed_nodes case.book nodes)
    at-claim claim le = All-weaker (λ p. is_weak case (Some (pos cents)) p ≡ false) (λ p. is_weak case (Some claim) p ≡ false) (λ p closed. less-claimed case (pos cents) claim p le closed) (placed_nodes case.book nodes) shown.holds.closed

    pos-less : (less : ℕ) → less < gap → pos own -ℤ pos less ≡ pos (own - less)
    pos-less less below = grind (arith, ints)

pub shown-by : (case : CaseContents) (cents : ℕ) (nodes : List TreeNode) (plan : List ℕ) (own : ℕ) → IsShown case nodes cents → IsInReach case.book → IsBought case.limit case.book plan own → IsNoDearerThanBackward case.limit case.book (Some own)
    → IsFoundBy case plan nodes
shown-by case cents nodes plan own shown reach bought no_dearer = record {
  in_reach = reach;
  few = shown.few;
  raised = shown.raised;
  no_dearer = subst (λ (c : ℕ). OfBackward (CostsNoLess case.limit case.book c) case.book) bought.priced no_dearer;
}

-- one of two trees shows what both do
pub one-shown : (case : CaseContents) (first second taken : Shown) → (taken ≡ first) ⊎ (taken ≡ second) → IsShown case first.tree first.bound.0 → IsShown case second.tree second.bound.0 → IsShown case taken.tree taken.bound.0
one-shown case first second taken (inl is) own other = subst (λ (s : Shown). IsShown case s.tree s.bound.0) (sym is) own
one-shown case first second taken (inr is) own other = subst (λ (s : Shown). IsShown case s.tree s.bound.0) (sym is) other
