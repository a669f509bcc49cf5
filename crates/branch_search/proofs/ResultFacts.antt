-- What a search comes to, from its tree.
use Rattle.std.proofs.Common.{◌≡◌, ◌∙◌, ◌⊎◌, inl, inr, ℕ, ◌-◌, ◌<◌, ◌≤◌, ℤ, pos, ◌-ℤ◌, Bool, true, false, ◌&&◌, ◌||◌, List, length, refl, sym, ap, subst, arith, Some}
use Rattle.std.specs.List.{All}
use Rattle.std.proofs.lemmas.Bool.{cases_lt}
use Rattle.std.proofs.lemmas.Int.{ints}
use Rattle.std.proofs.lemmas.List.{get_or_past}
use Rattle.case_file.specs.Case.{CaseContents}
use Rattle.cash_table.specs.Points.{is_excluded}
use Rattle.dual_bound.specs.Closing.{is_closed_point, is_weak}
use Rattle.node_ranges.specs.Ranges.{RangesContents, is_single}
use Rattle.node_ranges.specs.Claims.{Claim, bears_out, costs_enough, low_ends, placed_nodes}
use Rattle.proof_tree.specs.declared.tree.TreeNode.{TreeNode}
use Rattle.escrow_check.specs.Acceptance.{claim_of}
use Rattle.escrow_units.specs.declared.limits.TheConstants.{AMOUNT_LIMIT}
use Rattle.node_pool.specs.Tree.{Tree}
use Rattle.offer_book.specs.Portfolio.{cost}
use Rattle.search_tree.proofs.ClosedFacts.{borne-node, gap-allowed, node-bears}
use Rattle.search_tree.proofs.EndFacts.{IsWritten, written}
use Rattle.search_tree.proofs.LawFacts.{closed_trees_show}
use Rattle.search_tree.specs.Laws.{IsClosedTree, ShowsClaim}
use Rattle.branch_search.proofs.PlanBuys.{plan-again, plan-bought, plan-buys_well}
use Rattle.search_tree.specs.Growing.{IsBought, no_node, node_of, obeys}
use Rattle.halving_tree.specs.declared.rule.SplitRule.{SplitRule}
use Rattle.branch_search.specs.Purchases.{certificate_of}
use Rattle.cash_table.specs.Reach.{IsInReach}
use Rattle.branch_search.specs.Search.{CostsNoLess, IsFound, IsFoundBy, IsNoDearerThanBackward, OfBackward}
use Rattle.search_tree.specs.Tree.{IsLeastGap, SomeNeeds, TreeContents}
use Rattle.search_tree.specs.declared.node.Closing.TheVariants as closing
use Rattle.search_tree.specs.declared.node.SearchNode.{SearchNode}

-- ---- what is found
point-more : (case : CaseContents) (cents gap : ℕ) (ranges : RangesContents) → is_closed_point case (Some (pos cents)) ranges ≡ true → is_closed_point case (Some (pos cents -ℤ pos gap)) ranges ≡ true
point-more case cents gap ranges is =
    both-more (is_single ranges) (is_excluded case.book (case.limit - 1) (low_ends ranges)) (costs_enough case.book (Some (pos cents)) (low_ends ranges)) (costs_enough case.book (Some (pos cents -ℤ pos gap)) (low_ends ranges))
    (λ enough. grind (arith, ints)) is
  where
    both-more : (single excluded enough more : Bool) → (enough ≡ true → more ≡ true) → (single && (excluded || enough)) ≡ true → (single && (excluded || more)) ≡ true
    both-more true true enough more up is = refl
    both-more true false enough more up is = up is
    both-more false excluded enough more up is = is

found-shows : (case : CaseContents) (rule : SplitRule) (cents gap : ℕ) (popped : ℤ) (tree : TreeContents) (nodes : List TreeNode) → IsClosedTree case (obeys case rule) (Some cents) popped tree nodes
    → IsLeastGap tree.nodes (length tree.nodes) cents gap → ShowsClaim case tree nodes (Some (pos cents -ℤ pos gap))
found-shows case rule cents gap popped tree nodes is least =
    closed_trees_show case rule (Some cents) popped tree nodes (Some (pos cents -ℤ pos gap)) is by-number (λ ranges point. point-more case cents gap ranges point)
  where
    by-number : (number : ℕ) → (node_of tree.nodes number).closing ≡ closing.Borne → bears_out (node_of tree.nodes number).priced.bound (Some (pos cents -ℤ pos gap)) ≡ true
    by-number number borne = elim (cases_lt number (length tree.nodes)) [
      | inl inside ↦ least.borne number inside borne
      | inr past ↦ absurd (let clash : closing.Open ≡ closing.Borne = sym (ap (λ (n : SearchNode). n.closing) (get_or_past tree.nodes number no_node past)) ∙ borne in cc)
    ]

pub found-closed : (case : CaseContents) (rule : SplitRule) (plan : List ℕ) (cents gap : ℕ) (popped : ℤ) (tree : TreeContents) (nodes : List TreeNode) → IsClosedTree case (obeys case rule) (Some cents) popped tree nodes → case.allowance ≤ AMOUNT_LIMIT
    → IsBought case.limit case.book plan cents → length tree.pool.states ≤ 10_000 → IsLeastGap tree.nodes (length tree.nodes) cents gap → IsFound case plan nodes gap
found-closed case rule plan cents gap popped tree nodes is small bought few least = record {
  permitted = bought.permitted;
  meets = bought.meets;
  within = bought.within;
  packable = record {
    portfolio = (plan-buys_well case.book plan is.limits bought.permitted, omega (arith, small, allowed));
    few = omega (arith, few, shows.count);
    nodes_are = shows.well.limited;
    tree = shows.well.trees;
  };
  unopposed = record {
    portfolio = record {
      plan = plan;
      made = record { made = record { bought = plan-bought case.book plan bought.permitted; permitted = bought.permitted }; covered = bought.meets };
      within = bought.within;
    };
    tree = record { proper = shows.well.proper; closed = subst (λ (claim : Claim). All (λ p. is_weak case claim p ≡ false) (placed_nodes case.book nodes)) (sym (claims gap)) shows.closed };
    allowed = allowed;
  };
  least = λ less below sound. too-little less below (subst (λ (claim : Claim). All (λ p. is_weak case claim p ≡ false) (placed_nodes case.book nodes)) (claims less) sound.closed) least.least;
}
  where
    allowed : gap ≤ case.allowance
    allowed = gap-allowed case (obeys case rule) cents gap popped tree is.one is.ended is.kept least.least

    claims : (other : ℕ) → claim_of case.book (certificate_of plan nodes other) ≡ Some (pos cents -ℤ pos other)
    claims other = ap (λ (p : List ℕ). Some (pos (cost case.book p) -ℤ pos other)) (plan-again case.book plan bought.permitted) ∙ ap (λ (c : ℕ). Some (pos c -ℤ pos other)) (sym bought.priced)

    shows : ShowsClaim case tree nodes (Some (pos cents -ℤ pos gap))
    shows = found-shows case rule cents gap popped tree nodes is least

    too-little : (less : ℕ) → less < gap → All (λ p. is_weak case (Some (pos cents -ℤ pos less)) p ≡ false) (placed_nodes case.book nodes) → (gap ≡ 0) ⊎ SomeNeeds tree.nodes (length tree.nodes) cents gap → ⊥
    too-little less below sound (inl none) = omega (arith, below, none)
    too-little less below sound (inr some) =
        let shape : Tree = is.written.1.0 in
        let made : IsWritten case tree shape nodes = written case tree is.written.0 nodes shape is.one is.whole is.written.1.1 is.written.1.2 is.written.2 in
        let own = borne-node case (obeys case rule) (Some cents) popped tree some.number is.one is.ended is.kept (omega (arith, some.there, is.kept.grown.same)) some.needs.borne in
        absurd (omega (arith, below, some.needs.needed less (node-bears case (Some (pos cents -ℤ pos less)) tree shape nodes some.number made own.own some.needs.borne sound)))

pub found-by : (case : CaseContents) (rule : SplitRule) (plan : List ℕ) (cents gap : ℕ) (popped : ℤ) (tree : TreeContents) (nodes : List TreeNode) → IsClosedTree case (obeys case rule) (Some cents) popped tree nodes → IsInReach case.book
    → IsBought case.limit case.book plan cents → length tree.pool.states ≤ case.budget → IsLeastGap tree.nodes (length tree.nodes) cents gap → IsNoDearerThanBackward case.limit case.book (Some cents) → IsFoundBy case plan nodes
found-by case rule plan cents gap popped tree nodes is reach bought few least no_dearer = record {
  in_reach = reach;
  few = omega (arith, few, shows.count);
  raised = shows.well.raised;
  no_dearer = subst (λ (c : ℕ). OfBackward (CostsNoLess case.limit case.book c) case.book) bought.priced no_dearer;
}
  where
    shows : ShowsClaim case tree nodes (Some (pos cents -ℤ pos gap))
    shows = found-shows case rule cents gap popped tree nodes is least
