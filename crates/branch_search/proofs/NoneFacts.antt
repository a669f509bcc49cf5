-- A tree that shows that there is no rival, and the halving tree of plain cases.
use Rattle.std.proofs.Common.{◌≡◌, ◌∙◌, inl, inr, ℕ, ◌-◌, ◌*◌, ◌≤◌, ℤ, pos, ◌-ℤ◌, ◌*ℤ◌, ◌<ℤ◌, Bool, true, false, ◌||◌, if◌then◌else◌, List, [], ◌∷◌, length, replicate, refl, sym, ap, subst, arith, Some, None, Result, Ok, Err}
use Rattle.std.specs.Prelude.{IfErr, unwrap_or}
use Rattle.std.specs.List.{All}
use Rattle.std.proofs.lemmas.Bool.{cases_lt}
use Rattle.std.proofs.lemmas.List.{get_or_past}
use Rattle.std.proofs.lemmas.Int.{ints}
use Rattle.backward_build.specs.PlainCase.{plain_gap}
use Rattle.backward_build.specs.PriceCurve.{leaf_of_prices}
use Rattle.case_file.specs.Case.{CaseContents}
use Rattle.cash_table.proofs.PointFacts.{beyond_no_rival}
use Rattle.cash_table.specs.Points.{is_within_limit}
use Rattle.cash_table.specs.Reach.{IsInReach}
use Rattle.dual_bound.specs.LeafBound.{bound_of}
use Rattle.node_ranges.specs.Ranges.{RangesContents, is_single, root_of}
use Rattle.node_ranges.proofs.CostFacts.{cost-bears}
use Rattle.node_ranges.specs.Claims.{Claim, bears_out, bears_out_by, least_cost, placed_nodes}
use Rattle.proof_tree.specs.Tree.{AreTrees}
use Rattle.proof_tree.specs.declared.prices.TheConstants.{PRICE_SCALE}
use Rattle.proof_tree.specs.declared.tree.Leaf.{Leaf}
use Rattle.proof_tree.specs.declared.tree.TreeNode.{TreeNode}
use Rattle.escrow_units.specs.declared.limits.TheConstants.{GREATEST_YIELD}
use Rattle.halving_tree.specs.Base.{base_leaf}
use Rattle.halving_tree.specs.Halving.{End, IsUpperPart, Split as Halved, Splits, claim_within, is_borne_out, is_end, is_unreached, node_count}
use Rattle.node_pool.specs.Tree.{Tree}
use Rattle.offer_book.specs.Book.{IsBook}
use Rattle.offer_book.specs.Portfolio.{cost}
use Rattle.offer_book.specs.declared.coefficients.TheConstants.{COEFFICIENT_SCALE}
use Rattle.plain_case.proofs.GapFacts.{plain_gap_holds}
use Rattle.search_tree.proofs.EndFacts.{IsWritten, all-at, ends-end, ends_of, written}
use Rattle.search_tree.proofs.LawFacts.{closed_trees_show}
use Rattle.search_tree.specs.Laws.{IsClosedTree, ShowsClaim}
use Rattle.search_tree.proofs.ClosedFacts.{ClosedFor, borne-node, closed-tree}
use Rattle.search_tree.proofs.Shape.{all-placed}
use Rattle.search_tree.specs.Growing.{IsClosedBy, no_node, node_of, obeys}
use Rattle.halving_tree.specs.declared.rule.SplitRule.{SplitRule}
use Rattle.branch_search.specs.Plain.{IsPlainWithin, PlainAreSettled}
use Rattle.branch_search.specs.Search.{EndsOf, IsNoDearerThanBackward, IsNoneFound}
use Rattle.branch_search.specs.declared.found.Found.{Found}
use Rattle.branch_search.specs.declared.found.SearchEnd.{SearchEnd}
use Rattle.search_tree.specs.Shows.{IsNoPlan}
use Rattle.search_tree.specs.Tree.{TreeContents, end_by, end_node}
use Rattle.branch_search.specs.declared.found.SearchEnd.TheVariants as ended
use Rattle.search_tree.specs.declared.node.Closing.{Closing}
use Rattle.search_tree.specs.declared.node.Closing.TheVariants as closing
use Rattle.search_tree.specs.declared.node.SearchNode.{SearchNode}

-- ---- without a best plan
no-plan : (case : CaseContents) (ranges : RangesContents) (own : SearchNode) → ClosedFor case None ranges own → IsNoPlan case (end_node case.book.needs own, ranges)
no-plan case ranges own closed = by own.closing closed
  where
    by : (how : Closing) → IsClosedBy case None ranges own.priced.bound how → IsNoPlan case (end_by case.book.needs own.priced.leaf how, ranges)
    by closing.Open is = tt
    by closing.Borne is = tt
    by (closing.Unreached day) is = tt
    by (closing.Infeasible leaf) is = tt
    by closing.Point is = is.lost refl

pub none-is : (case : CaseContents) (rule : SplitRule) (popped : ℤ) (tree : TreeContents) (nodes : List TreeNode) → IsClosedTree case (obeys case rule) None popped tree nodes → IsInReach case.book → length tree.pool.states ≤ 10_000
    → length tree.pool.states ≤ case.budget → IsNoDearerThanBackward case.limit case.book None → IsNoneFound case nodes
none-is case rule popped tree nodes is reach small few beyond = record {
  in_reach = reach;
  packable = record { portfolio = refl; few = omega (arith, small, shows.count); nodes_are = shows.well.limited; tree = shows.well.trees };
  unopposed = record { portfolio = tt; tree = record { proper = shows.well.proper; closed = shows.closed }; allowed = tt };
  few = omega (arith, few, shows.count);
  beyond = beyond;
  points = subst (λ (ns : List TreeNode). All (IsNoPlan case) (placed_nodes case.book ns)) (sym made.nodes_are)
      (all-placed case.book (IsNoPlan case) (ends_of case tree) shape (root_of case.book) (ends-end case tree)
      (all-at case (obeys case rule) popped (ClosedFor case None) (IsNoPlan case) tree shape (closed-tree case (obeys case rule) None tree popped is.one is.whole is.ended is.kept) made.shape_is (λ number ranges line at priced split tight. tt)
      (λ number ranges priced closed tight. no-plan case ranges (node_of tree.nodes number) closed) is.limits));
}
  where
    shape : Tree
    shape = is.written.1.0

    made : IsWritten case tree shape nodes
    made = written case tree is.written.0 nodes shape is.one is.whole is.written.1.1 is.written.1.2 is.written.2

    none-borne : (number : ℕ) → (node_of tree.nodes number).closing ≡ closing.Borne → ⊥
    none-borne number borne = elim (cases_lt number (length tree.nodes)) [
      | inl inside ↦ let own = borne-node case (obeys case rule) None popped tree number is.one is.ended is.kept (omega (arith, inside, is.kept.grown.same)) borne in
          let clash : false ≡ true = own.borne in cc
      | inr past ↦ let clash : closing.Open ≡ closing.Borne = sym (ap (λ (n : SearchNode). n.closing) (get_or_past tree.nodes number no_node past)) ∙ borne in cc
    ]

    shows : ShowsClaim case tree nodes None
    shows = closed_trees_show case rule None popped tree nodes None is
        (λ number borne. absurd (none-borne number borne))
        (λ ranges point. point)

-- ---- plain cases
bears-more : (bound : ℤ) (cost gap allowance : ℕ) → gap ≤ allowance → (pos (COEFFICIENT_SCALE * PRICE_SCALE) *ℤ (pos cost -ℤ pos gap -ℤ pos 1)) <ℤ bound → bears_out_by PRICE_SCALE bound (Some (pos cost -ℤ pos allowance)) ≡ true
bears-more bound cost gap allowance le above = grind (arith, ints)

plain-within : (case : CaseContents) → IsBook case.book → 1 ≤ case.limit → case.limit ≤ GREATEST_YIELD → (p : IsPlainWithin case) → is_within_limit case.limit case.book p.plain.plan ≡ true
plain-within case book from to p = by (is_within_limit case.limit case.book p.plain.plan) refl
  where
    by : (b : Bool) → is_within_limit case.limit case.book p.plain.plan ≡ b → is_within_limit case.limit case.book p.plain.plan ≡ true
    by true is = is
    by false beyond = absurd (beyond_no_rival case.limit case.book p.plain.plan book from to beyond p.plain.rival)

-- at the root the base leaf bears the backward plan out
plain-borne : (case : CaseContents) → IsBook case.book → 1 ≤ case.limit → case.limit ≤ GREATEST_YIELD → IsPlainWithin case → is_borne_out case (root_of case.book) ≡ true
plain-borne case book from to p =
    ap (λ (claim : Claim). bears_out (least_cost PRICE_SCALE base) claim) (ap (claim_within case) p.plain.built ∙ ap (λ (b : Bool). claim-if b) (plain-within case book from to p))
    ∙ cost-bears PRICE_SCALE base (claim-if true) (omega arith)
    ∙ bears-more base (cost case.book p.plain.plan) (plain_gap case.book) case.allowance p.allowed
    (subst (λ (leaf : Leaf). (pos (COEFFICIENT_SCALE * PRICE_SCALE) *ℤ (pos (cost case.book p.plain.plan) -ℤ pos (plain_gap case.book) -ℤ pos 1)) <ℤ bound_of (case.limit - 1) case.book (root_of case.book) leaf)
    base-is (plain_gap_holds case.limit case.book book p.plain))
  where
    base : ℤ
    base = bound_of (case.limit - 1) case.book (root_of case.book) (base_leaf case.book)

    base-is : leaf_of_prices p.plain.prices ≡ base_leaf case.book
    base-is = sym (ap (λ found. leaf_of_prices (unwrap_or found (replicate (length case.book.needs) 0))) p.plain.curve)

    claim-if : Bool → Claim
    claim-if b = if b then Some (pos (cost case.book p.plain.plan) -ℤ pos case.allowance) else None

-- so its halving tree is its root alone
plain-alone : (case : CaseContents) → IsBook case.book → 1 ≤ case.limit → case.limit ≤ GREATEST_YIELD → IsPlainWithin case → (part : Splits) → IsUpperPart case (root_of case.book) part → node_count part ≡ 1
plain-alone case book from to p End upper = refl
plain-alone case book from to p (Halved line at left right) upper = absurd (
    let borne = plain-borne case book from to p in
    let «end» : is_end case (root_of case.book) ≡ true = ended (is_single (root_of case.book)) (is_borne_out case (root_of case.book)) (is_unreached case (root_of case.book)) borne in
    let clash : true ≡ false = sym «end» ∙ upper.0 in cc)
  where
    ended : (a b c : Bool) → b ≡ true → (a || (b || c)) ≡ true
    ended true b c is = refl
    ended false b c is = ap (λ (d : Bool). d || c) is

pub plain_settled : PlainAreSettled
plain_settled case book from to p (ended.Short day) ends = (
    let short = ends.1 p.plain.plan p.plain.rival.permitted in
    absurd (omega (arith, short, p.plain.rival.covered day)))
plain_settled case book from to p (ended.NoneWithinYield nodes) ends = absurd (
    let beyond = (ends.beyond p.plain.plan p.plain.built).of_built in
    let clash : true ≡ false = sym (plain-within case book from to p) ∙ beyond in cc)
plain_settled case book from to p (ended.BudgetSpent spent) ends = absurd (
    omega (arith, ends.larger.more, plain-alone case book from to p ends.larger.part ends.larger.upper, ends.shown.few, some spent.tree ends.shown.trees))
  where
    some : (nodes : List TreeNode) → AreTrees 1 nodes → 1 ≤ length nodes
    some [] are = absurd are
    some (next ∷ nodes) are = omega arith
plain_settled case book from to p ended.NoMemory ends = refl

-- so a search of such a case ends for no other cause
pub plain-ended : (case : CaseContents) (result : Result Found SearchEnd) → IsBook case.book → 1 ≤ case.limit → case.limit ≤ GREATEST_YIELD → IfErr result (EndsOf case) → IsPlainWithin case → IfErr result (λ e. e ≡ ended.NoMemory)
plain-ended case (Ok found) book from to ends plain = tt
plain-ended case (Err «end») book from to ends plain = plain_settled case book from to plain «end» ends
