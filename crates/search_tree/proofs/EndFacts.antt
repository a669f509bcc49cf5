-- What a grown tree comes to, as the nodes of a certificate.
use Rattle.std.proofs.Common.{◌≡◌, ◌∙◌, inl, inr, ℕ, ◌-◌, ◌^◌, ◌<◌, ◌≤◌, ℤ, pos, ◌<ℤ◌, Bool, true, false, not, if◌then◌else◌, List, [], ◌∷◌, length, map, get_or, refl, sym, ap, subst, arith, ◌==◌}
use Rattle.std.specs.Prelude.{int_lt}
use Rattle.std.specs.List.{All}
use Rattle.std.proofs.lemmas.Bool.{cases_lt}
use Rattle.std.proofs.lemmas.Bool.Decides.{nat_tests}
use Rattle.std.proofs.lemmas.Int.{ints}
use Rattle.std.proofs.lemmas.List.{append-nil, get_or_past, length-map}
use Rattle.std.proofs.Math.Nat.{mul-le-mul_left}
use Rattle.case_file.specs.Case.{CaseContents}
use Rattle.cash_table.proofs.CostFacts.{permitted_few}
use Rattle.cash_table.proofs.PaymentFacts.{count_lines}
use Rattle.dual_bound.specs.Closing.{is_closed_leaf, is_closed_point, is_weak}
use Rattle.node_ranges.proofs.RangeFacts.{splits-at, tight-at, tight-length}
use Rattle.node_ranges.proofs.RangeLaws.{root_is_tight, sides_are_tight}
use Rattle.dual_bound.proofs.Soundness.{all-lines}
use Rattle.dual_bound.specs.LeafBound.{bound_of}
use Rattle.node_ranges.specs.Ranges.{AreTight, RangesContents, is_proper, root_of}
use Rattle.node_ranges.proofs.CostFacts.{cost-bears}
use Rattle.node_ranges.specs.Claims.{Claim, IsProper, bears_out, bears_out_by, is_bad_split, least_cost, placed_nodes}
use Rattle.proof_tree.specs.Tree.{AreTrees, IsNode}
use Rattle.proof_tree.specs.declared.interval.Interval.{Interval}
use Rattle.proof_tree.specs.declared.tree.Leaf.{Leaf}
use Rattle.proof_tree.specs.declared.tree.TreeNode.{TreeNode}
use Rattle.proof_tree.specs.declared.tree.TreeNode.TheVariants as node
use Rattle.proof_tree.specs.declared.tree.Part.TheVariants as part
use Rattle.halving_tree.proofs.Reach.{reach_is_leaf}
use Rattle.halving_tree.specs.Base.{reach_leaf}
use Rattle.node_pool.proofs.WayFacts.{ways-tight}
use Rattle.node_pool.specs.Pool.{IsOneTree, SplitsAreWhole, state_at}
use Rattle.node_pool.specs.Tree.{AreEnded, IsTreeOf, Tree, preorder}
use Rattle.node_pool.specs.Way.{AreProper, IsStep, IsWay, Step, ranges_at}
use Rattle.node_pool.specs.declared.node.Link.{Link}
use Rattle.node_pool.specs.declared.node.NodeId.{NodeId}
use Rattle.node_pool.specs.declared.node.State.{State}
use Rattle.node_pool.specs.declared.node.State.TheVariants as state
use Rattle.offer_book.specs.Book.{IsBook, IsLine}
use Rattle.offer_book.specs.CaseBook.{cash_line}
use Rattle.offer_book.specs.declared.line.Line.{Line}
use Rattle.search_tree.proofs.Count.{nodes-all}
use Rattle.search_tree.proofs.Shape.{AllAt, HoldsBy, IsEndNode, all-nodes, all-placed, are-trees, from-nodes, tree-nodes, tree_nodes}
use Rattle.search_tree.specs.Growing.{IsPriced, IsSplitNode, ShowsNone, node_of}
use Rattle.search_tree.specs.Shows.{IsRaised, IsWell}
use Rattle.search_tree.specs.Tree.{TreeContents, end_by, end_node, link_node}
use Rattle.search_tree.specs.declared.node.Closing.{Closing}
use Rattle.search_tree.specs.declared.node.Closing.TheVariants as closing
use Rattle.search_tree.specs.declared.node.SearchNode.{SearchNode}
use Rattle.offer_book.specs.declared.payment_days.PaymentDays.{PaymentDays}

-- ---- a tree of which each node is closed or split
-- what holds at a node, by its state
abbrev pub EndsAt : CaseContents → (RangesContents → ℕ → ℕ → Type 0) → ℤ → (RangesContents → SearchNode → Type 0) → ℕ → RangesContents → SearchNode → State → Type 0
EndsAt case Obeys popped Closes number ranges own (state.Split line at left right) = IsSplitNode case Obeys popped ranges own.priced line at
EndsAt case Obeys popped Closes number ranges own (state.Closed leaf) = (leaf ≡ number) × Closes ranges own
EndsAt case Obeys popped Closes number ranges own other = Unit {0}

pub record IsEndAt (case : CaseContents) (Obeys : RangesContents → ℕ → ℕ → Type 0) (popped : ℤ) (Closes : RangesContents → SearchNode → Type 0) (number : ℕ) (ranges : RangesContents) (own : SearchNode) (s : State) : Type 0 where
  pub priced : IsPriced case ranges own.priced
  pub ends : EndsAt case Obeys popped Closes number ranges own s

pub record IsEndTree (case : CaseContents) (Obeys : RangesContents → ℕ → ℕ → Type 0) (popped : ℤ) (Closes : RangesContents → SearchNode → Type 0) (tree : TreeContents) : Type 0 where
  pub one : IsOneTree tree.pool.states
  pub whole : SplitsAreWhole tree.pool.states
  pub ended : AreEnded tree.pool.states
  pub each : (number : ℕ) (way : List Step) → number < length tree.pool.states → IsWay tree.pool.states number way
      → IsEndAt case Obeys popped Closes number (ranges_at case.book way) (node_of tree.nodes number) (state_at tree.pool.states number)

-- the nodes that its leaves stand for
abbrev pub ends_of : CaseContents → TreeContents → ℕ → TreeNode
ends_of case tree number = end_node case.book.needs (node_of tree.nodes number)

end-ends : (case : CaseContents) (leaf : Leaf) (how : Closing) → IsEndNode (end_by case.book.needs leaf how)
end-ends case leaf closing.Open = tt
end-ends case leaf closing.Borne = tt
end-ends case leaf (closing.Unreached day) = tt
end-ends case leaf (closing.Infeasible own) = tt
end-ends case leaf closing.Point = tt

pub ends-end : (case : CaseContents) (tree : TreeContents) (number : ℕ) → IsEndNode (ends_of case tree number)
ends-end case tree number = end-ends case (node_of tree.nodes number).priced.leaf (node_of tree.nodes number).closing

-- what holds of each split, and of each node that is closed so, holds of the whole tree
holds-by : (case : CaseContents) (Obeys : RangesContents → ℕ → ℕ → Type 0) (popped : ℤ) (Closes : RangesContents → SearchNode → Type 0) (P : TreeNode × RangesContents → Type 0) (tree : TreeContents) (number : ℕ) (ranges : RangesContents) (s : State)
    → ((line at : ℕ) → IsPriced case ranges (node_of tree.nodes number).priced → IsSplitNode case Obeys popped ranges (node_of tree.nodes number).priced line at → P (node.Split (part.Line line) at, ranges))
    → (IsPriced case ranges (node_of tree.nodes number).priced → Closes ranges (node_of tree.nodes number) → P (ends_of case tree number, ranges))
    → IsEndAt case Obeys popped Closes number ranges (node_of tree.nodes number) s → HoldsBy P (ends_of case tree) ranges s
holds-by case Obeys popped Closes P tree number ranges (state.Waiting key) splits closes is = tt
holds-by case Obeys popped Closes P tree number ranges state.InHand splits closes is = tt
holds-by case Obeys popped Closes P tree number ranges (state.Closed leaf) splits closes is =
    subst (λ (k : ℕ). P (ends_of case tree k, ranges)) (sym is.ends.0) (closes is.priced is.ends.1)
holds-by case Obeys popped Closes P tree number ranges (state.Split line at left right) splits closes is = splits line at is.priced is.ends

-- a split is of a node that is there
pub split-there : (states : List State) (number line at : ℕ) (left right : NodeId) → state_at states number ≡ state.Split line at left right → number < length states
split-there states number line at left right split = elim (cases_lt number (length states)) [
  | inl below ↦ below
  | inr past ↦ absurd (let clash : state.InHand ≡ state.Split line at left right = sym (get_or_past states number state.InHand past) ∙ split in cc)
]

way-split : (case : CaseContents) (Obeys : RangesContents → ℕ → ℕ → Type 0) (popped : ℤ) (Closes : RangesContents → SearchNode → Type 0) (tree : TreeContents) → IsEndTree case Obeys popped Closes tree → (child parent : ℕ) (step : Step) (above : List Step)
    → (up : IsStep tree.pool.states child parent step) → IsWay tree.pool.states parent above → is_proper (ranges_at case.book above) (part.Line step.line) step.at ≡ true
way-split case Obeys popped Closes tree is child parent step above up way =
    let here = split-there tree.pool.states parent step.line step.at up.left up.right up.split in
    let split : IsEndAt case Obeys popped Closes parent (ranges_at case.book above) (node_of tree.nodes parent) (state.Split step.line step.at up.left up.right) =
    subst (IsEndAt case Obeys popped Closes parent (ranges_at case.book above) (node_of tree.nodes parent)) up.split (is.each parent above here way) in
    split.ends.proper

way-proper : (case : CaseContents) (Obeys : RangesContents → ℕ → ℕ → Type 0) (popped : ℤ) (Closes : RangesContents → SearchNode → Type 0) (tree : TreeContents) → IsEndTree case Obeys popped Closes tree → (number : ℕ) (way : List Step) → number < length tree.pool.states
    → IsWay tree.pool.states number way → AreProper case.book way
way-proper case Obeys popped Closes tree is number [] few way = tt
way-proper case Obeys popped Closes tree is number (step ∷ above) few way = (
  way-proper case Obeys popped Closes tree is way.0 above (split-there tree.pool.states way.0 step.line step.at way.1.left way.1.right way.1.split) way.2,
  way-split case Obeys popped Closes tree is number way.0 step above way.1 way.2,
)

pub all-at : (case : CaseContents) (Obeys : RangesContents → ℕ → ℕ → Type 0) (popped : ℤ) (Closes : RangesContents → SearchNode → Type 0) (P : TreeNode × RangesContents → Type 0) (tree : TreeContents) (shape : Tree)
    → IsEndTree case Obeys popped Closes tree → IsTreeOf tree.pool.states 0 shape
    → ((number : ℕ) (ranges : RangesContents) (line at : ℕ) → IsPriced case ranges (node_of tree.nodes number).priced → IsSplitNode case Obeys popped ranges (node_of tree.nodes number).priced line at → AreTight case.book ranges → P (node.Split (part.Line line) at, ranges))
    → ((number : ℕ) (ranges : RangesContents) → IsPriced case ranges (node_of tree.nodes number).priced → Closes ranges (node_of tree.nodes number) → AreTight case.book ranges → P (ends_of case tree number, ranges))
    → IsBook case.book → AllAt case.book P (ends_of case tree) shape (root_of case.book)
all-at case Obeys popped Closes P tree shape is shape_is splits closes limits =
    from-nodes case.book P (ends_of case tree) tree.pool.states shape 0 [] holds shape_is refl
  where
    holds : (child : ℕ) (up : List Step) → IsWay tree.pool.states child up → HoldsBy P (ends_of case tree) (ranges_at case.book up) (state_at tree.pool.states child)
    holds child up way = elim (cases_lt child (length tree.pool.states)) [
      | inl few ↦
          let tight = ways-tight sides_are_tight case.book (root_is_tight case.book limits) up (way-proper case Obeys popped Closes tree is child up few way) in
          holds-by case Obeys popped Closes P tree child (ranges_at case.book up) (state_at tree.pool.states child)
          (λ line at priced split. splits child (ranges_at case.book up) line at priced split tight)
          (λ priced closed. closes child (ranges_at case.book up) priced closed tight) (is.each child up few way)
      | inr past ↦ subst (HoldsBy P (ends_of case tree) (ranges_at case.book up)) (sym (get_or_past tree.pool.states child state.InHand past)) tt
    ]

-- ---- what holds of every such tree
-- its splits are proper
proper-node : (ranges : RangesContents) (next : TreeNode) → IsEndNode next → is_bad_split (next, ranges) ≡ false
proper-node ranges (node.Split part at) ends = absurd ends
proper-node ranges node.Point ends = refl
proper-node ranges (node.Closed leaf) ends = refl

lt-test : (a b : ℤ) → a <ℤ b → int_lt a b ≡ true
lt-test a b below = grind (arith, ints)

-- a leaf that weighs the cost is closed where the least cost that it shows bears the claim out
pub closed-by : (rho : ℕ) (bound : ℤ) (claim : Claim) (without_cost : Bool) → 1 ≤ rho
    → (if rho == 0 then without_cost else bears_out_by rho bound claim) ≡ bears_out (least_cost rho bound) claim
closed-by rho bound claim without_cost some =
    let weighs : (rho == 0) ≡ false = grind (arith, nat_tests) in
    ap (λ (b : Bool). if b then without_cost else bears_out_by rho bound claim) weighs ∙ sym (cost-bears rho bound claim some)

-- where a node is closed by a leaf that doesn't weigh the cost, that shows what it has to
abbrev pub HasShown : CaseContents → RangesContents → SearchNode → Type 0
HasShown case ranges own = (leaf : Leaf) → own.closing ≡ closing.Infeasible leaf → ShowsNone case ranges leaf

-- a closed node is weak or not as its closing says
pub weak-by : (case : CaseContents) (claim : Claim) (ranges : RangesContents) (own : SearchNode) → IsPriced case ranges own.priced
    → (own.closing ≡ closing.Open → ⊥) → (own.closing ≡ closing.Borne → bears_out own.priced.bound claim ≡ true)
    → ((day : ℤ) → own.closing ≡ closing.Unreached day → pos 0 <ℤ bound_of (case.limit - 1) case.book ranges (reach_leaf case.book.needs day))
    → HasShown case ranges own → (own.closing ≡ closing.Point → is_closed_point case claim ranges ≡ true) → is_weak case claim (end_node case.book.needs own, ranges) ≡ false
weak-by case claim ranges own priced opened borne unreached infeasible point = by own.closing refl
  where
    at : bears_out own.priced.bound claim ≡ true → not (is_closed_leaf case claim ranges own.priced.leaf) ≡ false
    at is =
        let bound : ℤ = bound_of (case.limit - 1) case.book ranges own.priced.leaf in
        ap not (closed-by own.priced.leaf.rho bound claim (int_lt (pos 0) bound) (omega (arith, priced.weighs)))
        ∙ ap (λ (b : ℤ). not (bears_out b claim)) (sym priced.bound) ∙ ap not is

    by : (how : Closing) → own.closing ≡ how → is_weak case claim (end_by case.book.needs own.priced.leaf how, ranges) ≡ false
    by closing.Open is = absurd (opened is)
    by closing.Borne is = at (borne is)
    by (closing.Unreached day) is = (
        let test = lt-test (pos 0) (bound_of (case.limit - 1) case.book ranges (reach_leaf case.book.needs day)) (unreached day is) in
        ap not test)
    by (closing.Infeasible leaf) is = (
        let shown = infeasible leaf is in
        let bound : ℤ = bound_of (case.limit - 1) case.book ranges leaf in
        ap (λ (w : ℕ). not (if w == 0 then int_lt (pos 0) bound else bears_out_by w bound claim)) shown.without_cost ∙ ap not (lt-test (pos 0) bound shown.above))
    by closing.Point is = ap not (point is)

-- leaves that weigh the cost are raised
raised-by : (case : CaseContents) (ranges : RangesContents) (own : SearchNode) → IsPriced case ranges own.priced → HasShown case ranges own → IsRaised case (end_node case.book.needs own, ranges)
raised-by case ranges own priced infeasible = by own.closing refl
  where
    by : (how : Closing) → own.closing ≡ how → IsRaised case (end_by case.book.needs own.priced.leaf how, ranges)
    by closing.Open is = λ some. priced.improved
    by closing.Borne is = λ some. priced.improved
    by (closing.Unreached day) is = λ some. absurd (omega (arith, some))
    by (closing.Infeasible leaf) is = λ some. absurd (omega (arith, some, (infeasible leaf is).without_cost))
    by closing.Point is = tt

-- nodes are within the limits of a certificate
node-by : (case : CaseContents) (ranges : RangesContents) (own : SearchNode) → IsBook case.book → IsPriced case ranges own.priced → HasShown case ranges own → IsNode (length case.book.needs) (end_node case.book.needs own)
node-by case ranges own limits priced infeasible = by own.closing refl
  where
    by : (how : Closing) → own.closing ≡ how → IsNode (length case.book.needs) (end_by case.book.needs own.priced.leaf how)
    by closing.Open is = priced.improved.well_formed
    by closing.Borne is = priced.improved.well_formed
    by (closing.Unreached day) is = reach_is_leaf case.book.needs day limits.needs.rising
    by (closing.Infeasible leaf) is = (infeasible leaf is).well_formed
    by closing.Point is = tt

pub most-small : (days : PaymentDays) (line : Line) → IsLine days line → line.most ≤ 10 ^ 13
most-small days line (inl cash) = omega (arith, cash.most)
most-small days line (inr security) = omega (arith, mul-le-mul_left line.most security.step_at_least, security.cap)

split-node-by : (case : CaseContents) (ranges : RangesContents) (line at : ℕ) → IsBook case.book → AreTight case.book ranges → is_proper ranges (part.Line line) at ≡ true → (line ≤ 65_535) × (at ≤ 10 ^ 13)
split-node-by case ranges line at limits tight proper =
    let none : Interval = record { low = 0; high = 0 } in
    let split = splits-at ranges.lines line at proper in
    let same = tight-length case.book.lines ranges.lines tight.lines in
    let there = split.there in
    let within : line < length case.book.lines = omega (arith, there, same) in
    let own : Line = get_or case.book.lines line (cash_line 0) in
    let high = permitted_few own (get_or ranges.lines line none).high (tight-at case.book.lines ranges.lines line (cash_line 0) none tight.lines there).high in
    let small = most-small case.book.days own (all-lines case.book.days case.book.lines limits.lines line (cash_line 0) within) in
    (omega (arith, within, count_lines case.book.days case.book.lines limits.lines), omega (arith, split.right none, high, small))

-- a tree as the nodes of a certificate
pub record IsWritten (case : CaseContents) (tree : TreeContents) (shape : Tree) (nodes : List TreeNode) : Type 0 where
  pub shape_is : IsTreeOf tree.pool.states 0 shape
  pub nodes_are : nodes ≡ tree_nodes (ends_of case tree) shape
  pub count : length nodes ≡ length tree.pool.states

pub written : (case : CaseContents) (tree : TreeContents) (links : List Link) (nodes : List TreeNode) (shape : Tree) → IsOneTree tree.pool.states → SplitsAreWhole tree.pool.states → IsTreeOf tree.pool.states 0 shape → links ≡ preorder shape
    → nodes ≡ map (link_node (ends_of case tree)) links → IsWritten case tree shape nodes
written case tree links nodes shape one whole shape_is links_are nodes_are = record {
  shape_is = shape_is;
  nodes_are = nodes_are ∙ ap (map (link_node (ends_of case tree))) links_are ∙ tree-nodes (ends_of case tree) shape;
  count = ap length nodes_are ∙ length-map links (link_node (ends_of case tree)) ∙ ap length links_are ∙ nodes-all tree.pool.states shape one whole shape_is;
}

pub well-written : (case : CaseContents) (Obeys : RangesContents → ℕ → ℕ → Type 0) (popped : ℤ) (Closes : RangesContents → SearchNode → Type 0) (tree : TreeContents) (shape : Tree) (nodes : List TreeNode) → IsBook case.book → IsEndTree case Obeys popped Closes tree
    → ((ranges : RangesContents) (own : SearchNode) → Closes ranges own → HasShown case ranges own) → IsWritten case tree shape nodes → IsWell case nodes
well-written case Obeys popped Closes tree shape nodes limits is shown made = record {
  proper = subst (λ (ns : List TreeNode). All IsProper (placed_nodes case.book ns)) (sym made.nodes_are)
      (all-placed case.book IsProper ends shape root (ends-end case tree)
      (all-at case Obeys popped Closes IsProper tree shape is made.shape_is (λ number ranges line at priced split tight. ap not split.proper) (λ number ranges priced closed tight. proper-node ranges (ends number) (ends-end case tree number)) limits));
  raised = subst (λ (ns : List TreeNode). All (IsRaised case) (placed_nodes case.book ns)) (sym made.nodes_are)
      (all-placed case.book (IsRaised case) ends shape root (ends-end case tree)
      (all-at case Obeys popped Closes (IsRaised case) tree shape is made.shape_is (λ number ranges line at priced split tight. tt) (λ number ranges priced closed tight. raised-by case ranges (node_of tree.nodes number) priced (shown ranges (node_of tree.nodes number) closed)) limits));
  limited = subst (All (IsNode (length case.book.needs))) (sym made.nodes_are)
      (all-nodes case.book (IsNode (length case.book.needs)) ends shape root
      (all-at case Obeys popped Closes (λ (p : TreeNode × RangesContents). IsNode (length case.book.needs) p.0) tree shape is made.shape_is
      (λ number ranges line at priced split tight. split-node-by case ranges line at limits tight split.proper)
      (λ number ranges priced closed tight. node-by case ranges (node_of tree.nodes number) limits priced (shown ranges (node_of tree.nodes number) closed)) limits));
  trees = subst (AreTrees 1) (sym made.nodes_are) (subst (AreTrees 1) (append-nil (tree_nodes ends shape)) (are-trees ends shape 0 [] (ends-end case tree) refl));
}
  where
    root : RangesContents
    root = root_of case.book

    ends : ℕ → TreeNode
    ends = ends_of case tree
