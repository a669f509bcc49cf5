-- A tree as the nodes of a certificate, with their ranges.
use Rattle.std.proofs.Common.{◌≡◌, ◌∙◌, ℕ, suc, List, [], ◌∷◌, ◌++◌, map, refl, sym, ap, subst, append_assoc, Bool, true, false, if◌then◌else◌}
use Rattle.std.specs.List.{All}
use Rattle.std.proofs.lemmas.List.{append-nil, map-append}
use Rattle.std.proofs.lemmas.List.Elements.{All-append, All-cons, All-head, All-nil, All-tail}
use Rattle.node_ranges.specs.Ranges.{RangesContents, narrowed}
use Rattle.node_ranges.specs.Claims.{placed}
use Rattle.proof_tree.specs.Tree.{AreTrees}
use Rattle.proof_tree.specs.declared.tree.TreeNode.{TreeNode}
use Rattle.proof_tree.specs.declared.tree.TreeNode.TheVariants as node
use Rattle.proof_tree.specs.declared.tree.Part.TheVariants as part
use Rattle.node_pool.specs.Pool.{state_at}
use Rattle.node_pool.specs.Tree.{IsTreeOf, Leaf, Split, Tree, preorder}
use Rattle.node_pool.specs.Way.{IsStep, IsWay, Step, ranges_at}
use Rattle.node_pool.specs.declared.node.NodeId.{NodeId}
use Rattle.node_pool.specs.declared.node.State.{State}
use Rattle.node_pool.specs.declared.node.State.TheVariants as state
use Rattle.offer_book.specs.Book.{BookContents}
use Rattle.search_tree.specs.Tree.{link_node}

-- a node that ends a branch
abbrev pub IsEndNode : TreeNode → Type 0
IsEndNode (node.Split part at) = ⊥
IsEndNode node.Point = Unit {0}
IsEndNode (node.Closed leaf) = Unit {0}

-- the nodes of a tree, where each leaf stands for a node
abbrev pub tree_nodes : (ℕ → TreeNode) → Tree → List TreeNode
tree_nodes f (Leaf number) = f number ∷ []
tree_nodes f (Split line at left right) = node.Split (part.Line line) at ∷ (tree_nodes f left ++ tree_nodes f right)

pub tree-nodes : (f : ℕ → TreeNode) (tree : Tree) → map (link_node f) (preorder tree) ≡ tree_nodes f tree
tree-nodes f (Leaf number) = refl
tree-nodes f (Split line at left right) =
    ap (λ (rest : List TreeNode). node.Split (part.Line line) at ∷ rest)
    (map-append (link_node f) (preorder left) (preorder right) ∙ (λ i. tree-nodes f left i ++ tree-nodes f right i))

-- this holds of each node of a tree, with its ranges
abbrev pub AllAt : BookContents → (TreeNode × RangesContents → Type 0) → (ℕ → TreeNode) → Tree → RangesContents → Type 0
AllAt book P f (Leaf number) ranges = P (f number, ranges)
AllAt book P f (Split line at left right) ranges =
    P (node.Split (part.Line line) at, ranges) × AllAt book P f left (narrowed book ranges (part.Line line) at false) × AllAt book P f right (narrowed book ranges (part.Line line) at true)

placed-end : (book : BookContents) (ranges : RangesContents) (waiting : List RangesContents) (next : TreeNode) (rest : List TreeNode) → IsEndNode next
    → placed book (ranges ∷ waiting) (next ∷ rest) ≡ (next, ranges) ∷ placed book waiting rest
placed-end book ranges waiting (node.Split part at) rest ends = absurd ends
placed-end book ranges waiting node.Point rest ends = refl
placed-end book ranges waiting (node.Closed leaf) rest ends = refl

placed-split : (book : BookContents) (f : ℕ → TreeNode) (line at : ℕ) (left right : Tree) (ranges : RangesContents) (waiting : List RangesContents) (rest : List TreeNode)
    → placed book (ranges ∷ waiting) (tree_nodes f (Split line at left right) ++ rest)
    ≡ (node.Split (part.Line line) at, ranges) ∷ placed book (narrowed book ranges (part.Line line) at false ∷ narrowed book ranges (part.Line line) at true ∷ waiting) (tree_nodes f left ++ (tree_nodes f right ++ rest))
placed-split book f line at left right ranges waiting rest =
    ap (λ (nodes : List TreeNode). (node.Split (part.Line line) at, ranges) ∷ placed book (narrowed book ranges (part.Line line) at false ∷ narrowed book ranges (part.Line line) at true ∷ waiting) nodes)
    (append_assoc (tree_nodes f left) (tree_nodes f right) rest)

-- from the tree to the list
pub at-placed : (book : BookContents) (P : TreeNode × RangesContents → Type 0) (f : ℕ → TreeNode) (tree : Tree) (ranges : RangesContents) (waiting : List RangesContents) (rest : List TreeNode)
    → ((number : ℕ) → IsEndNode (f number)) → AllAt book P f tree ranges → All P (placed book waiting rest) → All P (placed book (ranges ∷ waiting) (tree_nodes f tree ++ rest))
at-placed book P f (Leaf number) ranges waiting rest ends holds later =
    subst (All P) (sym (placed-end book ranges waiting (f number) rest (ends number))) (All-cons P (f number, ranges) (placed book waiting rest) holds later)
at-placed book P f (Split line at left right) ranges waiting rest ends holds later =
    let one = narrowed book ranges (part.Line line) at false in
    let other = narrowed book ranges (part.Line line) at true in
    subst (All P) (sym (placed-split book f line at left right ranges waiting rest))
    (All-cons P (node.Split (part.Line line) at, ranges) (placed book (one ∷ other ∷ waiting) (tree_nodes f left ++ (tree_nodes f right ++ rest))) holds.0
    (at-placed book P f left one (other ∷ waiting) (tree_nodes f right ++ rest) ends holds.1
    (at-placed book P f right other waiting rest ends holds.2 later)))

-- and back
record Both (book : BookContents) (P : TreeNode × RangesContents → Type 0) (f : ℕ → TreeNode) (tree : Tree) (ranges : RangesContents) (waiting : List RangesContents) (rest : List TreeNode) : Type 0 where
  here : AllAt book P f tree ranges
  later : All P (placed book waiting rest)

placed-both : (book : BookContents) (P : TreeNode × RangesContents → Type 0) (f : ℕ → TreeNode) (tree : Tree) (ranges : RangesContents) (waiting : List RangesContents) (rest : List TreeNode)
    → ((number : ℕ) → IsEndNode (f number)) → All P (placed book (ranges ∷ waiting) (tree_nodes f tree ++ rest)) → Both book P f tree ranges waiting rest
placed-both book P f (Leaf number) ranges waiting rest ends all =
    let parts = subst (All P) (placed-end book ranges waiting (f number) rest (ends number)) all in
    record { here = All-head P (f number, ranges) (placed book waiting rest) parts; later = All-tail P (f number, ranges) (placed book waiting rest) parts }
placed-both book P f (Split line at left right) ranges waiting rest ends all =
    let one = narrowed book ranges (part.Line line) at false in
    let other = narrowed book ranges (part.Line line) at true in
    let parts = subst (All P) (placed-split book f line at left right ranges waiting rest) all in
    let nodes = placed book (one ∷ other ∷ waiting) (tree_nodes f left ++ (tree_nodes f right ++ rest)) in
    let first = placed-both book P f left one (other ∷ waiting) (tree_nodes f right ++ rest) ends (All-tail P (node.Split (part.Line line) at, ranges) nodes parts) in
    let second = placed-both book P f right other waiting rest ends first.later in
    record { here = (All-head P (node.Split (part.Line line) at, ranges) nodes parts, first.here, second.here); later = second.later }

pub placed-at : (book : BookContents) (P : TreeNode × RangesContents → Type 0) (f : ℕ → TreeNode) (tree : Tree) (ranges : RangesContents)
    → ((number : ℕ) → IsEndNode (f number)) → All P (placed book (ranges ∷ []) (tree_nodes f tree)) → AllAt book P f tree ranges
placed-at book P f tree ranges ends all =
    (placed-both book P f tree ranges [] [] ends (subst (λ (nodes : List TreeNode). All P (placed book (ranges ∷ []) nodes)) (sym (append-nil (tree_nodes f tree))) all)).here

pub all-placed : (book : BookContents) (P : TreeNode × RangesContents → Type 0) (f : ℕ → TreeNode) (tree : Tree) (ranges : RangesContents)
    → ((number : ℕ) → IsEndNode (f number)) → AllAt book P f tree ranges → All P (placed book (ranges ∷ []) (tree_nodes f tree))
all-placed book P f tree ranges ends holds =
    subst (λ (nodes : List TreeNode). All P (placed book (ranges ∷ []) nodes)) (append-nil (tree_nodes f tree)) (at-placed book P f tree ranges [] [] ends holds (All-nil P))

-- ---- one tree
pub are-trees : (f : ℕ → TreeNode) (tree : Tree) (others : ℕ) (rest : List TreeNode) → ((number : ℕ) → IsEndNode (f number)) → AreTrees others rest → AreTrees (suc others) (tree_nodes f tree ++ rest)
are-trees f (Leaf number) others rest ends are = by (f number) (ends number)
  where
    by : (next : TreeNode) → IsEndNode next → AreTrees (suc others) (next ∷ rest)
    by (node.Split part at) none = absurd none
    by node.Point is = are
    by (node.Closed leaf) is = are
are-trees f (Split line at left right) others rest ends are =
    subst (AreTrees (suc (suc others))) (sym (append_assoc (tree_nodes f left) (tree_nodes f right) rest))
    (are-trees f left (suc others) (tree_nodes f right ++ rest) ends (are-trees f right others rest ends are))

-- what holds of each node, whatever its ranges
pub all-nodes : (book : BookContents) (Q : TreeNode → Type 0) (f : ℕ → TreeNode) (tree : Tree) (ranges : RangesContents) → AllAt book (λ p. Q p.0) f tree ranges → All Q (tree_nodes f tree)
all-nodes book Q f (Leaf number) ranges holds = All-cons Q (f number) [] holds (All-nil Q)
all-nodes book Q f (Split line at left right) ranges holds =
    All-cons Q (node.Split (part.Line line) at) (tree_nodes f left ++ tree_nodes f right) holds.0
    (All-append Q (tree_nodes f left) (tree_nodes f right)
    (all-nodes book Q f left (narrowed book ranges (part.Line line) at false) holds.1) (all-nodes book Q f right (narrowed book ranges (part.Line line) at true) holds.2))

-- ---- from the nodes of a pool
-- this holds of a node with these ranges, by its state
abbrev pub HoldsBy : (TreeNode × RangesContents → Type 0) → (ℕ → TreeNode) → RangesContents → State → Type 0
HoldsBy P f ranges (state.Split line at left right) = P (node.Split (part.Line line) at, ranges)
HoldsBy P f ranges (state.Closed leaf) = P (f leaf, ranges)
HoldsBy P f ranges other = Unit {0}

pub left-way : (states : List State) (number line at : ℕ) (left right : NodeId) (way : List Step) → state_at states number ≡ state.Split line at left right → IsWay states number way
    → IsWay states left.0 (record { line = line; at = at; right = false } ∷ way)
left-way states number line at left right way is way_is = (number, record { left = left; right = right; split = is; side = refl }, way_is)

pub right-way : (states : List State) (number line at : ℕ) (left right : NodeId) (way : List Step) → state_at states number ≡ state.Split line at left right → IsWay states number way
    → IsWay states right.0 (record { line = line; at = at; right = true } ∷ way)
right-way states number line at left right way is way_is = (number, record { left = left; right = right; split = is; side = refl }, way_is)

pub from-nodes : (book : BookContents) (P : TreeNode × RangesContents → Type 0) (f : ℕ → TreeNode) (states : List State) (tree : Tree) (number : ℕ) (way : List Step)
    → ((child : ℕ) (up : List Step) → IsWay states child up → HoldsBy P f (ranges_at book up) (state_at states child))
    → IsTreeOf states number tree → IsWay states number way → AllAt book P f tree (ranges_at book way)
from-nodes book P f states (Leaf leaf) number way holds is way_is = subst (HoldsBy P f (ranges_at book way)) is (holds number way way_is)
from-nodes book P f states (Split line at left right) number way holds is way_is = (
  subst (HoldsBy P f (ranges_at book way)) is.2 (holds number way way_is),
  from-nodes book P f states left is.0.0 (record { line = line; at = at; right = false } ∷ way) holds is.3 (left-way states number line at is.0 is.1 way is.2 way_is),
  from-nodes book P f states right is.1.0 (record { line = line; at = at; right = true } ∷ way) holds is.4 (right-way states number line at is.0 is.1 way is.2 way_is),
)

-- the part of a tree below a node
pub record Below (book : BookContents) (P : TreeNode × RangesContents → Type 0) (f : ℕ → TreeNode) (states : List State) (number : ℕ) (ranges : RangesContents) : Type 0 where
  pub tree : Tree
  pub is : IsTreeOf states number tree
  pub holds : AllAt book P f tree ranges

-- a step of a split tree
step-down : (book : BookContents) (P : TreeNode × RangesContents → Type 0) (f : ℕ → TreeNode) (states : List State) (child parent : ℕ) (step : Step) (ranges : RangesContents) → IsStep states child parent step
    → (tree : Tree) → IsTreeOf states parent tree → AllAt book P f tree ranges → Below book P f states child (narrowed book ranges (part.Line step.line) step.at step.right)
step-down book P f states child parent step ranges is (Leaf leaf) tree holds =
    let clash : state.Closed leaf ≡ state.Split step.line step.at is.left is.right = sym tree ∙ is.split in absurd (cc)
step-down book P f states child parent step ranges is (Split line at left right) tree holds = by step.right refl
  where
    same : state.Split line at tree.0 tree.1 ≡ state.Split step.line step.at is.left is.right
    same = sym tree.2 ∙ is.split

    line_is : line ≡ step.line
    line_is = cc

    at_is : at ≡ step.at
    at_is = cc

    left_is : tree.0 ≡ is.left
    left_is = cc

    right_is : tree.1 ≡ is.right
    right_is = cc

    by : (b : Bool) → step.right ≡ b → Below book P f states child (narrowed book ranges (part.Line step.line) step.at step.right)
    by false e =
        let child_is : tree.0.0 ≡ child = ap (λ (n : NodeId). n.0) left_is ∙ sym (ap (λ (b : Bool). side b) e) ∙ sym is.side in
        record {
          tree = left;
          is = subst (λ (n : ℕ). IsTreeOf states n left) child_is tree.3;
          holds = subst (λ (r : RangesContents). AllAt book P f left r) (λ i. narrowed book ranges (part.Line (line_is i)) (at_is i) (sym e i)) holds.1;
        }
      where
        side : Bool → ℕ
        side b = if b then is.right.0 else is.left.0
    by true e =
        let child_is : tree.1.0 ≡ child = ap (λ (n : NodeId). n.0) right_is ∙ sym (ap (λ (b : Bool). side b) e) ∙ sym is.side in
        record {
          tree = right;
          is = subst (λ (n : ℕ). IsTreeOf states n right) child_is tree.4;
          holds = subst (λ (r : RangesContents). AllAt book P f right r) (λ i. narrowed book ranges (part.Line (line_is i)) (at_is i) (sym e i)) holds.2;
        }
      where
        side : Bool → ℕ
        side b = if b then is.right.0 else is.left.0

pub to-nodes : (book : BookContents) (P : TreeNode × RangesContents → Type 0) (f : ℕ → TreeNode) (states : List State) (tree : Tree) (child : ℕ) (way : List Step)
    → IsTreeOf states 0 tree → AllAt book P f tree (ranges_at book []) → IsWay states child way → Below book P f states child (ranges_at book way)
to-nodes book P f states tree child [] is holds way =
    record { tree = tree; is = subst (λ (n : ℕ). IsTreeOf states n tree) (sym way) is; holds = holds }
to-nodes book P f states tree child (step ∷ above) is holds way =
    let up = to-nodes book P f states tree way.0 above is holds way.2 in
    step-down book P f states child way.0 step (ranges_at book above) way.1 up.tree up.is up.holds

pub leaf-holds : (book : BookContents) (P : TreeNode × RangesContents → Type 0) (f : ℕ → TreeNode) (states : List State) (number leaf : ℕ) (ranges : RangesContents) → Below book P f states number ranges
    → state_at states number ≡ state.Closed leaf → P (f leaf, ranges)
leaf-holds book P f states number leaf ranges below closed = by below.tree below.is below.holds
  where
    by : (tree : Tree) → IsTreeOf states number tree → AllAt book P f tree ranges → P (f leaf, ranges)
    by (Leaf other) is holds =
        let same : state.Closed other ≡ state.Closed leaf = sym is ∙ closed in
        let one : other ≡ leaf = cc in
        subst (λ (n : ℕ). P (f n, ranges)) one holds
    by (Split line at left right) is holds =
        let clash : state.Split line at is.0 is.1 ≡ state.Closed leaf = sym is.2 ∙ closed in absurd (cc)
