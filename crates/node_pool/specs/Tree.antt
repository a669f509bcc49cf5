-- The tree of a pool, in preorder. This is this project's own.
use Rattle.std.specs.Prelude.{◌≡◌, ℕ, ◌<◌, List, [], ◌∷◌, ◌++◌, length}
use Rattle.node_pool.specs.declared.node.Link.{Link}
use Rattle.node_pool.specs.declared.node.Link.TheVariants as link
use Rattle.node_pool.specs.declared.node.NodeId.{NodeId}
use Rattle.node_pool.specs.declared.node.State.{State}
use Rattle.node_pool.specs.declared.node.State.TheVariants as state
use Rattle.node_pool.specs.Pool.{state_at}

-- a leaf by its number, or a split of a line at a number of units, with its left and its right side
pub data Tree : Type 0 where
  Leaf : ℕ → Tree
  Split : ℕ → ℕ → Tree → Tree → Tree

-- its nodes in preorder, left first
abbrev pub preorder : Tree → List Link
preorder (Leaf number) = link.Leaf number ∷ []
preorder (Split line at left right) = link.Split line at ∷ (preorder left ++ preorder right)

-- the tree below a node: the node is closed, or split with these sides
abbrev pub IsTreeOf : List State → ℕ → Tree → Type 0
IsTreeOf states number (Leaf leaf) = state_at states number ≡ state.Closed leaf
IsTreeOf states number (Split line at left right) =
    (first : NodeId) × (second : NodeId) × (state_at states number ≡ state.Split line at first second) × IsTreeOf states first.0 left × IsTreeOf states second.0 right

-- a state in which a node stays
abbrev pub IsEnded : State → Type 0
IsEnded (state.Closed leaf) = Unit {0}
IsEnded (state.Split line at left right) = Unit {0}
IsEnded other = ⊥

-- no node waits, and none is in hand
abbrev pub AreEnded : List State → Type 0
AreEnded states = (number : ℕ) → number < length states → IsEnded (state_at states number)

-- links are the preorder of the tree below the root
abbrev pub IsPreorderOf : List State → List Link → Type 0
IsPreorderOf states links = (tree : Tree) × IsTreeOf states 0 tree × (links ≡ preorder tree)

-- a node of a tree in preorder
abbrev pub link_of : State → Link
link_of (state.Split line at left right) = link.Split line at
link_of (state.Closed leaf) = link.Leaf leaf
link_of other = link.Leaf 0

-- the sides that a split opens, the left one last
abbrev pub sides_of : State → List NodeId
sides_of (state.Split line at left right) = right ∷ left ∷ []
sides_of other = []
