-- The tree of a search as its parts: the pool of its nodes, and what is known at each. This is this project's own.
use Rattle.std.specs.Prelude.{◌≡◌, ◌⊎◌, ℕ, ◌<◌, ◌≤◌, true, pos, ◌-ℤ◌, List, [], ◌∷◌, ◌++◌, length, map, slice_set, Some}
use Rattle.node_ranges.specs.Claims.{bears_out}
use Rattle.proof_tree.specs.declared.tree.Leaf.{Leaf}
use Rattle.proof_tree.specs.declared.tree.TreeNode.{TreeNode}
use Rattle.proof_tree.specs.declared.tree.TreeNode.TheVariants as node
use Rattle.proof_tree.specs.declared.tree.Part.TheVariants as part
use Rattle.escrow_units.specs.declared.security.Flow.{Flow}
use Rattle.halving_tree.specs.Base.{reach_leaf}
use Rattle.node_pool.specs.Tree.{IsPreorderOf}
use Rattle.node_pool.specs.declared.node.Link.{Link}
use Rattle.node_pool.specs.declared.node.Link.TheVariants as link
use Rattle.node_pool.specs.Pool.{PoolContents, new_pool, pool_with, split_pool, state_at}
use Rattle.node_pool.specs.declared.node.State.{State}
use Rattle.node_pool.specs.declared.node.State.TheVariants as state
use Rattle.search_tree.specs.Growing.{node_of}
use Rattle.search_tree.specs.declared.node.Closing.{Closing}
use Rattle.search_tree.specs.declared.node.Closing.TheVariants as closing
use Rattle.search_tree.specs.declared.node.Priced.{Priced}
use Rattle.search_tree.specs.declared.node.SearchNode.{SearchNode}

pub record TreeContents : Type 0 where
  pub pool : PoolContents
  pub nodes : List SearchNode

-- a node that isn't closed
abbrev pub open_node : Priced → SearchNode
open_node priced = record { priced = priced; closing = closing.Open }

-- a tree whose root waits
abbrev pub new_tree : ℕ → Priced → TreeContents
new_tree capacity root = record { pool = new_pool capacity root.bound; nodes = open_node root ∷ [] }

-- a node of a tree is closed, by its own number
abbrev pub closed_tree : TreeContents → ℕ → Closing → TreeContents
closed_tree tree number how = record {
  pool = pool_with tree.pool number (state.Closed number);
  nodes = slice_set tree.nodes number (record (node_of tree.nodes number) { closing = how });
}

-- a node of a tree is split, and its two sides wait
abbrev pub split_tree : TreeContents → ℕ → ℕ → ℕ → Priced → Priced → TreeContents
split_tree tree number line at left right = record {
  pool = split_pool tree.pool number line at left.bound right.bound;
  nodes = tree.nodes ++ open_node left ∷ open_node right ∷ [];
}

-- a node of a tree waits, by its bound
abbrev pub waiting_tree : TreeContents → ℕ → TreeContents
waiting_tree tree number = record tree { pool = pool_with tree.pool number (state.Waiting (node_of tree.nodes number).priced.bound) }

abbrev pub end_by : List Flow → Leaf → Closing → TreeNode
end_by needs leaf closing.Open = node.Closed leaf
end_by needs leaf closing.Borne = node.Closed leaf
end_by needs leaf (closing.Unreached day) = node.Closed (reach_leaf needs day)
end_by needs leaf (closing.Infeasible own) = node.Closed own
end_by needs leaf closing.Point = node.Point

-- a closed node as it stands in a certificate: a point, or the leaf that closes it
abbrev pub end_node : List Flow → SearchNode → TreeNode
end_node needs own = end_by needs own.priced.leaf own.closing

-- a link of a tree in preorder as a node, where each leaf's number stands for one
abbrev pub link_node : (ℕ → TreeNode) → Link → TreeNode
link_node f (link.Split line at) = node.Split (part.Line line) at
link_node f (link.Leaf number) = f number

-- nodes are a tree's, in preorder
abbrev pub AreNodesOf : List Flow → TreeContents → List TreeNode → Type 0
AreNodesOf needs tree nodes = (links : List Link) × IsPreorderOf tree.pool.states links × (nodes ≡ map (link_node (λ number. end_node needs (node_of tree.nodes number))) links)

-- each closed node is closed by its own number
abbrev pub HaveOwnNumbers : List State → Type 0
HaveOwnNumbers states = (number leaf : ℕ) → state_at states number ≡ state.Closed leaf → leaf ≡ number

-- a leaf's number is below so many
abbrev pub IsInside : ℕ → Link → Type 0
IsInside count (link.Leaf number) = number < count
IsInside count (link.Split line at) = Unit {0}

-- where a node is closed by its own leaf, that bears out a cost with a gap
abbrev pub IsBorneBy : SearchNode → ℕ → ℕ → Type 0
IsBorneBy own cents gap = own.closing ≡ closing.Borne → bears_out own.priced.bound (Some (pos cents -ℤ pos gap)) ≡ true

-- a node is closed by its own leaf, which bears out the cost with no smaller gap
pub record IsNeededFor (own : SearchNode) (cents gap : ℕ) : Type 0 where
  pub borne : own.closing ≡ closing.Borne
  pub needed : (less : ℕ) → bears_out own.priced.bound (Some (pos cents -ℤ pos less)) ≡ true → gap ≤ less

-- one of the first so many nodes needs a gap
pub record SomeNeeds (nodes : List SearchNode) (count cents gap : ℕ) : Type 0 where
  pub number : ℕ
  pub there : number < count
  pub needs : IsNeededFor (node_of nodes number) cents gap

-- the least gap with which each of the first so many nodes that is closed by its own leaf bears out a cost
pub record IsLeastGap (nodes : List SearchNode) (count cents gap : ℕ) : Type 0 where
  pub borne : (number : ℕ) → number < count → IsBorneBy (node_of nodes number) cents gap
  pub least : (gap ≡ 0) ⊎ SomeNeeds nodes count cents gap

-- ---- the nodes that wait are closed
-- a node that waits is closed by its own leaf, and every other stays
abbrev pub IsDrainedNode : ℕ → State → SearchNode → State → SearchNode → Type 0
IsDrainedNode number (state.Waiting key) own s after = (s ≡ state.Closed number) × (after ≡ record own { closing = closing.Borne })
IsDrainedNode number other own s after = (s ≡ other) × (after ≡ own)

pub record IsDrained (before after : TreeContents) : Type 0 where
  pub states : length after.pool.states ≡ length before.pool.states
  pub nodes : length after.nodes ≡ length before.nodes
  pub each : (number : ℕ) → number < length before.pool.states
      → IsDrainedNode number (state_at before.pool.states number) (node_of before.nodes number) (state_at after.pool.states number) (node_of after.nodes number)
