-- Pools of nodes, numbered from 0 in the order of making. This is this project's own.
use Rattle.std.specs.Prelude.{◌≡◌, ◌⊎◌, ℕ, ◌+◌, ◌<◌, ◌≤◌, ℤ, ◌<ℤ◌, Bool, true, false, List, [], ◌∷◌, ◌++◌, length, slice_index_or, slice_set}
use Rattle.node_pool.specs.declared.node.NodeId.{NodeId}
use Rattle.node_pool.specs.declared.node.State.{State}
use Rattle.node_pool.specs.declared.node.State.TheVariants as state

-- the states of the nodes, and how many may come
pub record PoolContents : Type 0 where
  pub capacity : ℕ
  pub states : List State

-- the state of a node; a number that no node has counts as in hand
abbrev pub state_at : List State → ℕ → State
state_at states number = slice_index_or states number state.InHand

-- a node waits, with a key
abbrev pub Waits : List State → ℕ → ℤ → Type 0
Waits states number key = state_at states number ≡ state.Waiting key

-- a node is in hand
pub record IsInHand (states : List State) (number : ℕ) : Type 0 where
  pub there : number < length states
  pub in_hand : state_at states number ≡ state.InHand

-- a node waits, and each other that waits has a greater key, or the same key and a greater number
pub record IsLeast (states : List State) (number : ℕ) : Type 0 where
  pub key : ℤ
  pub waits : Waits states number key
  pub least : (other : ℕ) (other_key : ℤ) → Waits states other other_key → (key <ℤ other_key) ⊎ ((key ≡ other_key) × (number ≤ other))

-- no node waits
abbrev pub NoneWaits : List State → Type 0
NoneWaits states = (number : ℕ) (key : ℤ) → Waits states number key → ⊥

-- one node's state changes
abbrev pub with_state : List State → ℕ → State → List State
with_state states number new = slice_set states number new

-- whether a node waits
abbrev pub is_waiting : State → Bool
is_waiting (state.Waiting key) = true
is_waiting other = false

-- a new pool: its root waits
abbrev pub new_pool : ℕ → ℤ → PoolContents
new_pool capacity key = record { capacity = capacity; states = state.Waiting key ∷ [] }

-- a pool with one node in another state
abbrev pub pool_with : PoolContents → ℕ → State → PoolContents
pool_with pool number new = record pool { states = with_state pool.states number new }

-- a node is split in two children, which are made left first and wait
abbrev pub split_pool : PoolContents → ℕ → ℕ → ℕ → ℤ → ℤ → PoolContents
split_pool pool number line at left right = record pool {
  states =
      with_state pool.states number (state.Split line at (record { 0 = length pool.states }) (record { 0 = length pool.states + 1 }))
      ++ state.Waiting left ∷ state.Waiting right ∷ [];
}

-- the children of a split come after it, the right one next behind the left
pub record AreChildren (states : List State) (number : ℕ) (left right : NodeId) : Type 0 where
  pub later : number < left.0
  pub next : right.0 ≡ left.0 + 1
  pub there : right.0 < length states

-- each split has such children
abbrev pub SplitsAreWhole : List State → Type 0
SplitsAreWhole states = (number line at : ℕ) (left right : NodeId) → state_at states number ≡ state.Split line at left right → AreChildren states number left right

-- a node is a child of a split
pub record IsChildOf (states : List State) (child number : ℕ) : Type 0 where
  pub line : ℕ
  pub at : ℕ
  pub left : NodeId
  pub right : NodeId
  pub split : state_at states number ≡ state.Split line at left right
  pub side : (left.0 ≡ child) ⊎ (right.0 ≡ child)

-- the nodes are one tree: the root is no child, and each other node is a child of exactly one split, which is earlier
pub record IsOneTree (states : List State) : Type 0 where
  pub some : 1 ≤ length states
  pub root : (number : ℕ) → IsChildOf states 0 number → ⊥
  pub parent : (child : ℕ) → 1 ≤ child → child < length states → (number : ℕ) × (number < child) × IsChildOf states child number
  pub one : (child number other : ℕ) → IsChildOf states child number → IsChildOf states child other → number ≡ other

-- no node is in hand
abbrev pub NoneInHand : List State → Type 0
NoneInHand states = (number : ℕ) → number < length states → state_at states number ≡ state.InHand → ⊥
