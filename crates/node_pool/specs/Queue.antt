-- The nodes that wait, as a queue. How the pool keeps them is this project's own, and no public clause tells of it.
use Rattle.std.specs.Prelude.{◌≡◌, ℕ, ◌<◌, ◌≤◌, List, length, map, slice_set, Option, Some}
use Rattle.std.specs.List.{count_by}
use Rattle.node_pool.specs.declared.node.Node.{Node}
use Rattle.node_pool.specs.declared.node.NodeId.{NodeId}
use Rattle.node_pool.specs.declared.node.State.{State}
use Rattle.node_pool.specs.declared.node.State.TheVariants as state
use Rattle.node_pool.specs.Pool.{IsChildOf, SplitsAreWhole, is_waiting}
use Rattle.node_pool.specs.Heap.{Heap, IsLeftist, IsOrdered, LeadsTo, node_at, occurs, size}

abbrev pub states_of : List Node → List State
states_of nodes = map (λ node. node.state) nodes

-- how often a node in this state stands in the queue
abbrev pub times_waiting : State → ℕ
times_waiting (state.Waiting key) = 1
times_waiting other = 0

-- a link leads to a heap of just the nodes that wait, so many of them
pub record IsQueue (nodes : List Node) (link : Option NodeId) (count : ℕ) : Type 0 where
  pub heap : Heap
  pub leads : LeadsTo nodes link heap
  pub ordered : IsOrdered heap
  pub leftist : IsLeftist heap
  pub once : (number : ℕ) → occurs heap number ≡ times_waiting (node_at nodes number).state
  pub count_is : size heap ≡ count

abbrev pub SomeQueue : List Node → Option NodeId → Type 0
SomeQueue nodes link = (count : ℕ) × (count ≤ 4_294_967_295) × IsQueue nodes link count

-- nodes with one that is in another state
abbrev pub with_node_state : List Node → ℕ → State → List Node
with_node_state nodes number new = slice_set nodes number (record (node_at nodes number) { state = new })

-- each child tells its parent
pub record AreParents (nodes : List Node) : Type 0 where
  pub told : (child number : ℕ) → IsChildOf (states_of nodes) child number → (node_at nodes child).parent ≡ Some (record { 0 = number })
  pub there : (child : ℕ) → 1 ≤ child → child < length nodes → (number : ℕ) × IsChildOf (states_of nodes) child number

-- the nodes of a pool, the link to the queue, and how many wait
pub record IsPool (nodes : List Node) (link : Option NodeId) (waiting capacity : ℕ) : Type 0 where
  pub queue : IsQueue nodes link waiting
  pub waiting_is : waiting ≡ count_by is_waiting (states_of nodes)
  pub some : 1 ≤ length nodes
  pub few : length nodes ≤ capacity
  pub bounded : capacity ≤ 4_294_967_295
  pub whole : SplitsAreWhole (states_of nodes)
  pub parents : AreParents nodes
