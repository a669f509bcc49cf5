-- Leftist heaps of waiting nodes, least key first. How the pool keeps them is this project's own, and no public clause tells of it.
use Rattle.std.specs.Prelude.{◌≡◌, ℕ, ◌+◌, ◌^◌, ◌≤◌, ◌<◌, ℤ, pos, Bool, true, false, ◌==◌, nat_lt, if◌then◌else◌, List, [], ◌∷◌, length, slice_index_or, slice_set, Option, Some, None}
use Rattle.std.specs.Ordering.{int_cmp}
use Rattle.std.specs.declared.cmp.Ordering.{Ordering}
use Rattle.std.specs.declared.cmp.Ordering.TheVariants.{Less, Equal, Greater}
use Rattle.node_pool.specs.declared.heap.Descent.{Descent}
use Rattle.node_pool.specs.declared.node.Links.{Links}
use Rattle.node_pool.specs.declared.node.Node.{Node}
use Rattle.node_pool.specs.declared.node.NodeId.{NodeId}
use Rattle.node_pool.specs.declared.node.State.{State}
use Rattle.node_pool.specs.declared.node.State.TheVariants as state

-- a heap is empty, or a node with a key, above a heap on its left and one on its right
pub data Heap : Type 0 where
  Empty : Heap
  Fork : ℕ → ℤ → Heap → Heap → Heap

-- the link to a heap's top
abbrev pub top : Heap → Option NodeId
top Empty = None
top (Fork number key left right) = Some (record { 0 = number })

-- how many nodes it has
abbrev pub size : Heap → ℕ
size Empty = 0
size (Fork number key left right) = 1 + (size left + size right)

-- how many nodes the way to the right has
abbrev pub spine : Heap → ℕ
spine Empty = 0
spine (Fork number key left right) = spine right + 1

-- how often a number stands in it
abbrev pub occurs : Heap → ℕ → ℕ
occurs Empty number = 0
occurs (Fork own key left right) number = (if own == number then 1 else 0) + (occurs left number + occurs right number)

-- the order: by key, and then by number
abbrev pub before_by : Ordering → ℕ → ℕ → Bool
before_by Less number other = true
before_by Equal number other = nat_lt number other
before_by Greater number other = false

abbrev pub comes_before : ℕ → ℤ → ℕ → ℤ → Bool
comes_before number key other other_key = before_by (int_cmp key other_key) number other

-- a node comes before all of a heap
abbrev pub IsAbove : ℕ → ℤ → Heap → Type 0
IsAbove number key Empty = Unit {0}
IsAbove number key (Fork other other_key left right) =
    (comes_before number key other other_key ≡ true) × (IsAbove number key left × IsAbove number key right)

-- each node comes before those below it
abbrev pub IsOrdered : Heap → Type 0
IsOrdered Empty = Unit {0}
IsOrdered (Fork number key left right) = (IsAbove number key left × IsAbove number key right) × (IsOrdered left × IsOrdered right)

-- the way to the right is never the longer one
abbrev pub IsLeftist : Heap → Type 0
IsLeftist Empty = Unit {0}
IsLeftist (Fork number key left right) = (spine right ≤ spine left) × (IsLeftist left × IsLeftist right)

-- so it is short: two to the power of its length is at most one more than the heap's size
abbrev pub SpinesAreShort : Type 0
SpinesAreShort = (heap : Heap) → IsLeftist heap → 2 ^ spine heap ≤ size heap + 1

-- a node above two heaps, of which the one with the longer way to the right goes to the left
abbrev pub fork : ℕ → ℤ → Heap → Heap → Heap
fork number key left right = if nat_lt (spine left) (spine right) then Fork number key right left else Fork number key left right

-- two heaps as one
abbrev pub merged_into : ℕ → ℤ → Heap → (Heap → Heap) → Heap → Heap → Heap
merged_into number key left behind own Empty = own
merged_into number key left behind own (Fork other other_key other_left other_right) =
    if comes_before number key other other_key
    then fork number key left (behind (Fork other other_key other_left other_right))
    else fork other other_key other_left (merged_into number key left behind own other_right)

abbrev pub merged : Heap → Heap → Heap
merged Empty heap = heap
merged (Fork number key left right) heap = merged_into number key left (merged right) (Fork number key left right) heap

-- a node by its number
abbrev pub no_node : Node
no_node = record { parent = None; state = state.InHand; links = record { left = None; right = None; rank = 0 } }

abbrev pub node_at : List Node → ℕ → Node
node_at nodes number = slice_index_or nodes number no_node

-- a node stands at the top of a heap
pub record IsFork (nodes : List Node) (number : ℕ) (key : ℤ) (left right : Heap) : Type 0 where
  pub there : number < length nodes
  pub waits : (node_at nodes number).state ≡ state.Waiting key
  pub links : (node_at nodes number).links ≡ record { left = top left; right = top right; rank = spine right + 1 }

-- nodes are linked to a heap
abbrev pub AreLinked : List Node → Heap → Type 0
AreLinked nodes Empty = Unit {0}
AreLinked nodes (Fork number key left right) = IsFork nodes number key left right × (AreLinked nodes left × AreLinked nodes right)

-- a link leads to a heap
pub record LeadsTo (nodes : List Node) (link : Option NodeId) (heap : Heap) : Type 0 where
  pub top_is : link ≡ top heap
  pub linked : AreLinked nodes heap

-- two links lead to heaps without a node in common, none of which stands twice
pub record AreApart (nodes : List Node) (first second : Option NodeId) : Type 0 where
  pub one : Heap
  pub other : Heap
  pub first_leads : LeadsTo nodes first one
  pub second_leads : LeadsTo nodes second other
  pub once : (number : ℕ) → occurs one number + occurs other number ≤ 1
  pub few : size one + size other ≤ 4_294_967_295

-- a merge changes links alone
pub record KeepsNodes (old new : List Node) : Type 0 where
  pub count : length new ≡ length old
  pub states : (number : ℕ) → (node_at new number).state ≡ (node_at old number).state
  pub parents : (number : ℕ) → (node_at new number).parent ≡ (node_at old number).parent

-- a node on the way down to the right, whose right link leads back up for the while
pub record Frame : Type 0 where
  pub number : ℕ
  pub key : ℤ
  pub left : Heap

abbrev pub top_frame : List Frame → Option NodeId
top_frame [] = None
top_frame (frame ∷ frames) = Some (record { 0 = frame.number })

-- the heap, once the way is gone back
abbrev pub rebuilt : List Frame → Heap → Heap
rebuilt [] heap = heap
rebuilt (frame ∷ frames) heap = rebuilt frames (fork frame.number frame.key frame.left heap)

abbrev pub frames_occur : List Frame → ℕ → ℕ
frames_occur [] number = 0
frames_occur (frame ∷ frames) number = (if frame.number == number then 1 else 0) + (occurs frame.left number + frames_occur frames number)

abbrev pub frames_size : List Frame → ℕ
frames_size [] = 0
frames_size (frame ∷ frames) = 1 + (size frame.left + frames_size frames)

pub record IsHung (nodes : List Node) (frame : Frame) (above : Option NodeId) : Type 0 where
  pub there : frame.number < length nodes
  pub waits : (node_at nodes frame.number).state ≡ state.Waiting frame.key
  pub left_is : (node_at nodes frame.number).links.left ≡ top frame.left
  pub above_is : (node_at nodes frame.number).links.right ≡ above
  pub linked : AreLinked nodes frame.left

abbrev pub AreHung : List Node → List Frame → Type 0
AreHung nodes [] = Unit {0}
AreHung nodes (frame ∷ frames) = IsHung nodes frame (top_frame frames) × AreHung nodes frames

-- after so many steps down two heaps, and the way above them, are left of a whole
pub record AreLeft (nodes : List Node) (steps : ℕ) (down : Descent) (whole : Heap) : Type 0 where
  pub frames : List Frame
  pub one : Heap
  pub other : Heap
  pub spine_is : down.spine ≡ top_frame frames
  pub hung : AreHung nodes frames
  pub first_leads : LeadsTo nodes down.first one
  pub second_leads : LeadsTo nodes down.second other
  pub once : (number : ℕ) → frames_occur frames number + (occurs one number + occurs other number) ≤ 1
  pub few : frames_size frames + (size one + size other) ≤ 4_294_967_295
  pub gone : steps ≤ frames_size frames
  pub whole_is : rebuilt frames (merged one other) ≡ whole

abbrev pub SomeAreLeft : List Node → Descent → Heap → Type 0
SomeAreLeft nodes down whole = (steps : ℕ) × AreLeft nodes steps down whole

-- after so many steps back up a heap, and the way above it, are left of a whole
pub record IsLeft (nodes : List Node) (steps : ℕ) (above link : Option NodeId) (whole : Heap) : Type 0 where
  pub frames : List Frame
  pub heap : Heap
  pub above_is : above ≡ top_frame frames
  pub hung : AreHung nodes frames
  pub leads : LeadsTo nodes link heap
  pub once : (number : ℕ) → frames_occur frames number + occurs heap number ≤ 1
  pub few : frames_size frames + size heap ≤ 4_294_967_295
  pub climbed : steps + frames_size frames ≤ 4_294_967_295
  pub whole_is : rebuilt frames heap ≡ whole

abbrev pub SomeIsLeft : List Node → Option NodeId → Option NodeId → Type 0
SomeIsLeft nodes above link = (steps : ℕ) × (whole : Heap) × IsLeft nodes steps above link whole

-- a key of a node that waits
abbrev pub key_of : State → ℤ
key_of (state.Waiting key) = key
key_of other = pos 0

-- nodes with the links of one changed
abbrev pub with_links : List Node → ℕ → Links → List Node
with_links nodes number links = slice_set nodes number (record (node_at nodes number) { links = links })

-- the rank that a link leads to
abbrev pub rank_at : List Node → Option NodeId → ℕ
rank_at nodes None = 0
rank_at nodes (Some node) = (node_at nodes node.0).links.rank

-- the links of a node above two heaps
abbrev pub links_of : Option NodeId → Option NodeId → ℕ → ℕ → Links
links_of left right left_rank right_rank =
    if nat_lt left_rank right_rank
    then record { left = right; right = left; rank = left_rank + 1 }
    else record { left = left; right = right; rank = right_rank + 1 }

-- the links of a node that waits alone
abbrev pub lone_links : Links
lone_links = record { left = None; right = None; rank = 1 }
