-- Linked heaps, and one step of a merge.
use Rattle.std.proofs.Common.{◌≡◌, ◌≢◌, ◌∙◌, ℕ, ◌+◌, ◌<◌, ◌≤◌, Bool, true, false, ◌==◌, if◌then◌else◌, List, [], ◌∷◌, length, slice_set, refl, sym, subst, ap, arith, Option}
use Rattle.std.proofs.lemmas.List.{get_or-set_other, get_or-set_same, length-set}
use Rattle.node_pool.specs.declared.node.Links.{Links}
use Rattle.node_pool.specs.declared.node.Node.{Node}
use Rattle.node_pool.specs.declared.node.NodeId.{NodeId}
use Rattle.node_pool.specs.Heap.{AreHung, AreLinked, Empty, Fork, Frame, Heap, KeepsNodes, LeadsTo, frames_occur, node_at, no_node, occurs, with_links}

id : ℕ → NodeId
id number = record { 0 = number }

-- one node changed
pub at-other : (nodes : List Node) (place number : ℕ) (node : Node) → place ≢ number → node_at (slice_set nodes place node) number ≡ node_at nodes number
at-other nodes place number node other = get_or-set_other nodes place number node no_node (λ same. other (sym same))

pub at-same : (nodes : List Node) (number : ℕ) (node : Node) → number < length nodes → node_at (slice_set nodes number node) number ≡ node
at-same nodes number node there = get_or-set_same nodes number node no_node there

-- a heap stays where its nodes do
own_once : (number : ℕ) (left right : ℕ) → 1 ≤ (if number == number then 1 else 0) + (left + right)
own_once number left right = let here : (number == number) ≡ true = grind arith in rw here (omega arith)

in_left : (own number left right : ℕ) → 1 ≤ left → 1 ≤ (if own == number then 1 else 0) + (left + right)
in_left own number left right h = omega arith

in_right : (own number left right : ℕ) → 1 ≤ right → 1 ≤ (if own == number then 1 else 0) + (left + right)
in_right own number left right h = omega arith

pub linked-same : (old new : List Node) (heap : Heap) → length new ≡ length old → ((number : ℕ) → 1 ≤ occurs heap number → node_at new number ≡ node_at old number) →
    AreLinked old heap → AreLinked new heap
linked-same old new Empty count same linked = tt
linked-same old new (Fork number key left right) count same linked =
    let here : node_at new number ≡ node_at old number = same number (own_once number (occurs left number) (occurs right number)) in (
      record {
        there = omega (arith, count, linked.0.there);
        waits = ap (λ (n : Node). n.state) here ∙ linked.0.waits;
        links = ap (λ (n : Node). n.links) here ∙ linked.0.links;
      },
      (
        linked-same old new left count (λ other h. same other (in_left number other (occurs left other) (occurs right other) h)) linked.1.0,
        linked-same old new right count (λ other h. same other (in_right number other (occurs left other) (occurs right other) h)) linked.1.1,
      ),
    )

-- a node in none of a heap
away : (heap : Heap) (place number : ℕ) → occurs heap place ≡ 0 → 1 ≤ occurs heap number → place ≢ number
away heap place number none some same =
    let zero_here : occurs heap number ≡ 0 = ap (λ (n : ℕ). occurs heap n) (sym same) ∙ none in absurd (omega (arith, zero_here, some))

pub linked-set : (nodes : List Node) (place : ℕ) (node : Node) (heap : Heap) → occurs heap place ≡ 0 → AreLinked nodes heap → AreLinked (slice_set nodes place node) heap
linked-set nodes place node heap none linked =
    linked-same nodes (slice_set nodes place node) heap (length-set nodes place node)
    (λ number some. at-other nodes place number node (away heap place number none some)) linked

pub leads-set : (nodes : List Node) (place : ℕ) (node : Node) (link : Option NodeId) (heap : Heap) → occurs heap place ≡ 0 → LeadsTo nodes link heap →
    LeadsTo (slice_set nodes place node) link heap
leads-set nodes place node link heap none leads = record { top_is = leads.top_is; linked = linked-set nodes place node heap none leads.linked }

-- a way up stays where its nodes do
pub hung-same : (old new : List Node) (frames : List Frame) → length new ≡ length old → ((number : ℕ) → 1 ≤ frames_occur frames number → node_at new number ≡ node_at old number) →
    AreHung old frames → AreHung new frames
hung-same old new [] count same hung = tt
hung-same old new (frame ∷ frames) count same hung =
    let here : node_at new frame.number ≡ node_at old frame.number = same frame.number (own_once frame.number (occurs frame.left frame.number) (frames_occur frames frame.number)) in (
      record {
        there = omega (arith, count, hung.0.there);
        waits = ap (λ (n : Node). n.state) here ∙ hung.0.waits;
        left_is = ap (λ (n : Node). n.links.left) here ∙ hung.0.left_is;
        above_is = ap (λ (n : Node). n.links.right) here ∙ hung.0.above_is;
        linked = linked-same old new frame.left count (λ other h. same other (in_left frame.number other (occurs frame.left other) (frames_occur frames other) h)) hung.0.linked;
      },
      hung-same old new frames count (λ other h. same other (in_right frame.number other (occurs frame.left other) (frames_occur frames other) h)) hung.1,
    )

away_frames : (frames : List Frame) (place number : ℕ) → frames_occur frames place ≡ 0 → 1 ≤ frames_occur frames number → place ≢ number
away_frames frames place number none some same =
    let zero_here : frames_occur frames number ≡ 0 = ap (λ (n : ℕ). frames_occur frames n) (sym same) ∙ none in absurd (omega (arith, zero_here, some))

pub hung-set : (nodes : List Node) (place : ℕ) (node : Node) (frames : List Frame) → frames_occur frames place ≡ 0 → AreHung nodes frames → AreHung (slice_set nodes place node) frames
hung-set nodes place node frames none hung =
    hung-same nodes (slice_set nodes place node) frames (length-set nodes place node)
    (λ number some. at-other nodes place number node (away_frames frames place number none some)) hung

-- a change of links keeps nodes
pub keeps-all : (nodes : List Node) → KeepsNodes nodes nodes
keeps-all nodes = record { count = refl; states = λ number. refl; parents = λ number. refl }

pub keeps-more : (old middle new : List Node) → KeepsNodes old middle → KeepsNodes middle new → KeepsNodes old new
keeps-more old middle new first second = record {
  count = second.count ∙ first.count;
  states = λ number. second.states number ∙ first.states number;
  parents = λ number. second.parents number ∙ first.parents number;
}

place_by : (nodes : List Node) (place : ℕ) (links : Links) (number : ℕ) (b : Bool) → (place == number) ≡ b → place < length nodes →
    ((node_at (with_links nodes place links) number).state ≡ (node_at nodes number).state) × ((node_at (with_links nodes place links) number).parent ≡ (node_at nodes number).parent)
place_by nodes place links number true e there =
    let same : place ≡ number = grind (arith, e) in
    let P : ℕ → Type 0 = λ n. ((node_at (with_links nodes place links) n).state ≡ (node_at nodes n).state) × ((node_at (with_links nodes place links) n).parent ≡ (node_at nodes n).parent) in
    let here : node_at (with_links nodes place links) place ≡ record (node_at nodes place) { links = links } = at-same nodes place (record (node_at nodes place) { links = links }) there in
    subst P same (ap (λ (n : Node). n.state) here, ap (λ (n : Node). n.parent) here)
place_by nodes place links number false e there =
    let other : place ≢ number = (λ same. absurd (grind (arith, e, same))) in
    let here : node_at (with_links nodes place links) number ≡ node_at nodes number = at-other nodes place number (record (node_at nodes place) { links = links }) other in
    (ap (λ (n : Node). n.state) here, ap (λ (n : Node). n.parent) here)

pub keeps-links : (nodes : List Node) (place : ℕ) (links : Links) → place < length nodes → KeepsNodes nodes (with_links nodes place links)
keeps-links nodes place links there = record {
  count = length-set nodes place (record (node_at nodes place) { links = links });
  states = λ number. (place_by nodes place links number (place == number) refl there).0;
  parents = λ number. (place_by nodes place links number (place == number) refl there).1;
}
