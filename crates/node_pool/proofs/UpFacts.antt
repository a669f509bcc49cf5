-- The way back up of a merge.
use Rattle.std.proofs.Common.{◌≡◌, ◌∙◌, ◌⊎◌, ℕ, ◌+◌, ◌<◌, ◌≤◌, ℤ, Bool, true, false, ◌==◌, nat_lt, if◌then◌else◌, List, [], ◌∷◌, length, slice_set, refl, sym, subst, ap, arith, Option, Some, None, IfSome, inl, inr}
use Rattle.std.proofs.lemmas.List.{length-set}
use Rattle.std.specs.Option.{option_or}
use Rattle.node_pool.specs.declared.heap.Descent.{Descent}
use Rattle.node_pool.specs.declared.node.Links.{Links}
use Rattle.node_pool.specs.declared.node.Node.{Node}
use Rattle.node_pool.specs.declared.node.NodeId.{NodeId}
use Rattle.node_pool.specs.declared.node.State.TheVariants as state
use Rattle.node_pool.specs.Heap.{AreApart, AreHung, AreLeft, AreLinked, Empty, Fork, Frame, Heap, IsLeft, LeadsTo, SomeAreLeft, fork, frames_occur, frames_size, links_of, merged, node_at, occurs, rank_at, rebuilt, size, spine, top, top_frame, with_links}
use Rattle.node_pool.proofs.HeapFacts.{at-same, hung-set, linked-set}

-- ranks
rank-top : (nodes : List Node) (heap : Heap) → AreLinked nodes heap → rank_at nodes (top heap) ≡ spine heap
rank-top nodes Empty linked = refl
rank-top nodes (Fork number key left right) linked = ap (λ (l : Links). l.rank) linked.0.links

spine-size : (heap : Heap) → spine heap ≤ size heap
spine-size Empty = omega arith
spine-size (Fork number key left right) = let below : spine right ≤ size right = spine-size right in omega (arith, below)

top-there : (nodes : List Node) (heap : Heap) → AreLinked nodes heap → IfSome (top heap) (λ node. node.0 < length nodes)
top-there nodes Empty linked = tt
top-there nodes (Fork number key left right) linked = linked.0.there

-- the node above a heap
pub record IsAt (nodes : List Node) (node : NodeId) (link : Option NodeId) : Type 0 where
  pub there : node.0 < length nodes
  pub left : IfSome (node_at nodes node.0).links.left (λ left. left.0 < length nodes)
  pub other : IfSome link (λ top. top.0 < length nodes)
  pub left_rank : rank_at nodes (node_at nodes node.0).links.left < 4_294_967_295
  pub other_rank : rank_at nodes link < 4_294_967_295

same_frame : (node : NodeId) (number : ℕ) → Some node ≡ Some (record { 0 = number }) → node ≡ record { 0 = number }
same_frame node number h = cc

is_at_by : (nodes : List Node) (steps : ℕ) (node : NodeId) (link : Option NodeId) (frames : List Frame) (heap : Heap) → Some node ≡ top_frame frames → AreHung nodes frames →
    LeadsTo nodes link heap → frames_size frames + size heap ≤ 4_294_967_295 → IsAt nodes node link
is_at_by nodes steps node link [] heap above hung leads few = let bad : Some node ≡ None = above in absurd (cc)
is_at_by nodes steps node link (frame ∷ frames) heap above hung leads few =
    let own : node ≡ record { 0 = frame.number } = same_frame node frame.number above in
    let P : NodeId → Type 0 = λ n. IsAt nodes n link in
    let left_link : (node_at nodes frame.number).links.left ≡ top frame.left = hung.0.left_is in
    let L : Option NodeId → Type 0 = λ o. IfSome o (λ n. n.0 < length nodes) in
    let left_rank : rank_at nodes (node_at nodes frame.number).links.left ≡ spine frame.left =
    ap (λ (o : Option NodeId). rank_at nodes o) left_link ∙ rank-top nodes frame.left hung.0.linked in
    let rank : rank_at nodes link ≡ spine heap = ap (λ (o : Option NodeId). rank_at nodes o) leads.top_is ∙ rank-top nodes heap leads.linked in
    let short : spine frame.left ≤ size frame.left = spine-size frame.left in
    let low : spine heap ≤ size heap = spine-size heap in
    subst P (sym own) (record {
      there = hung.0.there;
      left = subst L (sym left_link) (top-there nodes frame.left hung.0.linked);
      other = subst L (sym leads.top_is) (top-there nodes heap leads.linked);
      left_rank = omega (arith, left_rank, short, few);
      other_rank = omega (arith, rank, low, few);
    })

pub is-at : (nodes : List Node) (steps : ℕ) (node : NodeId) (link : Option NodeId) (whole : Heap) → IsLeft nodes steps (Some node) link whole → IsAt nodes node link
is-at nodes steps node link whole at = is_at_by nodes steps node link at.frames at.heap at.above_is at.hung at.leads at.few

-- a number that stands once
pub record Single (left frames heap : ℕ) : Type 0 where
  pub left_none : left ≡ 0
  pub frames_none : frames ≡ 0
  pub heap_none : heap ≡ 0

single : (number left frames heap : ℕ) → ((if number == number then 1 else 0) + (left + frames)) + heap ≤ 1 → Single left frames heap
single number left frames heap h =
    let here : (number == number) ≡ true = grind arith in
    let P : Bool → Type 0 = λ b. ((if b then 1 else 0) + (left + frames)) + heap ≤ 1 in
    let all : (1 + (left + frames)) + heap ≤ 1 = subst P here h in
    record { left_none = omega (arith, all); frames_none = omega (arith, all); heap_none = omega (arith, all) }

-- the node, linked
abbrev up_nodes : List Node → ℕ → Option NodeId → Option NodeId → ℕ → ℕ → List Node
up_nodes nodes number left link left_rank rank = with_links nodes number (links_of left link left_rank rank)

fork_leads : (nodes : List Node) (number : ℕ) (key : ℤ) (left heap : Heap) → number < length nodes → (node_at nodes number).state ≡ state.Waiting key → AreLinked nodes left → AreLinked nodes heap →
    occurs left number ≡ 0 → occurs heap number ≡ 0 → (b : Bool) →
    LeadsTo (with_links nodes number (if b then record { left = top heap; right = top left; rank = spine left + 1 } else record { left = top left; right = top heap; rank = spine heap + 1 }))
    (Some (record { 0 = number })) (if b then Fork number key heap left else Fork number key left heap)
fork_leads nodes number key left heap there waits linked others none away true =
    let node : Node = record (node_at nodes number) { links = record { left = top heap; right = top left; rank = spine left + 1 } } in
    let here : node_at (slice_set nodes number node) number ≡ node = at-same nodes number node there in
    record {
      top_is = refl;
      linked = (
        record {
          there = omega (arith, length-set nodes number node, there);
          waits = ap (λ (n : Node). n.state) here ∙ waits;
          links = ap (λ (n : Node). n.links) here;
        },
        (linked-set nodes number node heap away others, linked-set nodes number node left none linked),
      );
    }
fork_leads nodes number key left heap there waits linked others none away false =
    let node : Node = record (node_at nodes number) { links = record { left = top left; right = top heap; rank = spine heap + 1 } } in
    let here : node_at (slice_set nodes number node) number ≡ node = at-same nodes number node there in
    record {
      top_is = refl;
      linked = (
        record {
          there = omega (arith, length-set nodes number node, there);
          waits = ap (λ (n : Node). n.state) here ∙ waits;
          links = ap (λ (n : Node). n.links) here;
        },
        (linked-set nodes number node left none linked, linked-set nodes number node heap away others),
      );
    }

fork_once : (number i : ℕ) (key : ℤ) (left heap : Heap) (f : ℕ) → ((if number == i then 1 else 0) + (occurs left i + f)) + occurs heap i ≤ 1 → (b : Bool) →
    f + occurs (if b then Fork number key heap left else Fork number key left heap) i ≤ 1
fork_once number i key left heap f h true = omega (arith, h)
fork_once number i key left heap f h false = omega (arith, h)

fork_few : (number : ℕ) (key : ℤ) (left heap : Heap) (f : ℕ) → (1 + (size left + f)) + size heap ≤ 4_294_967_295 → (b : Bool) →
    f + size (if b then Fork number key heap left else Fork number key left heap) ≤ 4_294_967_295
fork_few number key left heap f h true = omega (arith, h)
fork_few number key left heap f h false = omega (arith, h)

up_by : (nodes : List Node) (steps : ℕ) (node : NodeId) (link : Option NodeId) (whole : Heap) (frames : List Frame) (heap : Heap) → Some node ≡ top_frame frames →
    AreHung nodes frames → LeadsTo nodes link heap → ((number : ℕ) → frames_occur frames number + occurs heap number ≤ 1) → frames_size frames + size heap ≤ 4_294_967_295 →
    steps + frames_size frames ≤ 4_294_967_295 → rebuilt frames heap ≡ whole →
    IsLeft (up_nodes nodes node.0 (node_at nodes node.0).links.left link (rank_at nodes (node_at nodes node.0).links.left) (rank_at nodes link)) (steps + 1)
    (node_at nodes node.0).links.right (Some node) whole
up_by nodes steps node link whole [] heap above hung leads once few climbed whole_is = let bad : Some node ≡ None = above in absurd (cc)
up_by nodes steps node link whole (frame ∷ frames) heap above hung leads once few climbed whole_is =
    let number : ℕ = frame.number in
    let own : node ≡ record { 0 = number } = same_frame node number above in
    let left_link : (node_at nodes number).links.left ≡ top frame.left = hung.0.left_is in
    let left_rank : rank_at nodes (node_at nodes number).links.left ≡ spine frame.left =
    ap (λ (o : Option NodeId). rank_at nodes o) left_link ∙ rank-top nodes frame.left hung.0.linked in
    let rank : rank_at nodes link ≡ spine heap = ap (λ (o : Option NodeId). rank_at nodes o) leads.top_is ∙ rank-top nodes heap leads.linked in
    let is : Single (occurs frame.left number) (frames_occur frames number) (occurs heap number) =
    single number (occurs frame.left number) (frames_occur frames number) (occurs heap number) (once number) in
    let b : Bool = nat_lt (spine frame.left) (spine heap) in
    let links : Links = if b then record { left = top heap; right = top frame.left; rank = spine frame.left + 1 } else record { left = top frame.left; right = top heap; rank = spine heap + 1 } in
    let same_links : links ≡ links_of (node_at nodes number).links.left link (rank_at nodes (node_at nodes number).links.left) (rank_at nodes link) =
    ap (λ (o : Option NodeId). links_of o (top heap) (spine frame.left) (spine heap)) (sym left_link)
    ∙ ap (λ (o : Option NodeId). links_of (node_at nodes number).links.left o (spine frame.left) (spine heap)) (sym leads.top_is)
    ∙ ap (λ (k : ℕ). links_of (node_at nodes number).links.left link k (spine heap)) (sym left_rank)
    ∙ ap (λ (k : ℕ). links_of (node_at nodes number).links.left link (rank_at nodes (node_at nodes number).links.left) k) (sym rank) in
    let P : NodeId → Type 0 = λ n. IsLeft (up_nodes nodes n.0 (node_at nodes n.0).links.left link (rank_at nodes (node_at nodes n.0).links.left) (rank_at nodes link)) (steps + 1)
    (node_at nodes n.0).links.right (Some n) whole in
    let Q : Links → Type 0 = λ l. IsLeft (with_links nodes number l) (steps + 1) (node_at nodes number).links.right (Some (record { 0 = number })) whole in
    subst P (sym own) (subst Q same_links (record {
      frames = frames;
      heap = fork number frame.key frame.left heap;
      above_is = hung.0.above_is;
      hung = hung-set nodes number (record (node_at nodes number) { links = links }) frames is.frames_none hung.1;
      leads = fork_leads nodes number frame.key frame.left heap hung.0.there hung.0.waits hung.0.linked leads.linked is.left_none is.heap_none b;
      once = λ i. fork_once number i frame.key frame.left heap (frames_occur frames i) (once i) b;
      few = fork_few number frame.key frame.left heap (frames_size frames) few b;
      climbed = omega (arith, climbed);
      whole_is = whole_is;
    }))

pub up-once : (nodes : List Node) (steps : ℕ) (node : NodeId) (link : Option NodeId) (whole : Heap) → IsLeft nodes steps (Some node) link whole →
    IsLeft (up_nodes nodes node.0 (node_at nodes node.0).links.left link (rank_at nodes (node_at nodes node.0).links.left) (rank_at nodes link)) (steps + 1)
    (node_at nodes node.0).links.right (Some node) whole
up-once nodes steps node link whole at = up_by nodes steps node link whole at.frames at.heap at.above_is at.hung at.leads at.once at.few at.climbed at.whole_is

-- at the end of the way
end_by : (nodes : List Node) (link : Option NodeId) (whole : Heap) (frames : List Frame) (heap : Heap) → None ≡ top_frame frames → LeadsTo nodes link heap → rebuilt frames heap ≡ whole →
    LeadsTo nodes link whole
end_by nodes link whole [] heap above leads whole_is = (let P : Heap → Type 0 = λ h. LeadsTo nodes link h in subst P whole_is leads)
end_by nodes link whole (frame ∷ frames) heap above leads whole_is = let bad : None ≡ Some (record { 0 = frame.number }) = above in absurd (cc)

pub up-end : (nodes : List Node) (steps : ℕ) (above link : Option NodeId) (whole : Heap) → above ≡ None → IsLeft nodes steps above link whole → LeadsTo nodes link whole
up-end nodes steps above link whole none at = end_by nodes link whole at.frames at.heap (sym none ∙ at.above_is) at.leads at.whole_is

-- at the turn
empty_by : (nodes : List Node) (heap : Heap) (link : Option NodeId) → link ≡ None → LeadsTo nodes link heap → heap ≡ Empty
empty_by nodes Empty link none leads = refl
empty_by nodes (Fork number key left right) link none leads = let bad : None ≡ Some (record { 0 = number }) = sym none ∙ leads.top_is in absurd (cc)

merged_none : (heap : Heap) → merged heap Empty ≡ heap
merged_none Empty = refl
merged_none (Fork number key left right) = refl

or_by : (nodes : List Node) (first second : Option NodeId) (other : Heap) → first ≡ None → LeadsTo nodes second other → LeadsTo nodes (option_or first second) other
or_by nodes first second other none leads = (let P : Option NodeId → Type 0 = λ o. LeadsTo nodes (option_or o second) other in subst P (sym none) leads)

or_first : (nodes : List Node) (first second : Option NodeId) (one : Heap) → second ≡ None → LeadsTo nodes first one → LeadsTo nodes (option_or first second) one
or_first nodes None second one none leads = record { top_is = none ∙ leads.top_is; linked = leads.linked }
or_first nodes (Some node) second one none leads = leads

pub turn-first : (nodes : List Node) (steps : ℕ) (down : Descent) (whole : Heap) → down.first ≡ None → AreLeft nodes steps down whole →
    IsLeft nodes 0 down.spine (option_or down.first down.second) whole
turn-first nodes steps down whole none at =
    let empty : at.one ≡ Empty = empty_by nodes at.one down.first none at.first_leads in
    record {
      frames = at.frames;
      heap = at.other;
      above_is = at.spine_is;
      hung = at.hung;
      leads = or_by nodes down.first down.second at.other none at.second_leads;
      once = λ i. (let all = at.once i in omega (arith, all));
      few = omega (arith, at.few);
      climbed = omega (arith, at.few);
      whole_is = ap (λ (h : Heap). rebuilt at.frames (merged h at.other)) (sym empty) ∙ at.whole_is;
    }

pub turn-second : (nodes : List Node) (steps : ℕ) (down : Descent) (whole : Heap) → down.second ≡ None → AreLeft nodes steps down whole →
    IsLeft nodes 0 down.spine (option_or down.first down.second) whole
turn-second nodes steps down whole none at =
    let empty : at.other ≡ Empty = empty_by nodes at.other down.second none at.second_leads in
    record {
      frames = at.frames;
      heap = at.one;
      above_is = at.spine_is;
      hung = at.hung;
      leads = or_first nodes down.first down.second at.one none at.first_leads;
      once = λ i. (let all = at.once i in omega (arith, all));
      few = omega (arith, at.few);
      climbed = omega (arith, at.few);
      whole_is = ap (λ (h : Heap). rebuilt at.frames h) (sym (merged_none at.one)) ∙ ap (λ (h : Heap). rebuilt at.frames (merged at.one h)) (sym empty) ∙ at.whole_is;
    }

-- before the first step
pub at-top : (nodes : List Node) (first second : Option NodeId) (apart : AreApart nodes first second) → AreLeft nodes 0 (record { spine = None; first = first; second = second }) (merged apart.one apart.other)
at-top nodes first second apart = record {
  frames = [];
  one = apart.one;
  other = apart.other;
  spine_is = refl;
  hung = tt;
  first_leads = apart.first_leads;
  second_leads = apart.second_leads;
  once = λ i. (let all = apart.once i in omega (arith, all));
  few = omega (arith, apart.few);
  gone = omega arith;
  whole_is = refl;
}

-- there is no way as long
pub too-far-down : (nodes : List Node) (steps : ℕ) (down : Descent) (whole : Heap) → 18_446_744_073_709_551_615 ≤ steps → AreLeft nodes steps down whole → ⊥
too-far-down nodes steps down whole far at = absurd (omega (arith, far, at.gone, at.few))

pub too-far-up : (nodes : List Node) (steps : ℕ) (above link : Option NodeId) (whole : Heap) → 18_446_744_073_709_551_615 ≤ steps → IsLeft nodes steps above link whole → ⊥
too-far-up nodes steps above link whole far at = absurd (omega (arith, far, at.climbed))

pub turn : (nodes : List Node) (down : Descent) (whole : Heap) → (down.first ≡ None) ⊎ (down.second ≡ None) → SomeAreLeft nodes down whole →
    IsLeft nodes 0 down.spine (option_or down.first down.second) whole
turn nodes down whole done at = elim done [
  | inl first ↦ turn-first nodes at.0 down whole first at.1
  | inr second ↦ turn-second nodes at.0 down whole second at.1
]
