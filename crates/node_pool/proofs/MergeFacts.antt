-- A merge, step by step.
use Rattle.std.proofs.Common.{◌≡◌, ◌∙◌, ℕ, ◌+◌, ◌<◌, ◌≤◌, ℤ, Bool, true, false, ◌==◌, if◌then◌else◌, List, ◌∷◌, length, slice_set, refl, sym, subst, ap, arith, Option, Some, None}
use Rattle.std.proofs.lemmas.List.{length-set}
use Rattle.node_pool.specs.declared.heap.Descent.{Descent}
use Rattle.node_pool.specs.declared.node.Links.{Links}
use Rattle.node_pool.specs.declared.node.Node.{Node}
use Rattle.node_pool.specs.declared.node.NodeId.{NodeId}
use Rattle.node_pool.specs.Heap.{AreHung, AreLeft, AreLinked, Empty, Fork, Frame, Heap, LeadsTo, comes_before, fork, frames_occur, frames_size, key_of, merged, node_at, occurs, rebuilt, size, spine, top, top_frame, with_links}
use Rattle.node_pool.proofs.HeapFacts.{at-same, hung-set, linked-set}

-- a number that stands once stands nowhere else
pub record Alone (above left right other : ℕ) : Type 0 where
  pub above_none : above ≡ 0
  pub left_none : left ≡ 0
  pub right_none : right ≡ 0
  pub other_none : other ≡ 0

alone : (number above left right other : ℕ) → above + (((if number == number then 1 else 0) + (left + right)) + other) ≤ 1 → Alone above left right other
alone number above left right other h =
    let here : (number == number) ≡ true = grind arith in
    let P : Bool → Type 0 = λ b. above + (((if b then 1 else 0) + (left + right)) + other) ≤ 1 in
    let all : above + ((1 + (left + right)) + other) ≤ 1 = subst P here h in
    record { above_none = omega (arith, all); left_none = omega (arith, all); right_none = omega (arith, all); other_none = omega (arith, all) }

-- nodes with one of them on the way up
abbrev pub hung_nodes : List Node → ℕ → Option NodeId → List Node
hung_nodes nodes number above = with_links nodes number (record (node_at nodes number).links { right = above })

pub record GoneDown (nodes : List Node) (frames : List Frame) (number : ℕ) (key : ℤ) (left right other : Heap) : Type 0 where
  pub hung : AreHung (hung_nodes nodes number (top_frame frames)) (record { number = number; key = key; left = left } ∷ frames)
  pub right_linked : AreLinked (hung_nodes nodes number (top_frame frames)) right
  pub other_linked : AreLinked (hung_nodes nodes number (top_frame frames)) other
  pub right_is : (node_at nodes number).links.right ≡ top right

gone : (nodes : List Node) (frames : List Frame) (number : ℕ) (key : ℤ) (left right other : Heap) → AreHung nodes frames → AreLinked nodes (Fork number key left right) →
    AreLinked nodes other → Alone (frames_occur frames number) (occurs left number) (occurs right number) (occurs other number) → GoneDown nodes frames number key left right other
gone nodes frames number key left right other hung linked others is =
    let node : Node = record (node_at nodes number) { links = record (node_at nodes number).links { right = top_frame frames } } in
    let here : node_at (slice_set nodes number node) number ≡ node = at-same nodes number node linked.0.there in
    record {
      hung = (
        record {
          there = omega (arith, length-set nodes number node, linked.0.there);
          waits = ap (λ (n : Node). n.state) here ∙ linked.0.waits;
          left_is = ap (λ (n : Node). n.links.left) here ∙ ap (λ (l : Links). l.left) linked.0.links;
          above_is = ap (λ (n : Node). n.links.right) here;
          linked = linked-set nodes number node left is.left_none linked.1.0;
        },
        hung-set nodes number node frames is.above_none hung,
      );
      right_linked = linked-set nodes number node right is.right_none linked.1.1;
      other_linked = linked-set nodes number node other is.other_none others;
      right_is = ap (λ (l : Links). l.right) linked.0.links;
    }

once_first : (f own l r o : ℕ) → f + ((own + (l + r)) + o) ≤ 1 → (own + (l + f)) + (r + o) ≤ 1
once_first f own l r o h = omega (arith, h)

once_second : (f own l r o : ℕ) → f + (o + (own + (l + r))) ≤ 1 → (own + (l + f)) + (o + r) ≤ 1
once_second f own l r o h = omega (arith, h)

swap_once : (f own l r o : ℕ) → f + (o + (own + (l + r))) ≤ 1 → f + ((own + (l + r)) + o) ≤ 1
swap_once f own l r o h = omega (arith, h)

same_node : (node : NodeId) (number : ℕ) (link : Option NodeId) → link ≡ Some node → link ≡ Some (record { 0 = number }) → node ≡ record { 0 = number }
same_node node number link h e = cc

key_by : (nodes : List Node) (number : ℕ) (key : ℤ) (left right : Heap) → AreLinked nodes (Fork number key left right) → key_of (node_at nodes number).state ≡ key
key_by nodes number key left right linked = ap key_of linked.0.waits

-- the lesser top is the first
first_by : (nodes : List Node) (steps : ℕ) (down : Descent) (whole : Heap) (node other : NodeId) (frames : List Frame) (one two : Heap) →
    down.first ≡ Some node → down.second ≡ Some other → down.spine ≡ top_frame frames → AreHung nodes frames → LeadsTo nodes down.first one → LeadsTo nodes down.second two →
    ((number : ℕ) → frames_occur frames number + (occurs one number + occurs two number) ≤ 1) → frames_size frames + (size one + size two) ≤ 4_294_967_295 →
    steps ≤ frames_size frames → rebuilt frames (merged one two) ≡ whole →
    comes_before node.0 (key_of (node_at nodes node.0).state) other.0 (key_of (node_at nodes other.0).state) ≡ true →
    AreLeft (hung_nodes nodes node.0 down.spine) (steps + 1) (record { spine = Some node; first = (node_at nodes node.0).links.right; second = down.second }) whole
first_by nodes steps down whole node other frames Empty two first second spine hung lead leads once few so whole_is before =
    let bad : Some node ≡ None = sym first ∙ lead.top_is in absurd (cc)
first_by nodes steps down whole node other frames (Fork number key left right) Empty first second spine hung lead leads once few so whole_is before =
    let bad : Some other ≡ None = sym second ∙ leads.top_is in absurd (cc)
first_by nodes steps down whole node other frames (Fork number key left right) (Fork m mkey l r) first second spine hung lead leads once few so whole_is before =
    let own : node ≡ record { 0 = number } = same_node node number down.first first lead.top_is in
    let others : other ≡ record { 0 = m } = same_node other m down.second second leads.top_is in
    let is : Alone (frames_occur frames number) (occurs left number) (occurs right number) (occurs (Fork m mkey l r) number) =
    alone number (frames_occur frames number) (occurs left number) (occurs right number) (occurs (Fork m mkey l r) number) (once number) in
    let down_now : GoneDown nodes frames number key left right (Fork m mkey l r) = gone nodes frames number key left right (Fork m mkey l r) hung lead.linked leads.linked is in
    let test : comes_before number key m mkey ≡ true =
    ap (λ (k : ℤ). comes_before number k m mkey) (sym (key_by nodes number key left right lead.linked))
    ∙ ap (λ (k : ℤ). comes_before number (key_of (node_at nodes number).state) m k) (sym (key_by nodes m mkey l r leads.linked))
    ∙ ap (λ (n : NodeId). comes_before n.0 (key_of (node_at nodes n.0).state) m (key_of (node_at nodes m).state)) (sym own)
    ∙ ap (λ (n : NodeId). comes_before node.0 (key_of (node_at nodes node.0).state) n.0 (key_of (node_at nodes n.0).state)) (sym others) ∙ before in
    let P : NodeId → Type 0 = λ n. AreLeft (hung_nodes nodes n.0 down.spine) (steps + 1) (record { spine = Some n; first = (node_at nodes n.0).links.right; second = down.second }) whole in
    let Q : Option NodeId → Type 0 = λ s. AreLeft (hung_nodes nodes number s) (steps + 1) (record { spine = Some (record { 0 = number }); first = (node_at nodes number).links.right; second = down.second }) whole in
    subst P (sym own) (subst Q (sym spine) (record {
      frames = record { number = number; key = key; left = left } ∷ frames;
      one = right;
      other = Fork m mkey l r;
      spine_is = refl;
      hung = down_now.hung;
      first_leads = record { top_is = down_now.right_is; linked = down_now.right_linked };
      second_leads = record { top_is = leads.top_is; linked = down_now.other_linked };
      once = λ i. once_first (frames_occur frames i) (if number == i then 1 else 0) (occurs left i) (occurs right i) (occurs (Fork m mkey l r) i) (once i);
      few = omega (arith, few);
      gone = omega (arith, so);
      whole_is =
          ap (λ (b : Bool). rebuilt frames (if b then fork number key left (merged right (Fork m mkey l r)) else fork m mkey l (merged (Fork number key left right) r))) (sym test)
          ∙ whole_is;
    }))

second_by : (nodes : List Node) (steps : ℕ) (down : Descent) (whole : Heap) (node other : NodeId) (frames : List Frame) (one two : Heap) →
    down.first ≡ Some node → down.second ≡ Some other → down.spine ≡ top_frame frames → AreHung nodes frames → LeadsTo nodes down.first one → LeadsTo nodes down.second two →
    ((number : ℕ) → frames_occur frames number + (occurs one number + occurs two number) ≤ 1) → frames_size frames + (size one + size two) ≤ 4_294_967_295 →
    steps ≤ frames_size frames → rebuilt frames (merged one two) ≡ whole →
    comes_before node.0 (key_of (node_at nodes node.0).state) other.0 (key_of (node_at nodes other.0).state) ≡ false →
    AreLeft (hung_nodes nodes other.0 down.spine) (steps + 1) (record { spine = Some other; first = down.first; second = (node_at nodes other.0).links.right }) whole
second_by nodes steps down whole node other frames Empty two first second spine hung lead leads once few so whole_is before =
    let bad : Some node ≡ None = sym first ∙ lead.top_is in absurd (cc)
second_by nodes steps down whole node other frames (Fork number key left right) Empty first second spine hung lead leads once few so whole_is before =
    let bad : Some other ≡ None = sym second ∙ leads.top_is in absurd (cc)
second_by nodes steps down whole node other frames (Fork number key left right) (Fork m mkey l r) first second spine hung lead leads once few so whole_is before =
    let own : node ≡ record { 0 = number } = same_node node number down.first first lead.top_is in
    let others : other ≡ record { 0 = m } = same_node other m down.second second leads.top_is in
    let one : Heap = Fork number key left right in
    let is : Alone (frames_occur frames m) (occurs l m) (occurs r m) (occurs one m) =
    alone m (frames_occur frames m) (occurs l m) (occurs r m) (occurs one m)
    (swap_once (frames_occur frames m) (if m == m then 1 else 0) (occurs l m) (occurs r m) (occurs one m) (once m)) in
    let down_now : GoneDown nodes frames m mkey l r one = gone nodes frames m mkey l r one hung leads.linked lead.linked is in
    let test : comes_before number key m mkey ≡ false =
    ap (λ (k : ℤ). comes_before number k m mkey) (sym (key_by nodes number key left right lead.linked))
    ∙ ap (λ (k : ℤ). comes_before number (key_of (node_at nodes number).state) m k) (sym (key_by nodes m mkey l r leads.linked))
    ∙ ap (λ (n : NodeId). comes_before n.0 (key_of (node_at nodes n.0).state) m (key_of (node_at nodes m).state)) (sym own)
    ∙ ap (λ (n : NodeId). comes_before node.0 (key_of (node_at nodes node.0).state) n.0 (key_of (node_at nodes n.0).state)) (sym others) ∙ before in
    let P : NodeId → Type 0 = λ n. AreLeft (hung_nodes nodes n.0 down.spine) (steps + 1) (record { spine = Some n; first = down.first; second = (node_at nodes n.0).links.right }) whole in
    let Q : Option NodeId → Type 0 = λ s. AreLeft (hung_nodes nodes m s) (steps + 1) (record { spine = Some (record { 0 = m }); first = down.first; second = (node_at nodes m).links.right }) whole in
    subst P (sym others) (subst Q (sym spine) (record {
      frames = record { number = m; key = mkey; left = l } ∷ frames;
      one = one;
      other = r;
      spine_is = refl;
      hung = down_now.hung;
      first_leads = record { top_is = lead.top_is; linked = down_now.other_linked };
      second_leads = record { top_is = down_now.right_is; linked = down_now.right_linked };
      once = λ i. once_second (frames_occur frames i) (if m == i then 1 else 0) (occurs l i) (occurs r i) (occurs one i) (once i);
      few = omega (arith, few);
      gone = omega (arith, so);
      whole_is =
          ap (λ (b : Bool). rebuilt frames (if b then fork number key left (merged right (Fork m mkey l r)) else fork m mkey l (merged (Fork number key left right) r))) (sym test)
          ∙ whole_is;
    }))

pub first-down : (nodes : List Node) (steps : ℕ) (down : Descent) (whole : Heap) (node other : NodeId) → down.first ≡ Some node → down.second ≡ Some other →
    AreLeft nodes steps down whole → comes_before node.0 (key_of (node_at nodes node.0).state) other.0 (key_of (node_at nodes other.0).state) ≡ true →
    AreLeft (hung_nodes nodes node.0 down.spine) (steps + 1) (record { spine = Some node; first = (node_at nodes node.0).links.right; second = down.second }) whole
first-down nodes steps down whole node other first second at before =
    first_by nodes steps down whole node other at.frames at.one at.other first second at.spine_is at.hung at.first_leads at.second_leads at.once at.few at.gone at.whole_is before

pub second-down : (nodes : List Node) (steps : ℕ) (down : Descent) (whole : Heap) (node other : NodeId) → down.first ≡ Some node → down.second ≡ Some other →
    AreLeft nodes steps down whole → comes_before node.0 (key_of (node_at nodes node.0).state) other.0 (key_of (node_at nodes other.0).state) ≡ false →
    AreLeft (hung_nodes nodes other.0 down.spine) (steps + 1) (record { spine = Some other; first = down.first; second = (node_at nodes other.0).links.right }) whole
second-down nodes steps down whole node other first second at before =
    second_by nodes steps down whole node other at.frames at.one at.other first second at.spine_is at.hung at.first_leads at.second_leads at.once at.few at.gone at.whole_is before

-- the top of a heap is a node
top_there : (nodes : List Node) (heap : Heap) (link : Option NodeId) (node : NodeId) → LeadsTo nodes link heap → link ≡ Some node → node.0 < length nodes
top_there nodes Empty link node leads h = let bad : Some node ≡ None = sym h ∙ leads.top_is in absurd (cc)
top_there nodes (Fork number key left right) link node leads h =
    let own : node ≡ record { 0 = number } = same_node node number link h leads.top_is in
    rw own leads.linked.0.there

pub first-there : (nodes : List Node) (steps : ℕ) (down : Descent) (whole : Heap) (node : NodeId) → AreLeft nodes steps down whole → down.first ≡ Some node → node.0 < length nodes
first-there nodes steps down whole node at h = top_there nodes at.one down.first node at.first_leads h

pub second-there : (nodes : List Node) (steps : ℕ) (down : Descent) (whole : Heap) (node : NodeId) → AreLeft nodes steps down whole → down.second ≡ Some node → node.0 < length nodes
second-there nodes steps down whole node at h = top_there nodes at.other down.second node at.second_leads h
