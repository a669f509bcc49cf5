-- The queue of nodes that wait.
use Rattle.std.proofs.Common.{◌≡◌, ◌≢◌, ◌∙◌, ◌⊎◌, ℕ, zero, suc, ◌+◌, ◌-◌, ◌<◌, ◌≤◌, ℤ, ◌<ℤ◌, Bool, true, false, ◌==◌, if◌then◌else◌, List, [], ◌∷◌, ◌++◌, length, slice_set, get_or, refl, sym, subst, ap, arith, Option, Some, None, inl, inr, length-append}
use Rattle.std.proofs.Math.ListN.{get_or-append, get_or-map}
use Rattle.std.proofs.Math.Seq.{get_or-append_right}
use Rattle.std.proofs.lemmas.Bool.{cases_lt}
use Rattle.std.proofs.lemmas.List.{ext_get_or, get_or_past, length-map, length-set, map-set}
use Rattle.node_pool.specs.declared.node.Links.{Links}
use Rattle.node_pool.specs.declared.node.Node.{Node}
use Rattle.node_pool.specs.declared.node.NodeId.{NodeId}
use Rattle.node_pool.specs.declared.node.State.{State}
use Rattle.node_pool.specs.declared.node.State.TheVariants as state
use Rattle.node_pool.specs.Heap.{AreApart, AreLinked, Empty, Fork, Heap, IsAbove, IsLeftist, IsOrdered, KeepsNodes, LeadsTo, lone_links, merged, no_node, node_at, occurs, size, top}
use Rattle.node_pool.specs.Pool.{IsLeast, NoneWaits, state_at, with_state}
use Rattle.node_pool.specs.Queue.{IsQueue, states_of, times_waiting, with_node_state}
use Rattle.node_pool.proofs.HeapFacts.{at-other, at-same, leads-set, linked-set}
use Rattle.node_pool.proofs.MergedFacts.{leftist-merged, occurs-merged, ordered-merged, size-merged}
use Rattle.node_pool.proofs.OrderFacts.{IsBefore, before-means}

-- states, node by node
own_state : Node → State
own_state node = node.state

pub state-at : (nodes : List Node) (number : ℕ) → state_at (states_of nodes) number ≡ (node_at nodes number).state
state-at nodes number = get_or-map (λ (node : Node). node.state) nodes number no_node

pub states-kept : (old new : List Node) → KeepsNodes old new → states_of new ≡ states_of old
states-kept old new kept =
    ext_get_or state.InHand (states_of new) (states_of old)
    (length-map new (λ (node : Node). node.state) ∙ kept.count ∙ sym (length-map old (λ (node : Node). node.state)))
    (λ i inside. state-at new i ∙ kept.states i ∙ sym (state-at old i))

pub states-set : (nodes : List Node) (number : ℕ) (node : Node) → states_of (slice_set nodes number node) ≡ with_state (states_of nodes) number node.state
states-set nodes number node = map-set (λ (n : Node). n.state) nodes number node

-- the first comes before all that wait
same_key : (a b : ℤ) → state.Waiting a ≡ state.Waiting b → a ≡ b
same_key a b h = cc

in_one : (l r : ℕ) → 1 ≤ l + r → (1 ≤ l) ⊎ (1 ≤ r)
in_one zero r h = inr (omega (arith, h))
in_one (suc l) r h = inl (omega arith)

above_by : (x : ℕ) (k : ℤ) (nodes : List Node) (number : ℕ) (key : ℤ) (left right : Heap) (other : ℕ) (other_key : ℤ) →
    IsAbove x k (Fork number key left right) → AreLinked nodes (Fork number key left right) → (node_at nodes other).state ≡ state.Waiting other_key →
    (1 ≤ occurs left other → IsBefore x k other other_key) → (1 ≤ occurs right other → IsBefore x k other other_key) →
    (b : Bool) → (number == other) ≡ b → 1 ≤ (if b then 1 else 0) + (occurs left other + occurs right other) → IsBefore x k other other_key
above_by x k nodes number key left right other other_key above linked waits in_left in_right true e h =
    let same : number ≡ other = grind (arith, e) in
    let key_is : key ≡ other_key = same_key key other_key (sym linked.0.waits ∙ ap (λ (n : ℕ). (node_at nodes n).state) same ∙ waits) in
    let P : ℕ → Type 0 = λ n. IsBefore x k n other_key in
    let Q : ℤ → Type 0 = λ z. IsBefore x k number z in
    subst P same (subst Q key_is (before-means x number k key above.0))
above_by x k nodes number key left right other other_key above linked waits in_left in_right false e h =
    elim (in_one (occurs left other) (occurs right other) (omega (arith, h))) [ inl l ↦ in_left l | inr r ↦ in_right r ]

above-all : (x : ℕ) (k : ℤ) (nodes : List Node) (heap : Heap) (other : ℕ) (other_key : ℤ) → IsAbove x k heap → AreLinked nodes heap → 1 ≤ occurs heap other →
    (node_at nodes other).state ≡ state.Waiting other_key → IsBefore x k other other_key
above-all x k nodes Empty other other_key above linked some waits = absurd (omega arith)
above-all x k nodes (Fork number key left right) other other_key above linked some waits =
    above_by x k nodes number key left right other other_key above linked waits
    (λ h. above-all x k nodes left other other_key above.1.0 linked.1.0 h waits) (λ h. above-all x k nodes right other other_key above.1.1 linked.1.1 h waits)
    (number == other) refl some

-- what taking the first leaves
pub record Taken (nodes after : List Node) (first : NodeId) (links : Links) (count : ℕ) : Type 0 where
  pub some : 1 ≤ count
  pub apart : AreApart after links.left links.right
  pub rest : (new : List Node) (result : Option NodeId) → KeepsNodes after new → LeadsTo new result (merged apart.one apart.other) →
      IsQueue new result (count - 1)
  pub least : IsLeast (states_of nodes) first.0

same_first : (first : NodeId) (number : ℕ) → Some first ≡ Some (record { 0 = number }) → first ≡ record { 0 = number }
same_first first number h = cc

at_most_once : (s : State) → times_waiting s ≤ 1
at_most_once (state.Waiting key) = omega arith
at_most_once state.InHand = omega arith
at_most_once (state.Closed leaf) = omega arith
at_most_once (state.Split line at left right) = omega arith

none_else : (number l r : ℕ) (s : State) → (if number == number then 1 else 0) + (l + r) ≡ times_waiting s → (l ≡ 0) × (r ≡ 0)
none_else number l r s h =
    let here : (number == number) ≡ true = grind arith in
    let P : Bool → Type 0 = λ b. (if b then 1 else 0) + (l + r) ≡ times_waiting s in
    let all : 1 + (l + r) ≡ times_waiting s = subst P here h in
    let one : times_waiting s ≤ 1 = at_most_once s in
    (omega (arith, all, one), omega (arith, all, one))

taken_once : (nodes : List Node) (number i l r : ℕ) (b : Bool) → (number == i) ≡ b → number < length nodes → (if b then 1 else 0) + (l + r) ≡ times_waiting (node_at nodes i).state →
    (b ≡ true → (l ≡ 0) × (r ≡ 0)) → l + r ≡ times_waiting (node_at (with_node_state nodes number state.InHand) i).state
taken_once nodes number i l r true e there h none =
    let same : number ≡ i = grind (arith, e) in
    let P : ℕ → Type 0 = λ n. l + r ≡ times_waiting (node_at (with_node_state nodes number state.InHand) n).state in
    let here : node_at (with_node_state nodes number state.InHand) number ≡ record (node_at nodes number) { state = state.InHand } =
    at-same nodes number (record (node_at nodes number) { state = state.InHand }) there in
    let empty : l + r ≡ 0 = (let z = none refl in omega (arith, z.0, z.1)) in
    subst P same (empty ∙ sym (ap (λ (n : Node). times_waiting n.state) here))
taken_once nodes number i l r false e there h none =
    let other : number ≢ i = (λ same. absurd (grind (arith, e, same))) in
    let here : node_at (with_node_state nodes number state.InHand) i ≡ node_at nodes i = at-other nodes number i (record (node_at nodes number) { state = state.InHand }) other in
    let sum : l + r ≡ times_waiting (node_at nodes i).state = zero_plus (l + r) (times_waiting (node_at nodes i).state) h in
    sum ∙ sym (ap (λ (n : Node). times_waiting n.state) here)
  where
    zero_plus : (n m : ℕ) → 0 + n ≡ m → n ≡ m
    zero_plus n m h = omega (arith, h)

none_at : (number i l r : ℕ) (nodes : List Node) (once : (if number == number then 1 else 0) + (l + r) ≡ times_waiting (node_at nodes number).state) → (l ≡ 0) × (r ≡ 0)
none_at number i l r nodes once = none_else number l r (node_at nodes number).state once

moved : (left right : Heap) (number i : ℕ) → (number == i) ≡ true → (occurs left number ≡ 0) × (occurs right number ≡ 0) → (occurs left i ≡ 0) × (occurs right i ≡ 0)
moved left right number i e none =
    let same : number ≡ i = grind (arith, e) in
    (ap (λ (n : ℕ). occurs left n) (sym same) ∙ none.0, ap (λ (n : ℕ). occurs right n) (sym same) ∙ none.1)

sum_once : (l r : ℕ) (s : State) → l + r ≡ times_waiting s → l + r ≤ 1
sum_once l r s h = let one : times_waiting s ≤ 1 = at_most_once s in omega (arith, h, one)

or_equal : (number other : ℕ) (key other_key : ℤ) → IsBefore number key other other_key → (key <ℤ other_key) ⊎ ((key ≡ other_key) × (number ≤ other))
or_equal number other key other_key (inl less) = inl less
or_equal number other key other_key (inr same) = inr (same.0, omega (arith, same.1))

least_by : (nodes : List Node) (number : ℕ) (key : ℤ) (left right : Heap) (other : ℕ) (other_key : ℤ) → IsOrdered (Fork number key left right) → AreLinked nodes (Fork number key left right) →
    (node_at nodes other).state ≡ state.Waiting other_key → (b : Bool) → (number == other) ≡ b →
    (if b then 1 else 0) + (occurs left other + occurs right other) ≡ times_waiting (node_at nodes other).state → (key <ℤ other_key) ⊎ ((key ≡ other_key) × (number ≤ other))
least_by nodes number key left right other other_key ordered linked waits true e once =
    let same : number ≡ other = grind (arith, e) in
    inr (same_key key other_key (sym linked.0.waits ∙ ap (λ (n : ℕ). (node_at nodes n).state) same ∙ waits), omega (arith, same))
least_by nodes number key left right other other_key ordered linked waits false e once =
    let count : times_waiting (node_at nodes other).state ≡ 1 = ap times_waiting waits in
    let some : 1 ≤ occurs left other + occurs right other = omega (arith, once, count) in
    or_equal number other key other_key
    (elim (in_one (occurs left other) (occurs right other) some) [
      | inl l ↦ above-all number key nodes left other other_key ordered.0.0 linked.1.0 l waits
      | inr r ↦ above-all number key nodes right other other_key ordered.0.1 linked.1.1 r waits
    ])

take_by : (nodes : List Node) (first : NodeId) (count : ℕ) (heap : Heap) → LeadsTo nodes (Some first) heap → IsOrdered heap → IsLeftist heap →
    ((number : ℕ) → occurs heap number ≡ times_waiting (node_at nodes number).state) → size heap ≡ count → count ≤ 4_294_967_295 → Taken nodes (with_node_state nodes first.0 state.InHand) first (node_at nodes first.0).links count
take_by nodes first count Empty leads ordered leftist once count_is few = let bad : Some first ≡ None = leads.top_is in absurd (cc)
take_by nodes first count (Fork number key left right) leads ordered leftist once count_is few =
    let own : first ≡ record { 0 = number } = same_first first number leads.top_is in
    let linked : AreLinked nodes (Fork number key left right) = leads.linked in
    let P : NodeId → Type 0 = λ n. Taken nodes (with_node_state nodes n.0 state.InHand) n (node_at nodes n.0).links count in
    let node : Node = record (node_at nodes number) { state = state.InHand } in
    let after : List Node = with_node_state nodes number state.InHand in
    let none : (occurs left number ≡ 0) × (occurs right number ≡ 0) = none_else number (occurs left number) (occurs right number) (node_at nodes number).state (once number) in
    let left_of : (i : ℕ) → occurs left i + occurs right i ≡ times_waiting (node_at after i).state =
    (λ i. taken_once nodes number i (occurs left i) (occurs right i) (number == i) refl linked.0.there (once i) (λ e. moved left right number i e none)) in
    let disjoint : (i : ℕ) → occurs left i + occurs right i ≤ 1 = (λ i. sum_once (occurs left i) (occurs right i) (node_at after i).state (left_of i)) in
    subst P (sym own) (record {
      some = omega (arith, count_is);
      apart = record {
        one = left;
        other = right;
        first_leads = record { top_is = ap (λ (l : Links). l.left) linked.0.links; linked = linked-set nodes number node left none.0 linked.1.0 };
        second_leads = record { top_is = ap (λ (l : Links). l.right) linked.0.links; linked = linked-set nodes number node right none.1 linked.1.1 };
        once = disjoint;
        few = omega (arith, count_is, few);
      };
      rest = λ new result kept leads_new. record {
        heap = merged left right;
        leads = leads_new;
        ordered = ordered-merged left right ordered.1.0 ordered.1.1 disjoint;
        leftist = leftist-merged left right leftist.1.0 leftist.1.1;
        once = λ i. occurs-merged i left right ∙ left_of i ∙ ap times_waiting (sym (kept.states i));
        count_is = size-merged left right ∙ omega (arith, count_is);
      };
      least = record {
        key = key;
        waits = state-at nodes number ∙ linked.0.waits;
        least = λ other other_key waits.
            least_by nodes number key left right other other_key ordered linked (sym (state-at nodes other) ∙ waits) (number == other) refl (once other);
      };
    })

pub take-first : (nodes after : List Node) (first : NodeId) (links : Links) (count : ℕ) → after ≡ with_node_state nodes first.0 state.InHand → links ≡ (node_at nodes first.0).links →
    count ≤ 4_294_967_295 → IsQueue nodes (Some first) count → Taken nodes after first links count
take-first nodes after first links count after_is links_are few queue =
    let P : List Node → Type 0 = λ ns. Taken nodes ns first links count in
    let Q : Links → Type 0 = λ l. Taken nodes (with_node_state nodes first.0 state.InHand) first l count in
    subst P (sym after_is) (subst Q (sym links_are) (take_by nodes first count queue.heap queue.leads queue.ordered queue.leftist queue.once queue.count_is few))

-- a node's state changes that isn't waiting and doesn't come to wait
set_once : (nodes : List Node) (number i : ℕ) (node : Node) (o : ℕ) (b : Bool) → (number == i) ≡ b → number < length nodes → times_waiting (node_at nodes number).state ≡ 0 →
    times_waiting node.state ≡ 0 → o ≡ times_waiting (node_at nodes i).state → o ≡ times_waiting (node_at (slice_set nodes number node) i).state
set_once nodes number i node o true e there old new h =
    let same : number ≡ i = grind (arith, e) in
    let here : node_at (slice_set nodes number node) i ≡ node = ap (λ (n : ℕ). node_at (slice_set nodes number node) n) (sym same) ∙ at-same nodes number node there in
    h ∙ ap (λ (n : ℕ). times_waiting (node_at nodes n).state) (sym same) ∙ old ∙ sym (ap (λ (n : Node). times_waiting n.state) here ∙ new)
set_once nodes number i node o false e there old new h =
    let other : number ≢ i = (λ same. absurd (grind (arith, e, same))) in
    h ∙ sym (ap (λ (n : Node). times_waiting n.state) (at-other nodes number i node other))

not_there : (o : ℕ) (s : State) → o ≡ times_waiting s → times_waiting s ≡ 0 → o ≡ 0
not_there o s h none = h ∙ none

pub queue-set : (nodes : List Node) (number : ℕ) (node : Node) (link : Option NodeId) (count : ℕ) → number < length nodes → times_waiting (node_at nodes number).state ≡ 0 →
    times_waiting node.state ≡ 0 → IsQueue nodes link count → IsQueue (slice_set nodes number node) link count
queue-set nodes number node link count there old new queue = record {
  heap = queue.heap;
  leads = leads-set nodes number node link queue.heap (not_there (occurs queue.heap number) (node_at nodes number).state (queue.once number) old) queue.leads;
  ordered = queue.ordered;
  leftist = queue.leftist;
  once = λ i. set_once nodes number i node (occurs queue.heap i) (number == i) refl there old new (queue.once i);
  count_is = queue.count_is;
}

-- a node comes to wait
abbrev pub lone_node : List Node → ℕ → ℤ → Node
lone_node nodes number key = record (node_at nodes number) { state = state.Waiting key; links = lone_links }

pub record Inserts (after : List Node) (link : Option NodeId) (number : ℕ) (count : ℕ) : Type 0 where
  pub apart : AreApart after link (Some (record { 0 = number }))
  pub all : (new : List Node) (result : Option NodeId) → KeepsNodes after new →
      LeadsTo new result (merged apart.one apart.other) → IsQueue new result (count + 1)

lone_once : (nodes : List Node) (number i : ℕ) (key : ℤ) (o : ℕ) (b : Bool) → (number == i) ≡ b → number < length nodes → times_waiting (node_at nodes number).state ≡ 0 →
    o ≡ times_waiting (node_at nodes i).state → o + ((if b then 1 else 0) + (0 + 0)) ≡ times_waiting (node_at (slice_set nodes number (lone_node nodes number key)) i).state
lone_once nodes number i key o true e there old h =
    let same : number ≡ i = grind (arith, e) in
    let node : Node = lone_node nodes number key in
    let here : node_at (slice_set nodes number node) i ≡ node = ap (λ (n : ℕ). node_at (slice_set nodes number node) n) (sym same) ∙ at-same nodes number node there in
    let none : o ≡ 0 = h ∙ ap (λ (n : ℕ). times_waiting (node_at nodes n).state) (sym same) ∙ old in
    omega (arith, none) ∙ sym (ap (λ (n : Node). times_waiting n.state) here)
lone_once nodes number i key o false e there old h =
    let other : number ≢ i = (λ same. absurd (grind (arith, e, same))) in
    let node : Node = lone_node nodes number key in
    omega arith ∙ h ∙ sym (ap (λ (n : Node). times_waiting n.state) (at-other nodes number i node other))

pub insert-one : (nodes now : List Node) (link : Option NodeId) (number : ℕ) (key : ℤ) (count : ℕ) → now ≡ slice_set nodes number (lone_node nodes number key) →
    count < 4_294_967_295 → number < length nodes → times_waiting (node_at nodes number).state ≡ 0 → IsQueue nodes link count → Inserts now link number count
insert-one nodes now link number key count now_is few there out queue =
    let node : Node = lone_node nodes number key in
    let after : List Node = slice_set nodes number node in
    let P : List Node → Type 0 = λ ns. Inserts ns link number count in
    let here : node_at after number ≡ node = at-same nodes number node there in
    let alone : Heap = Fork number key Empty Empty in
    let once : (i : ℕ) → occurs queue.heap i + occurs alone i ≡ times_waiting (node_at after i).state =
    (λ i. lone_once nodes number i key (occurs queue.heap i) (number == i) refl there out (queue.once i)) in
    let disjoint : (i : ℕ) → occurs queue.heap i + occurs alone i ≤ 1 = (λ i. sum_once (occurs queue.heap i) (occurs alone i) (node_at after i).state (once i)) in
    subst P (sym now_is) (record {
      apart = record {
        one = queue.heap;
        other = alone;
        first_leads = leads-set nodes number node link queue.heap (not_there (occurs queue.heap number) (node_at nodes number).state (queue.once number) out) queue.leads;
        second_leads = record {
          top_is = refl;
          linked = (
            record {
              there = omega (arith, length-set nodes number node, there);
              waits = ap (λ (n : Node). n.state) here;
              links = ap (λ (n : Node). n.links) here;
            },
            (tt, tt),
          );
        };
        once = disjoint;
        few = omega (arith, queue.count_is, few);
      };
      all = λ new result kept leads_new. record {
        heap = merged queue.heap alone;
        leads = leads_new;
        ordered = ordered-merged queue.heap alone queue.ordered ((tt, tt), (tt, tt)) disjoint;
        leftist = leftist-merged queue.heap alone queue.leftist (omega arith, (tt, tt));
        once = λ i. occurs-merged i queue.heap alone ∙ once i ∙ ap times_waiting (sym (kept.states i));
        count_is = size-merged queue.heap alone ∙ omega (arith, queue.count_is);
      };
    })

-- where the link leads nowhere, none waits
none_by : (nodes : List Node) (heap : Heap) (number : ℕ) (key : ℤ) → None ≡ top heap → occurs heap number ≡ times_waiting (node_at nodes number).state →
    (node_at nodes number).state ≡ state.Waiting key → ⊥
none_by nodes Empty number key none once waits =
    let count : times_waiting (node_at nodes number).state ≡ 1 = ap times_waiting waits in absurd (omega (arith, once, count))
none_by nodes (Fork own k left right) number key none once waits = let bad : None ≡ Some (record { 0 = own }) = none in absurd (cc)

pub none-waits : (nodes : List Node) (count : ℕ) → IsQueue nodes None count → NoneWaits (states_of nodes)
none-waits nodes count queue number key waits = none_by nodes queue.heap number key queue.leads.top_is (queue.once number) (sym (state-at nodes number) ∙ waits)

-- one node more, which doesn't wait
at_more : (nodes : List Node) (node : Node) (i : ℕ) → i < length nodes → node_at (nodes ++ node ∷ []) i ≡ node_at nodes i
at_more nodes node i inside = get_or-append nodes (node ∷ []) no_node i inside

inside_by : (nodes : List Node) (own number l r : ℕ) → own < length nodes → (1 ≤ l → number < length nodes) → (1 ≤ r → number < length nodes) → (b : Bool) → (own == number) ≡ b →
    1 ≤ (if b then 1 else 0) + (l + r) → number < length nodes
inside_by nodes own number l r there left right true e h = let same : own ≡ number = grind (arith, e) in omega (arith, same, there)
inside_by nodes own number l r there left right false e h = elim (in_one l r (omega (arith, h))) [ inl x ↦ left x | inr y ↦ right y ]

linked_inside : (nodes : List Node) (heap : Heap) (number : ℕ) → AreLinked nodes heap → 1 ≤ occurs heap number → number < length nodes
linked_inside nodes Empty number linked some = absurd (omega arith)
linked_inside nodes (Fork own key left right) number linked some =
    inside_by nodes own number (occurs left number) (occurs right number) linked.0.there (λ h. linked_inside nodes left number linked.1.0 h)
    (λ h. linked_inside nodes right number linked.1.1 h) (own == number) refl some

linked_more : (nodes : List Node) (node : Node) (heap : Heap) → AreLinked nodes heap → AreLinked (nodes ++ node ∷ []) heap
linked_more nodes node Empty linked = tt
linked_more nodes node (Fork number key left right) linked =
    let here : node_at (nodes ++ node ∷ []) number ≡ node_at nodes number = at_more nodes node number linked.0.there in (
      record {
        there = omega (arith, length-append nodes (node ∷ []), linked.0.there);
        waits = ap (λ (n : Node). n.state) here ∙ linked.0.waits;
        links = ap (λ (n : Node). n.links) here ∙ linked.0.links;
      },
      (linked_more nodes node left linked.1.0, linked_more nodes node right linked.1.1),
    )

beyond : (nodes : List Node) (node : Node) (i k : ℕ) → i - length nodes ≡ k → length nodes ≤ i → times_waiting node.state ≡ 0 →
    times_waiting (node_at (nodes ++ node ∷ []) i).state ≡ 0
beyond nodes node i zero e past none =
    ap (λ (n : Node). times_waiting n.state) (get_or-append_right nodes (node ∷ []) i no_node past ∙ ap (λ (m : ℕ). get_or (node ∷ []) m no_node) e) ∙ none
beyond nodes node i (suc k) e past none =
    ap (λ (n : Node). times_waiting n.state) (get_or-append_right nodes (node ∷ []) i no_node past ∙ ap (λ (m : ℕ). get_or (node ∷ []) m no_node) e)

past_none : (nodes : List Node) (i : ℕ) → length nodes ≤ i → times_waiting (node_at nodes i).state ≡ 0
past_none nodes i past = ap (λ (n : Node). times_waiting n.state) (get_or_past nodes i no_node past)

more_once : (nodes : List Node) (node : Node) (i o : ℕ) → times_waiting node.state ≡ 0 → o ≡ times_waiting (node_at nodes i).state → (i < length nodes) ⊎ (length nodes ≤ i) →
    o ≡ times_waiting (node_at (nodes ++ node ∷ []) i).state
more_once nodes node i o none h (inl inside) = h ∙ ap (λ (n : Node). times_waiting n.state) (sym (at_more nodes node i inside))
more_once nodes node i o none h (inr past) = h ∙ past_none nodes i past ∙ sym (beyond nodes node i (i - length nodes) refl past none)

pub queue-more : (nodes : List Node) (node : Node) (link : Option NodeId) (count : ℕ) → times_waiting node.state ≡ 0 → IsQueue nodes link count → IsQueue (nodes ++ node ∷ []) link count
queue-more nodes node link count none queue = record {
  heap = queue.heap;
  leads = record { top_is = queue.leads.top_is; linked = linked_more nodes node queue.heap queue.leads.linked };
  ordered = queue.ordered;
  leftist = queue.leftist;
  once = λ i. more_once nodes node i (occurs queue.heap i) none (queue.once i) (cases_lt i (length nodes));
  count_is = queue.count_is;
}
