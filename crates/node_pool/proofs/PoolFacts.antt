-- What a pool keeps.
use Rattle.std.proofs.Common.{◌≡◌, ◌≢◌, ◌∙◌, ◌⊎◌, ℕ, zero, suc, ◌+◌, ◌-◌, ◌<◌, ◌≤◌, ℤ, pos, Bool, true, false, ◌==◌, cond, if◌then◌else◌, List, [], ◌∷◌, ◌++◌, length, slice_set, get_or, set, take, refl, sym, subst, ap, arith, Option, Some, inl, inr, length-append, append_assoc, Result}
use Rattle.std.specs.Result.{IsOk, is_ok}
use Rattle.std.proofs.Math.ListN.{get_or-append}
use Rattle.std.specs.List.{count_by}
use Rattle.std.proofs.Math.Seq.{get_or-append_right, set-append_seam, take-append_seam}
use Rattle.std.proofs.lemmas.Bool.{cases_lt}
use Rattle.std.proofs.lemmas.List.{get_or-set_other, get_or-set_same, get_or_past, length-map, length-set, map-append, map-set, set-append_left}
use Rattle.std.proofs.lemmas.List.Sums.{count_by-le-length, sum_by-append, sum_by-set}
use Rattle.node_pool.specs.declared.node.Node.{Node}
use Rattle.node_pool.specs.declared.node.NodeId.{NodeId}
use Rattle.node_pool.specs.declared.node.State.{State}
use Rattle.node_pool.specs.declared.node.State.TheVariants as state
use Rattle.node_pool.specs.Heap.{Empty, Fork, lone_links, node_at, occurs}
use Rattle.node_pool.specs.Pool.{AreChildren, IsChildOf, IsInHand, IsOneTree, IsLeast, SplitsAreWhole, is_waiting, state_at, with_state}
use Rattle.node_pool.specs.Queue.{AreParents, IsPool, IsQueue, states_of, times_waiting}
use Rattle.node_pool.proofs.HeapFacts.{at-other, at-same}
use Rattle.node_pool.proofs.QueueFacts.{queue-more, queue-set, state-at}

-- what a write to all of a list gives
pub written : (len : ℕ) (new rest : List Node) → length new ≡ len → take len (new ++ rest) ≡ new
written len new rest same = ap (λ (n : ℕ). take n (new ++ rest)) (sym same) ∙ take-append_seam new rest

pub count-kept : (old new : List Node) (number : ℕ) (s : State) → states_of new ≡ with_state (states_of old) number s → length new ≡ length old
count-kept old new number s h =
    sym (length-map new (λ (node : Node). node.state)) ∙ ap length h ∙ length-set (states_of old) number s ∙ length-map old (λ (node : Node). node.state)

-- how many wait
abbrev pub one_if : Bool → ℕ
one_if b = cond b 1 0

pub count-set : (states : List State) (number : ℕ) (s : State) → number < length states →
    count_by is_waiting (set states number s) + one_if (is_waiting (state_at states number)) ≡ count_by is_waiting states + one_if (is_waiting s)
count-set states number s there = sum_by-set (λ (t : State). cond (is_waiting t) 1 0) states number s state.InHand there

-- the splits stay whole
children_kept : (states : List State) (number : ℕ) (s : State) (own : ℕ) (left right : NodeId) → AreChildren states own left right → AreChildren (set states number s) own left right
children_kept states number s own left right are = record { later = are.later; next = are.next; there = omega (arith, are.there, length-set states number s) }

whole_by : (states : List State) (number : ℕ) (s : State) → number < length states → ((line at : ℕ) (left right : NodeId) → s ≡ state.Split line at left right → ⊥) → SplitsAreWhole states →
    (own line at : ℕ) (left right : NodeId) → state_at (set states number s) own ≡ state.Split line at left right → (b : Bool) → (own == number) ≡ b →
    AreChildren (set states number s) own left right
whole_by states number s there not_split whole own line at left right h true e =
    let same : number ≡ own = grind (arith, e) in
    let here : s ≡ state.Split line at left right =
    sym (get_or-set_same states number s state.InHand there) ∙ ap (λ (n : ℕ). state_at (set states number s) n) same ∙ h in
    absurd (not_split line at left right here)
whole_by states number s there not_split whole own line at left right h false e =
    let other : own ≢ number = (λ same. absurd (grind (arith, e, same))) in
    children_kept states number s own left right (whole own line at left right (sym (get_or-set_other states number own s state.InHand other) ∙ h))

pub whole-set : (states : List State) (number : ℕ) (s : State) → number < length states → ((line at : ℕ) (left right : NodeId) → s ≡ state.Split line at left right → ⊥) → SplitsAreWhole states →
    SplitsAreWhole (set states number s)
whole-set states number s there not_split whole own line at left right h = whole_by states number s there not_split whole own line at left right h (own == number) refl

-- a child stays one where a node changes that isn't split, before and after
child_before : (states : List State) (number : ℕ) (s : State) (child own : ℕ) → number < length states → ((line at : ℕ) (left right : NodeId) → s ≡ state.Split line at left right → ⊥) →
    IsChildOf (set states number s) child own → (b : Bool) → (own == number) ≡ b → IsChildOf states child own
child_before states number s child own there not_split is true e =
    let same : number ≡ own = grind (arith, e) in
    let here : s ≡ state.Split is.line is.at is.left is.right =
    sym (get_or-set_same states number s state.InHand there) ∙ ap (λ (n : ℕ). state_at (set states number s) n) same ∙ is.split in
    absurd (not_split is.line is.at is.left is.right here)
child_before states number s child own there not_split is false e =
    let other : own ≢ number = (λ same. absurd (grind (arith, e, same))) in
    record {
      line = is.line;
      at = is.at;
      left = is.left;
      right = is.right;
      split = sym (get_or-set_other states number own s state.InHand other) ∙ is.split;
      side = is.side;
    }

child_after : (states : List State) (number : ℕ) (s : State) (child own : ℕ) → ((line at : ℕ) (left right : NodeId) → state_at states number ≡ state.Split line at left right → ⊥) →
    IsChildOf states child own → (b : Bool) → (own == number) ≡ b → IsChildOf (set states number s) child own
child_after states number s child own was_not is true e =
    let same : own ≡ number = grind (arith, e) in
    absurd (was_not is.line is.at is.left is.right (ap (λ (n : ℕ). state_at states n) (sym same) ∙ is.split))
child_after states number s child own was_not is false e =
    let other : own ≢ number = (λ same. absurd (grind (arith, e, same))) in
    record {
      line = is.line;
      at = is.at;
      left = is.left;
      right = is.right;
      split = get_or-set_other states number own s state.InHand other ∙ is.split;
      side = is.side;
    }

parents-changed : (old new : List Node) (number : ℕ) (s : State) → states_of new ≡ with_state (states_of old) number s → number < length (states_of old) →
    ((line at : ℕ) (left right : NodeId) → s ≡ state.Split line at left right → ⊥) →
    ((line at : ℕ) (left right : NodeId) → state_at (states_of old) number ≡ state.Split line at left right → ⊥) →
    ((child : ℕ) → (node_at new child).parent ≡ (node_at old child).parent) → length new ≡ length old → AreParents old → AreParents new
parents-changed old new number s states there not_split was_not same_parents same parents =
    let P : List State → Type 0 = λ ss. (child own : ℕ) → IsChildOf ss child own → (node_at new child).parent ≡ Some (record { 0 = own }) in
    let Q : List State → Type 0 = λ ss. (child : ℕ) → 1 ≤ child → child < length new → (own : ℕ) × IsChildOf ss child own in
    record {
      told = subst P (sym states) (λ child own is.
          same_parents child ∙ parents.told child own (child_before (states_of old) number s child own there not_split is (own == number) refl));
      there = subst Q (sym states) (λ child some inside.
          (let found = parents.there child some (omega (arith, inside, same)) in
          (found.0, child_after (states_of old) number s child found.0 was_not found.1 (found.0 == number) refl)));
    }

-- one node's state changes
pub pool-changed : (old new : List Node) (link now : Option NodeId) (waiting count capacity number : ℕ) (s : State) → IsPool old link waiting capacity →
    states_of new ≡ with_state (states_of old) number s → number < length (states_of old) → ((line at : ℕ) (left right : NodeId) → s ≡ state.Split line at left right → ⊥) →
    IsQueue new now count → count + one_if (is_waiting (state_at (states_of old) number)) ≡ waiting + one_if (is_waiting s) →
    ((line at : ℕ) (left right : NodeId) → state_at (states_of old) number ≡ state.Split line at left right → ⊥) →
    ((child : ℕ) → (node_at new child).parent ≡ (node_at old child).parent) → IsPool new now count capacity
pool-changed old new link now waiting count capacity number s pool states there not_split queue sum was_not same_parents =
    let same : length new ≡ length old = count-kept old new number s states in
    let total = count-set (states_of old) number s there in
    let counted : count_by is_waiting (states_of new) ≡ count_by is_waiting (set (states_of old) number s) = ap (λ (ss : List State). count_by is_waiting ss) states in
    let P : List State → Type 0 = λ ss. SplitsAreWhole ss in
    record {
      queue = queue;
      waiting_is = omega (arith, total, sum, pool.waiting_is, counted);
      some = omega (arith, same, pool.some);
      few = omega (arith, same, pool.few);
      bounded = pool.bounded;
      whole = subst P (sym states) (whole-set (states_of old) number s there not_split pool.whole);
      parents = parents-changed old new number s states there not_split was_not same_parents same pool.parents;
    }

least_there : (states : List State) (number : ℕ) → IsLeast states number → number < length states
least_there states number least = there (cases_lt number (length states))
  where
    there : (number < length states) ⊎ (length states ≤ number) → number < length states
    there (inl inside) = inside
    there (inr past) = let out : state.InHand ≡ state.Waiting least.key = sym (get_or_past states number state.InHand past) ∙ least.waits in absurd (cc)

pub pool-taken : (old new : List Node) (first : NodeId) (now : Option NodeId) (waiting capacity : ℕ) → IsPool old (Some first) waiting capacity →
    states_of new ≡ with_state (states_of old) first.0 state.InHand → IsLeast (states_of old) first.0 → IsQueue new now (waiting - 1) → 1 ≤ waiting →
    ((child : ℕ) → (node_at new child).parent ≡ (node_at old child).parent) → IsPool new now (waiting - 1) capacity
pool-taken old new first now waiting capacity pool states least queue some same_parents =
    let was : one_if (is_waiting (state_at (states_of old) first.0)) ≡ 1 = ap (λ (s : State). one_if (is_waiting s)) least.waits in
    pool-changed old new (Some first) now waiting (waiting - 1) capacity first.0 state.InHand pool states (least_there (states_of old) first.0 least)
    (λ line at left right h. absurd (cc)) queue (omega (arith, was, some))
    (λ line at left right h. (let bad : state.Waiting least.key ≡ state.Split line at left right = sym least.waits ∙ h in absurd (cc))) same_parents

pub pool-put : (old new : List Node) (link now : Option NodeId) (waiting capacity number : ℕ) (key : ℤ) → IsPool old link waiting capacity →
    states_of new ≡ with_state (states_of old) number (state.Waiting key) → IsInHand (states_of old) number → IsQueue new now (waiting + 1) →
    ((child : ℕ) → (node_at new child).parent ≡ (node_at old child).parent) → IsPool new now (waiting + 1) capacity
pool-put old new link now waiting capacity number key pool states hand queue same_parents =
    let was : one_if (is_waiting (state_at (states_of old) number)) ≡ 0 = ap (λ (s : State). one_if (is_waiting s)) hand.in_hand in
    pool-changed old new link now waiting (waiting + 1) capacity number (state.Waiting key) pool states hand.there (λ line at left right h. absurd (cc)) queue (omega (arith, was))
    (λ line at left right h. (let bad : state.InHand ≡ state.Split line at left right = sym hand.in_hand ∙ h in absurd (cc))) same_parents

pub pool-closed : (old new : List Node) (link : Option NodeId) (waiting capacity number : ℕ) (leaf : ℕ) → IsPool old link waiting capacity →
    states_of new ≡ with_state (states_of old) number (state.Closed leaf) → IsInHand (states_of old) number → IsQueue new link waiting →
    ((child : ℕ) → (node_at new child).parent ≡ (node_at old child).parent) → IsPool new link waiting capacity
pool-closed old new link waiting capacity number leaf pool states hand queue same_parents =
    let was : one_if (is_waiting (state_at (states_of old) number)) ≡ 0 = ap (λ (s : State). one_if (is_waiting s)) hand.in_hand in
    pool-changed old new link link waiting waiting capacity number (state.Closed leaf) pool states hand.there (λ line at left right h. absurd (cc)) queue (omega (arith, was))
    (λ line at left right h. (let bad : state.InHand ≡ state.Split line at left right = sym hand.in_hand ∙ h in absurd (cc))) same_parents

-- where a node is in hand, not all wait
pub not-all-wait : (nodes : List Node) (link : Option NodeId) (waiting capacity number : ℕ) → IsPool nodes link waiting capacity → IsInHand (states_of nodes) number → waiting + 1 ≤ capacity
not-all-wait nodes link waiting capacity number pool hand =
    let total = count-set (states_of nodes) number (state.Waiting (pos 0)) hand.there in
    let was : one_if (is_waiting (state_at (states_of nodes) number)) ≡ 0 = ap (λ (s : State). one_if (is_waiting s)) hand.in_hand in
    let most = count_by-le-length is_waiting (set (states_of nodes) number (state.Waiting (pos 0))) in
    let length_is : length (set (states_of nodes) number (state.Waiting (pos 0))) ≡ length nodes =
    length-set (states_of nodes) number (state.Waiting (pos 0)) ∙ length-map nodes (λ (node : Node). node.state) in
    omega (arith, total, was, most, length_is, pool.waiting_is, pool.few)

-- the root alone
pub root-pool : (capacity : ℕ) (key : ℤ) (parent : Option NodeId) → 1 ≤ capacity → capacity ≤ 4_294_967_295 →
    IsPool (record { parent = parent; state = state.Waiting key; links = lone_links } ∷ []) (Some (record { 0 = 0 })) 1 capacity
root-pool capacity key parent some bounded = record {
  queue = record {
    heap = Fork 0 key Empty Empty;
    leads = record { top_is = refl; linked = (record { there = omega arith; waits = refl; links = refl }, (tt, tt)) };
    ordered = ((tt, tt), (tt, tt));
    leftist = (omega arith, (tt, tt));
    once = root_once;
    count_is = refl;
  };
  waiting_is = refl;
  some = omega arith;
  few = omega (arith, some);
  bounded = bounded;
  whole = root_whole;
  parents = record { told = root_told; there = λ child some inside. absurd (omega (arith, some, inside)) };
}
  where
    root_once : (number : ℕ) → occurs (Fork 0 key Empty Empty) number ≡ times_waiting (node_at (record { parent = parent; state = state.Waiting key; links = lone_links } ∷ []) number).state
    root_once zero = refl
    root_once (suc number) = let no : (0 == suc number) ≡ false = grind arith in ap (λ (b : Bool). (if b then 1 else 0) + (0 + 0)) no

    root_told : (child number : ℕ) → IsChildOf (state.Waiting key ∷ []) child number →
        (node_at (record { parent = parent; state = state.Waiting key; links = lone_links } ∷ []) child).parent ≡ Some (record { 0 = number })
    root_told child zero is = let bad : state.Waiting key ≡ state.Split is.line is.at is.left is.right = is.split in absurd (cc)
    root_told child (suc number) is = let bad : state.InHand ≡ state.Split is.line is.at is.left is.right = is.split in absurd (cc)

    root_whole : SplitsAreWhole (state.Waiting key ∷ [])
    root_whole zero line at left right h = absurd (cc)
    root_whole (suc number) line at left right h = absurd (cc)

-- a pool whose nodes are written to all of a vector
pub written-pool : (len : ℕ) (slice new rest : List Node) (number : ℕ) (s : State) (link : Option NodeId) (waiting capacity : ℕ) → length slice ≡ len →
    states_of new ≡ with_state (states_of slice) number s → IsPool new link waiting capacity → IsPool (take len (new ++ rest)) link waiting capacity
written-pool len slice new rest number s link waiting capacity len_is states pool =
    let P : List Node → Type 0 = λ ns. IsPool ns link waiting capacity in
    subst P (sym (written len new rest (count-kept slice new number s states ∙ len_is))) pool

pub written-states : (len : ℕ) (slice new rest : List Node) (number : ℕ) (s : State) → length slice ≡ len →
    states_of new ≡ with_state (states_of slice) number s → states_of (take len (new ++ rest)) ≡ with_state (states_of slice) number s
written-states len slice new rest number s len_is states = ap states_of (written len new rest (count-kept slice new number s states ∙ len_is)) ∙ states

pub pool-at : (items slice : List Node) (link now : Option NodeId) (waiting capacity : ℕ) → slice ≡ items → link ≡ now → IsPool items link waiting capacity → IsPool slice now waiting capacity
pool-at items slice link now waiting capacity same links pool =
    let P : List Node → Type 0 = λ ns. IsPool ns now waiting capacity in
    let Q : Option NodeId → Type 0 = λ l. IsPool items l waiting capacity in
    subst P (sym same) (subst Q links pool)

pub in-hand-at : (items slice : List Node) (states : List State) (number : ℕ) → slice ≡ items → states_of items ≡ states → IsInHand states number → IsInHand (states_of slice) number
in-hand-at items slice states number same views hand =
    let P : List State → Type 0 = λ ss. IsInHand ss number in subst P (sym (ap states_of same ∙ views)) hand

pub count-small : (nodes : List Node) (link : Option NodeId) (waiting capacity : ℕ) → IsPool nodes link waiting capacity → waiting ≤ 4_294_967_295
count-small nodes link waiting capacity pool =
    let most : count_by is_waiting (states_of nodes) ≤ length (states_of nodes) = count_by-le-length is_waiting (states_of nodes) in
    let same : length (states_of nodes) ≡ length nodes = length-map nodes (λ (node : Node). node.state) in
    omega (arith, most, same, pool.waiting_is, pool.few, pool.bounded)

-- a change of state keeps parents
parents_by : (nodes : List Node) (number child : ℕ) (s : State) (b : Bool) → (number == child) ≡ b → number < length nodes →
    (node_at (slice_set nodes number (record (node_at nodes number) { state = s })) child).parent ≡ (node_at nodes child).parent
parents_by nodes number child s true e there =
    let same : number ≡ child = grind (arith, e) in
    let node : Node = record (node_at nodes number) { state = s } in
    ap (λ (n : ℕ). (node_at (slice_set nodes number node) n).parent) (sym same) ∙ ap (λ (n : Node). n.parent) (at-same nodes number node there)
    ∙ ap (λ (n : ℕ). (node_at nodes n).parent) same
parents_by nodes number child s false e there =
    let other : number ≢ child = (λ same. absurd (grind (arith, e, same))) in
    ap (λ (n : Node). n.parent) (at-other nodes number child (record (node_at nodes number) { state = s }) other)

pub parents-set : (nodes new : List Node) (number child : ℕ) (s : State) → new ≡ slice_set nodes number (record (node_at nodes number) { state = s }) → IsInHand (states_of nodes) number →
    (node_at new child).parent ≡ (node_at nodes child).parent
parents-set nodes new number child s new_is hand =
    let there : number < length nodes = (let h = hand.there in omega (arith, h, length-map nodes (λ (node : Node). node.state))) in
    ap (λ (ns : List Node). (node_at ns child).parent) new_is ∙ parents_by nodes number child s (number == child) refl there

-- the queue stays where a node in hand comes to be closed or split
pub queue-closed : (nodes new : List Node) (link : Option NodeId) (waiting number : ℕ) (s : State) → IsInHand (states_of nodes) number →
    new ≡ slice_set nodes number (record (node_at nodes number) { state = s }) → times_waiting s ≡ 0 → IsQueue nodes link waiting → IsQueue new link waiting
queue-closed nodes new link waiting number s hand new_is none queue =
    let P : List Node → Type 0 = λ ns. IsQueue ns link waiting in
    let there : number < length nodes = (let h = hand.there in omega (arith, h, length-map nodes (λ (node : Node). node.state))) in
    let was : times_waiting (node_at nodes number).state ≡ 0 = ap times_waiting (sym (state-at nodes number) ∙ hand.in_hand) in
    subst P (sym new_is) (queue-set nodes number (record (node_at nodes number) { state = s }) link waiting there was none queue)

-- one more node
pub pushed : {T E : Type 0} (r : Result T E) (old new slice : List Node) (node plain : Node) → new ≡ (if is_ok r then old ++ node ∷ [] else old) → IsOk r → slice ≡ new → node ≡ plain →
    slice ≡ old ++ plain ∷ []
pushed r old new slice node plain items ok slice_is node_is =
    slice_is ∙ items ∙ ap (λ (b : Bool). if b then old ++ node ∷ [] else old) ok ∙ ap (λ (n : Node). old ++ n ∷ []) node_is

pub added-queue : (old slice : List Node) (node : Node) (link : Option NodeId) (count : ℕ) → slice ≡ old ++ node ∷ [] → times_waiting node.state ≡ 0 → IsQueue old link count →
    IsQueue slice link count
added-queue old slice node link count slice_is none queue =
    let P : List Node → Type 0 = λ ns. IsQueue ns link count in
    subst P (sym slice_is) (queue-more old node link count none queue)

pub added-states : (old slice new : List Node) (node : Node) (place : ℕ) (s : State) → slice ≡ old ++ node ∷ [] → place ≡ length old →
    states_of new ≡ with_state (states_of slice) place s → states_of new ≡ states_of old ++ s ∷ []
added-states old slice new node place s slice_is place_is states =
    let parts : states_of slice ≡ states_of old ++ node.state ∷ [] = ap states_of slice_is ∙ map-append (λ (n : Node). n.state) old (node ∷ []) in
    let here : place ≡ length (states_of old) = place_is ∙ sym (length-map old (λ (n : Node). n.state)) in
    states ∙ ap (λ (ss : List State). with_state ss place s) parts ∙ ap (λ (k : ℕ). with_state (states_of old ++ node.state ∷ []) k s) here
    ∙ set-append_seam (states_of old) node.state [] s

pub added-written : (len : ℕ) (slice new rest : List Node) (place : ℕ) (s : State) → length slice ≡ len → states_of new ≡ with_state (states_of slice) place s → take len (new ++ rest) ≡ new
added-written len slice new rest place s len_is states = written len new rest (count-kept slice new place s states ∙ len_is)

-- a node is split
pub split-states : (old : List State) (number : ℕ) (s l r : State) → number < length old →
    with_state ((old ++ l ∷ []) ++ r ∷ []) number s ≡ with_state old number s ++ l ∷ r ∷ []
split-states old number s l r there =
    ap (λ (ss : List State). with_state ss number s) (append_assoc old (l ∷ []) (r ∷ [])) ∙ set-append_left old (l ∷ r ∷ []) number s there

split_whole : (old : List State) (number line at : ℕ) (l r : ℤ) → number < length old → SplitsAreWhole old →
    (own : ℕ) (line2 at2 : ℕ) (left right : NodeId) → (own < length old) ⊎ (length old ≤ own) →
    state_at (with_state old number (state.Split line at (record { 0 = length old }) (record { 0 = length old + 1 })) ++ state.Waiting l ∷ state.Waiting r ∷ []) own ≡ state.Split line2 at2 left right →
    (b : Bool) → (own == number) ≡ b →
    AreChildren (with_state old number (state.Split line at (record { 0 = length old }) (record { 0 = length old + 1 })) ++ state.Waiting l ∷ state.Waiting r ∷ []) own left right
split_whole old number line at l r there whole own line2 at2 left right (inl inside) h true e =
    let s : State = state.Split line at (record { 0 = length old }) (record { 0 = length old + 1 }) in
    let same : own ≡ number = grind (arith, e) in
    let front : state_at (with_state old number s ++ state.Waiting l ∷ state.Waiting r ∷ []) own ≡ state_at (with_state old number s) own =
    get_or-append (with_state old number s) (state.Waiting l ∷ state.Waiting r ∷ []) state.InHand own (omega (arith, length-set old number s, inside)) in
    let here : s ≡ state.Split line2 at2 left right =
    sym (get_or-set_same old number s state.InHand there) ∙ ap (λ (n : ℕ). state_at (with_state old number s) n) (sym same) ∙ sym front ∙ h in
    let first : record { 0 = length old } ≡ left = cc in
    let second : record { 0 = length old + 1 } ≡ right = cc in
    let first_is : length old ≡ left.0 = ap (λ (n : NodeId). n.0) first in
    let second_is : length old + 1 ≡ right.0 = ap (λ (n : NodeId). n.0) second in
    record {
      later = omega (arith, same, there, first_is);
      next = omega (arith, first_is, second_is);
      there = omega (arith, second_is, length-set old number s, length-append (with_state old number s) (state.Waiting l ∷ state.Waiting r ∷ []));
    }
split_whole old number line at l r there whole own line2 at2 left right (inl inside) h false e =
    let s : State = state.Split line at (record { 0 = length old }) (record { 0 = length old + 1 }) in
    let other : own ≢ number = (λ same. absurd (grind (arith, e, same))) in
    let front : state_at (with_state old number s ++ state.Waiting l ∷ state.Waiting r ∷ []) own ≡ state_at (with_state old number s) own =
    get_or-append (with_state old number s) (state.Waiting l ∷ state.Waiting r ∷ []) state.InHand own (omega (arith, length-set old number s, inside)) in
    let are : AreChildren old own left right = whole own line2 at2 left right (sym (get_or-set_other old number own s state.InHand other) ∙ sym front ∙ h) in
    record {
      later = are.later;
      next = are.next;
      there = omega (arith, are.there, length-set old number s, length-append (with_state old number s) (state.Waiting l ∷ state.Waiting r ∷ []));
    }
split_whole old number line at l r there whole own line2 at2 left right (inr past) h b e =
    let s : State = state.Split line at (record { 0 = length old }) (record { 0 = length old + 1 }) in
    let back : state_at (with_state old number s ++ state.Waiting l ∷ state.Waiting r ∷ []) own ≡ get_or (state.Waiting l ∷ state.Waiting r ∷ []) (own - length (with_state old number s)) state.InHand =
    get_or-append_right (with_state old number s) (state.Waiting l ∷ state.Waiting r ∷ []) own state.InHand (omega (arith, length-set old number s, past)) in
    absurd (no_split_there l r (own - length (with_state old number s)) line2 at2 left right (sym back ∙ h))
  where
    no_split_there : (l r : ℤ) (k line2 at2 : ℕ) (left right : NodeId) → get_or (state.Waiting l ∷ state.Waiting r ∷ []) k state.InHand ≡ state.Split line2 at2 left right → ⊥
    no_split_there l r zero line2 at2 left right h = absurd (cc)
    no_split_there l r (suc zero) line2 at2 left right h = absurd (cc)
    no_split_there l r (suc (suc k)) line2 at2 left right h = absurd (cc)

abbrev pub numbered : ℕ → NodeId
numbered number = record { 0 = number }

-- the states behind a split
abbrev pub split_of : List State → ℕ → ℕ → State
split_of old line at = state.Split line at (record { 0 = length old }) (record { 0 = length old + 1 })

abbrev pub after_split : List State → ℕ → ℕ → ℕ → ℤ → ℤ → List State
after_split old number line at l r = with_state old number (split_of old line at) ++ state.Waiting l ∷ state.Waiting r ∷ []

front_state : (old : List State) (number line at : ℕ) (l r : ℤ) (own : ℕ) → own < length old → state_at (after_split old number line at l r) own ≡ state_at (with_state old number (split_of old line at)) own
front_state old number line at l r own inside =
    get_or-append (with_state old number (split_of old line at)) (state.Waiting l ∷ state.Waiting r ∷ []) state.InHand own (omega (arith, length-set old number (split_of old line at), inside))

pub own_state : (old : List State) (number line at : ℕ) (l r : ℤ) → number < length old → state_at (after_split old number line at l r) number ≡ split_of old line at
own_state old number line at l r there = front_state old number line at l r number there ∙ get_or-set_same old number (split_of old line at) state.InHand there

pub other_state : (old : List State) (number line at : ℕ) (l r : ℤ) (own : ℕ) → own < length old → own ≢ number → state_at (after_split old number line at l r) own ≡ state_at old own
other_state old number line at l r own inside other =
    front_state old number line at l r own inside ∙ get_or-set_other old number own (split_of old line at) state.InHand other

no_split_at : (l r : ℤ) (k line at : ℕ) (left right : NodeId) → get_or (state.Waiting l ∷ state.Waiting r ∷ []) k state.InHand ≡ state.Split line at left right → ⊥
no_split_at l r zero line at left right h = absurd (cc)
no_split_at l r (suc zero) line at left right h = absurd (cc)
no_split_at l r (suc (suc k)) line at left right h = absurd (cc)

not_behind : (old : List State) (number line at : ℕ) (l r : ℤ) (child own : ℕ) → length old ≤ own → IsChildOf (after_split old number line at l r) child own → ⊥
not_behind old number line at l r child own past is =
    let back = get_or-append_right (with_state old number (split_of old line at)) (state.Waiting l ∷ state.Waiting r ∷ []) own state.InHand
    (omega (arith, length-set old number (split_of old line at), past)) in
    no_split_at l r (own - length (with_state old number (split_of old line at))) is.line is.at is.left is.right (sym back ∙ is.split)

same_children : (left right first second : ℕ) (line at line2 at2 : ℕ) (l r : NodeId) → state.Split line at (record { 0 = first }) (record { 0 = second }) ≡ state.Split line2 at2 l r →
    (first ≡ l.0) × (second ≡ r.0)
same_children left right first second line at line2 at2 l r h =
    let one : numbered first ≡ l = cc in
    let two : numbered second ≡ r = cc in
    (ap (λ (n : NodeId). n.0) one, ap (λ (n : NodeId). n.0) two)

-- a child of the new split is one of the two new nodes
new_child : (old : List State) (number line at : ℕ) (l r : ℤ) (child : ℕ) → number < length old → IsChildOf (after_split old number line at l r) child number →
    (child ≡ length old) ⊎ (child ≡ length old + 1)
new_child old number line at l r child there is =
    let both : (length old ≡ is.left.0) × (length old + 1 ≡ is.right.0) =
    same_children 0 0 (length old) (length old + 1) line at is.line is.at is.left is.right (sym (own_state old number line at l r there) ∙ is.split) in
    elim is.side [ inl left ↦ inl (sym left ∙ sym both.0) | inr right ↦ inr (sym right ∙ sym both.1) ]

old_child : (old : List State) (number line at : ℕ) (l r : ℤ) (child own : ℕ) → own < length old → own ≢ number → IsChildOf (after_split old number line at l r) child own → IsChildOf old child own
old_child old number line at l r child own inside other is = record {
  line = is.line;
  at = is.at;
  left = is.left;
  right = is.right;
  split = sym (other_state old number line at l r own inside other) ∙ is.split;
  side = is.side;
}

child_inside : (old : List State) (child own : ℕ) → SplitsAreWhole old → IsChildOf old child own → child < length old
child_inside old child own whole is =
    let are : AreChildren old own is.left is.right = whole own is.line is.at is.left is.right is.split in
    let next = are.next in let there = are.there in
    elim is.side [ inl left ↦ omega (arith, left, next, there) | inr right ↦ omega (arith, right, there) ]

pub split_inside : (old : List State) (child own : ℕ) → IsChildOf old child own → (own < length old) ⊎ (length old ≤ own) → own < length old
split_inside old child own is (inl inside) = inside
split_inside old child own is (inr past) =
    let bad : state.InHand ≡ state.Split is.line is.at is.left is.right = sym (get_or_past old own state.InHand past) ∙ is.split in absurd (cc)

either_side : (new : List Node) (child n number own : ℕ) → (child ≡ n) ⊎ (child ≡ n + 1) → (node_at new n).parent ≡ Some (numbered number) → (node_at new (n + 1)).parent ≡ Some (numbered number) →
    own ≡ number → (node_at new child).parent ≡ Some (numbered own)
either_side new child n number own (inl left) first second same =
    ap (λ (k : ℕ). (node_at new k).parent) left ∙ first ∙ ap (λ (k : ℕ). Some (numbered k)) (sym same)
either_side new child n number own (inr right) first second same =
    ap (λ (k : ℕ). (node_at new k).parent) right ∙ second ∙ ap (λ (k : ℕ). Some (numbered k)) (sym same)

told_by : (old new : List Node) (number line at : ℕ) (l r : ℤ) (child own : ℕ) → number < length (states_of old) → SplitsAreWhole (states_of old) → AreParents old →
    ((i : ℕ) → i < length old → (node_at new i).parent ≡ (node_at old i).parent) → (node_at new (length old)).parent ≡ Some (record { 0 = number }) →
    (node_at new (length old + 1)).parent ≡ Some (record { 0 = number }) → IsChildOf (after_split (states_of old) number line at l r) child own →
    (own < length (states_of old)) ⊎ (length (states_of old) ≤ own) → (b : Bool) → (own == number) ≡ b → (node_at new child).parent ≡ Some (record { 0 = own })
told_by old new number line at l r child own there whole parents others first second is (inr past) b e = absurd (not_behind (states_of old) number line at l r child own past is)
told_by old new number line at l r child own there whole parents others first second is (inl inside) true e =
    let same : own ≡ number = grind (arith, e) in
    let long : length (states_of old) ≡ length old = length-map old (λ (n : Node). n.state) in
    let P : ℕ → Type 0 = λ n. IsChildOf (after_split (states_of old) number line at l r) child n in
    let first_long : (node_at new (length (states_of old))).parent ≡ Some (numbered number) = ap (λ (k : ℕ). (node_at new k).parent) long ∙ first in
    let second_long : (node_at new (length (states_of old) + 1)).parent ≡ Some (numbered number) = ap (λ (k : ℕ). (node_at new (k + 1)).parent) long ∙ second in
    either_side new child (length (states_of old)) number own (new_child (states_of old) number line at l r child there (subst P same is)) first_long second_long same
told_by old new number line at l r child own there whole parents others first second is (inl inside) false e =
    let other : own ≢ number = (λ same. absurd (grind (arith, e, same))) in
    let was : IsChildOf (states_of old) child own = old_child (states_of old) number line at l r child own inside other is in
    let low : child < length (states_of old) = child_inside (states_of old) child own whole was in
    others child (omega (arith, low, length-map old (λ (n : Node). n.state))) ∙ parents.told child own was

still_child : (old : List State) (number line at : ℕ) (l r : ℤ) (child own : ℕ) → state_at old number ≡ state.InHand → IsChildOf old child own → (b : Bool) → (own == number) ≡ b →
    IsChildOf (after_split old number line at l r) child own
still_child old number line at l r child own hand is true e =
    let same : own ≡ number = grind (arith, e) in
    let bad : state.InHand ≡ state.Split is.line is.at is.left is.right = sym hand ∙ ap (λ (n : ℕ). state_at old n) (sym same) ∙ is.split in absurd (cc)
still_child old number line at l r child own hand is false e =
    let other : own ≢ number = (λ same. absurd (grind (arith, e, same))) in
    record {
      line = is.line;
      at = is.at;
      left = is.left;
      right = is.right;
      split = other_state old number line at l r own (split_inside old child own is (cases_lt own (length old))) other ∙ is.split;
      side = is.side;
    }

there_for : (old : List Node) (number line at : ℕ) (l r : ℤ) (child : ℕ) → IsInHand (states_of old) number → AreParents old → 1 ≤ child → child < length (states_of old) + 2 →
    (child < length (states_of old)) ⊎ (length (states_of old) ≤ child) → (own : ℕ) × IsChildOf (after_split (states_of old) number line at l r) child own
there_for old number line at l r child hand parents some inside (inl low) =
    let found = parents.there child some (omega (arith, low, length-map old (λ (n : Node). n.state))) in
    (found.0, still_child (states_of old) number line at l r child found.0 hand.in_hand found.1 (found.0 == number) refl)
there_for old number line at l r child hand parents some inside (inr past) = (
  number,
  record {
    line = line;
    at = at;
    left = record { 0 = length (states_of old) };
    right = record { 0 = length (states_of old) + 1 };
    split = own_state (states_of old) number line at l r hand.there;
    side = which (length (states_of old)) child (omega (arith, past)) (omega (arith, inside)) (cases_lt (length (states_of old)) child);
  },
)
  where
    which : (n c : ℕ) → n ≤ c → c < n + 2 → (n < c) ⊎ (c ≤ n) → (n ≡ c) ⊎ (n + 1 ≡ c)
    which n c low high (inl more) = inr (omega (arith, low, high, more))
    which n c low high (inr less) = inl (omega (arith, low, less))

parents-split : (old new : List Node) (number line at : ℕ) (l r : ℤ) → states_of new ≡ after_split (states_of old) number line at l r → IsInHand (states_of old) number →
    SplitsAreWhole (states_of old) → AreParents old → ((i : ℕ) → i < length old → (node_at new i).parent ≡ (node_at old i).parent) →
    (node_at new (length old)).parent ≡ Some (record { 0 = number }) → (node_at new (length old + 1)).parent ≡ Some (record { 0 = number }) → length new ≡ length (states_of old) + 2 → AreParents new
parents-split old new number line at l r states hand whole parents others first second long =
    let P : List State → Type 0 = λ ss. (child own : ℕ) → IsChildOf ss child own → (node_at new child).parent ≡ Some (record { 0 = own }) in
    let Q : List State → Type 0 = λ ss. (child : ℕ) → 1 ≤ child → child < length new → (own : ℕ) × IsChildOf ss child own in
    record {
      told = subst P (sym states) (λ child own is.
          told_by old new number line at l r child own hand.there whole parents others first second is (cases_lt own (length (states_of old))) (own == number) refl);
      there = subst Q (sym states) (λ child some inside.
          there_for old number line at l r child hand parents some (omega (arith, inside, long)) (cases_lt child (length (states_of old))));
    }

pub pool-split : (old new : List Node) (link now : Option NodeId) (waiting capacity number line at : ℕ) (l r : ℤ) → IsPool old link waiting capacity →
    states_of new ≡ with_state (states_of old) number (state.Split line at (record { 0 = length (states_of old) }) (record { 0 = length (states_of old) + 1 })) ++ state.Waiting l ∷ state.Waiting r ∷ [] →
    IsInHand (states_of old) number → IsQueue new now (waiting + 2) → length (states_of old) + 2 ≤ capacity →
    ((i : ℕ) → i < length old → (node_at new i).parent ≡ (node_at old i).parent) → (node_at new (length old)).parent ≡ Some (record { 0 = number }) →
    (node_at new (length old + 1)).parent ≡ Some (record { 0 = number }) → IsPool new now (waiting + 2) capacity
pool-split old new link now waiting capacity number line at l r pool states hand queue room others first second =
    let s : State = state.Split line at (record { 0 = length (states_of old) }) (record { 0 = length (states_of old) + 1 }) in
    let all : List State = with_state (states_of old) number s ++ state.Waiting l ∷ state.Waiting r ∷ [] in
    let was : one_if (is_waiting (state_at (states_of old) number)) ≡ 0 = ap (λ (t : State). one_if (is_waiting t)) hand.in_hand in
    let total : count_by is_waiting (with_state (states_of old) number s) + one_if (is_waiting (state_at (states_of old) number)) ≡ count_by is_waiting (states_of old) + 0 =
    count-set (states_of old) number s hand.there in
    let sum : count_by is_waiting all ≡ count_by is_waiting (with_state (states_of old) number s) + 2 =
    sum_by-append (λ (t : State). cond (is_waiting t) 1 0) (with_state (states_of old) number s) (state.Waiting l ∷ state.Waiting r ∷ []) in
    let counted : count_by is_waiting (states_of new) ≡ count_by is_waiting all = ap (λ (ss : List State). count_by is_waiting ss) states in
    let long : length all ≡ length (states_of old) + 2 =
    length-append (with_state (states_of old) number s) (state.Waiting l ∷ state.Waiting r ∷ []) ∙ ap (λ (k : ℕ). k + 2) (length-set (states_of old) number s) in
    let new_long : length new ≡ length all = sym (length-map new (λ (n : Node). n.state)) ∙ ap length states in
    let P : List State → Type 0 = λ ss. SplitsAreWhole ss in
    record {
      queue = queue;
      waiting_is = omega (arith, was, total, sum, counted, pool.waiting_is);
      some = omega (arith, long, new_long);
      few = omega (arith, long, new_long, room);
      bounded = pool.bounded;
      whole = subst P (sym states) (λ own line2 at2 left right h.
          split_whole (states_of old) number line at l r hand.there pool.whole own line2 at2 left right (cases_lt own (length (states_of old))) h (own == number) refl);
      parents = parents-split old new number line at l r states hand pool.whole pool.parents others first second (new_long ∙ long);
    }

-- the steps of a split
pub few-wait : (nodes : List Node) (link : Option NodeId) (waiting capacity : ℕ) → IsPool nodes link waiting capacity → waiting ≤ length nodes
few-wait nodes link waiting capacity pool =
    let most : count_by is_waiting (states_of nodes) ≤ length (states_of nodes) = count_by-le-length is_waiting (states_of nodes) in
    let same : length (states_of nodes) ≡ length nodes = length-map nodes (λ (node : Node). node.state) in
    omega (arith, most, same, pool.waiting_is)

pub record IsSplit (old slice new : List Node) (count number line at : ℕ) (l r : ℤ) : Type 0 where
  pub states : states_of new ≡
      with_state (states_of old) number (state.Split line at (record { 0 = length (states_of old) }) (record { 0 = length (states_of old) + 1 })) ++ state.Waiting l ∷ state.Waiting r ∷ []
  pub in_hand : IsInHand (states_of slice) number
  pub same_length : length new ≡ length slice

pub is-split : (old mid later slice new : List Node) (count number line at : ℕ) (l r : ℤ) → states_of mid ≡ states_of old ++ state.Waiting l ∷ [] →
    states_of later ≡ states_of mid ++ state.Waiting r ∷ [] → slice ≡ later → count ≡ length old →
    new ≡ slice_set slice number (record (node_at slice number) { state = state.Split line at (record { 0 = count }) (record { 0 = count + 1 }) }) →
    IsInHand (states_of old) number → IsSplit old slice new count number line at l r
is-split old mid later slice new count number line at l r first second slice_is count_is new_is hand =
    let s : State = state.Split line at (record { 0 = count }) (record { 0 = count + 1 }) in
    let parts : states_of slice ≡ (states_of old ++ state.Waiting l ∷ []) ++ state.Waiting r ∷ [] =
    ap states_of slice_is ∙ second ∙ ap (λ (ss : List State). ss ++ state.Waiting r ∷ []) first in
    let whole : states_of slice ≡ states_of old ++ state.Waiting l ∷ state.Waiting r ∷ [] = parts ∙ append_assoc (states_of old) (state.Waiting l ∷ []) (state.Waiting r ∷ []) in
    let same : count ≡ length (states_of old) = count_is ∙ sym (length-map old (λ (n : Node). n.state)) in
    let set_is : states_of new ≡ with_state (states_of slice) number s =
    ap states_of new_is ∙ map-set (λ (n : Node). n.state) slice number (record (node_at slice number) { state = s }) in
    record {
      states =
          set_is
          ∙ ap (λ (ss : List State). with_state ss number s) parts
          ∙ split-states (states_of old) number s (state.Waiting l) (state.Waiting r) hand.there
          ∙ ap (λ (k : ℕ). with_state (states_of old) number (state.Split line at (record { 0 = k }) (record { 0 = k + 1 })) ++ state.Waiting l ∷ state.Waiting r ∷ []) same;
      in_hand = record {
        there = omega (arith, hand.there, ap length whole, length-append (states_of old) (state.Waiting l ∷ state.Waiting r ∷ []));
        in_hand = ap (λ (ss : List State). state_at ss number) whole
            ∙ get_or-append (states_of old) (state.Waiting l ∷ state.Waiting r ∷ []) state.InHand number hand.there ∙ hand.in_hand;
      };
      same_length = count-kept slice new number s set_is;
    }

pub split-pool-kept : (old slice new rest : List Node) (len : ℕ) (link now : Option NodeId) (waiting capacity count number line at : ℕ) (l r : ℤ) → IsPool old link waiting capacity →
    IsSplit old slice new count number line at l r → IsInHand (states_of old) number → length slice ≡ len →
    new ≡ slice_set slice number (record (node_at slice number) { state = state.Split line at (record { 0 = count }) (record { 0 = count + 1 }) }) →
    IsQueue slice now (waiting + 1 + 1) → length old + 2 ≤ capacity →
    ((i : ℕ) → i < length old → (node_at slice i).parent ≡ (node_at old i).parent) → (node_at slice (length old)).parent ≡ Some (record { 0 = number }) →
    (node_at slice (length old + 1)).parent ≡ Some (record { 0 = number }) → IsPool (take len (new ++ rest)) now (waiting + 2) capacity
split-pool-kept old slice new rest len link now waiting capacity count number line at l r pool is hand len_is new_is queue room others first second =
    let s : State = state.Split line at (record { 0 = count }) (record { 0 = count + 1 }) in
    let P : List Node → Type 0 = λ ns. IsPool ns now (waiting + 2) capacity in
    let Q : ℕ → Type 0 = λ k. IsQueue new now k in
    let two : waiting + 1 + 1 ≡ waiting + 2 = omega arith in
    let same : length (states_of old) ≡ length old = length-map old (λ (n : Node). n.state) in
    subst P (sym (written len new rest (is.same_length ∙ len_is)))
    (pool-split old new link now waiting capacity number line at l r pool is.states hand
    (subst Q two (queue-closed slice new now (waiting + 1 + 1) number (state.Split line at (record { 0 = count }) (record { 0 = count + 1 })) is.in_hand new_is refl queue))
    (omega (arith, same, room))
    (λ i inside. parents-set slice new number i s new_is is.in_hand ∙ others i inside) (parents-set slice new number (length old) s new_is is.in_hand ∙ first)
    (parents-set slice new number (length old + 1) s new_is is.in_hand ∙ second))

pub queue-at : (items slice : List Node) (link : Option NodeId) (count : ℕ) → slice ≡ items → IsQueue items link count → IsQueue slice link count
queue-at items slice link count same queue = (let P : List Node → Type 0 = λ ns. IsQueue ns link count in subst P (sym same) queue)

-- the node that was taken is in hand
pub hand-now : (states : List State) (number : ℕ) → IsLeast states number → IsInHand (with_state states number state.InHand) number
hand-now states number least =
    let there : number < length states = least_there states number least in
    record {
      there = omega (arith, there, length-set states number state.InHand);
      in_hand = get_or-set_same states number state.InHand state.InHand there;
    }

pub hand-at : (states now : List State) (number : ℕ) → now ≡ with_state states number state.InHand → IsLeast states number → IsInHand now number
hand-at states now number now_is least = (let P : List State → Type 0 = λ ss. IsInHand ss number in subst P (sym now_is) (hand-now states number least))

-- the states are one tree
pub one-tree : (nodes : List Node) (link : Option NodeId) (waiting capacity : ℕ) → IsPool nodes link waiting capacity → IsOneTree (states_of nodes)
one-tree nodes link waiting capacity pool =
    let long : length (states_of nodes) ≡ length nodes = length-map nodes (λ (n : Node). n.state) in
    record {
      some = omega (arith, long, pool.some);
      root = λ number is. earlier_root number is;
      parent = λ child some inside.
          (let found = pool.parents.there child some (omega (arith, inside, long)) in (found.0, earlier child found.0 found.1, found.1));
      one = λ child number other is also.
          (let same : Some (numbered number) ≡ Some (numbered other) = sym (pool.parents.told child number is) ∙ pool.parents.told child other also in same_number number other same);
    }
  where
    same_number : (number other : ℕ) → Some (numbered number) ≡ Some (numbered other) → number ≡ other
    same_number number other h = let one : numbered number ≡ numbered other = cc in ap (λ (n : NodeId). n.0) one

    earlier : (child number : ℕ) → IsChildOf (states_of nodes) child number → number < child
    earlier child number is =
        let are : AreChildren (states_of nodes) number is.left is.right = pool.whole number is.line is.at is.left is.right is.split in
        let later = are.later in let next = are.next in
        elim is.side [ inl left ↦ omega (arith, left, later) | inr right ↦ omega (arith, right, next, later) ]

    earlier_root : (number : ℕ) → IsChildOf (states_of nodes) 0 number → ⊥
    earlier_root number is = let low : number < 0 = earlier 0 number is in absurd (omega (arith, low))

-- the parents of the children of a split
pub record HaveParents (old slice : List Node) (number : ℕ) : Type 0 where
  pub others : (i : ℕ) → i < length old → (node_at slice i).parent ≡ (node_at old i).parent
  pub first : (node_at slice (length old)).parent ≡ Some (record { 0 = number })
  pub second : (node_at slice (length old + 1)).parent ≡ Some (record { 0 = number })

pub have-parents : (old mid later slice : List Node) (node : NodeId) (s : State) → slice ≡ later → states_of mid ≡ states_of old ++ s ∷ [] →
    ((i : ℕ) → i < length old → (node_at mid i).parent ≡ (node_at old i).parent) → (node_at mid (length old)).parent ≡ Some node →
    ((i : ℕ) → i < length mid → (node_at later i).parent ≡ (node_at mid i).parent) → (node_at later (length mid)).parent ≡ Some node → HaveParents old slice node.0
have-parents old mid later slice node s slice_is states others own others_later own_later =
    let long : length mid ≡ length old + 1 =
    sym (length-map mid (λ (n : Node). n.state)) ∙ ap length states ∙ length-append (states_of old) (s ∷ []) ∙ ap (λ (k : ℕ). k + 1) (length-map old (λ (n : Node). n.state)) in
    let at : (i : ℕ) → (node_at slice i).parent ≡ (node_at later i).parent = (λ i. ap (λ (ns : List Node). (node_at ns i).parent) slice_is) in
    record {
      others = λ i inside. at i ∙ others_later i (omega (arith, long, inside)) ∙ others i inside;
      first = at (length old) ∙ others_later (length old) (omega (arith, long)) ∙ own;
      second = at (length old + 1) ∙ ap (λ (k : ℕ). (node_at later k).parent) (sym long) ∙ own_later;
    }
