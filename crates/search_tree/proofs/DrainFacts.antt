-- The nodes that wait are closed one by one.
use Rattle.std.proofs.Common.{◌≡◌, ◌∙◌, ◌⊎◌, inl, inr, ℕ, ◌<◌, ℤ, List, length, set, refl, sym, ap, subst, arith}
use Rattle.std.specs.List.{count_by}
use Rattle.std.proofs.lemmas.Bool.{cases_lt}
use Rattle.std.proofs.lemmas.List.{get_or-set_other, get_or-set_same, length-set}
use Rattle.node_pool.proofs.PoolFacts.{count-set, one_if}
use Rattle.node_pool.specs.Pool.{NoneWaits, Waits, is_waiting, pool_with, state_at}
use Rattle.node_pool.specs.declared.node.State.{State}
use Rattle.node_pool.specs.declared.node.State.TheVariants as state
use Rattle.search_tree.specs.Growing.{no_node, node_of}
use Rattle.search_tree.specs.Tree.{IsDrained, IsDrainedNode, TreeContents, closed_tree}
use Rattle.search_tree.specs.declared.node.Closing.TheVariants as closing
use Rattle.search_tree.specs.declared.node.SearchNode.{SearchNode}

-- a node stands as it did, or it waited and is closed
abbrev pub IsDrainedSoFar : ℕ → State → SearchNode → State → SearchNode → Type 0
IsDrainedSoFar number s own at node = (at ≡ s) × (node ≡ own) ⊎ IsDrainedNode number s own at node

pub record IsDraining (before now : TreeContents) : Type 0 where
  pub states : length now.pool.states ≡ length before.pool.states
  pub nodes : length now.nodes ≡ length before.nodes
  pub capacity : now.pool.capacity ≡ before.pool.capacity
  pub each : (number : ℕ) → number < length before.pool.states
      → IsDrainedSoFar number (state_at before.pool.states number) (node_of before.nodes number) (state_at now.pool.states number) (node_of now.nodes number)

pub draining-start : (tree : TreeContents) → IsDraining tree tree
draining-start tree = record { states = refl; nodes = refl; capacity = refl; each = λ number few. inl (refl, refl) }

-- a node that waits is closed
abbrev borne : SearchNode → SearchNode
borne node = record node { closing = closing.Borne }

drained-here : (number : ℕ) (key : ℤ) (s : State) (own : SearchNode) (at : State) (node : SearchNode) → at ≡ state.Waiting key → IsDrainedSoFar number s own at node
    → IsDrainedNode number s own (state.Closed number) (record node { closing = closing.Borne })
drained-here number key s own at node waits (inl same) =
    subst (λ (t : State). IsDrainedNode number t own (state.Closed number) (record node { closing = closing.Borne })) (sym (sym same.0 ∙ waits)) (refl, ap borne same.1)
drained-here number key (state.Waiting other) own at node waits (inr done) = absurd (let clash : state.Waiting key ≡ state.Closed number = sym waits ∙ done.0 in cc)
drained-here number key state.InHand own at node waits (inr done) = absurd (let clash : state.Waiting key ≡ state.InHand = sym waits ∙ done.0 in cc)
drained-here number key (state.Split line at_units left right) own at node waits (inr done) = absurd (let clash : state.Waiting key ≡ state.Split line at_units left right = sym waits ∙ done.0 in cc)
drained-here number key (state.Closed leaf) own at node waits (inr done) = absurd (let clash : state.Waiting key ≡ state.Closed leaf = sym waits ∙ done.0 in cc)

abbrev pub after_close : TreeContents → ℕ → TreeContents
after_close now number = closed_tree (record now { pool = pool_with now.pool number state.InHand }) number closing.Borne

at-same : (states : List State) (number : ℕ) → number < length states → state_at (set (set states number state.InHand) number (state.Closed number)) number ≡ state.Closed number
at-same states number few = get_or-set_same (set states number state.InHand) number (state.Closed number) state.InHand (omega (arith, few, length-set states number state.InHand))

pub draining-close : (before now : TreeContents) (number : ℕ) (key : ℤ) → IsDraining before now → length now.nodes ≡ length now.pool.states → number < length now.pool.states → Waits now.pool.states number key
    → IsDraining before (after_close now number)
draining-close before now number key is same few waits = record {
  states = length-set (set now.pool.states number state.InHand) number (state.Closed number) ∙ length-set now.pool.states number state.InHand ∙ is.states;
  nodes = length-set now.nodes number (borne (node_of now.nodes number)) ∙ is.nodes;
  capacity = is.capacity;
  each = λ other other_few. by-number other other_few;
}
  where
    Here : ℕ → Type 0
    Here other = IsDrainedSoFar other (state_at before.pool.states other) (node_of before.nodes other) (state_at (after_close now number).pool.states other) (node_of (after_close now number).nodes other)

    here : Here number
    here =
        inr (subst (λ (t : State). IsDrainedNode number (state_at before.pool.states number) (node_of before.nodes number) t (node_of (after_close now number).nodes number)) (sym (at-same now.pool.states number few))
        (subst (λ (n : SearchNode). IsDrainedNode number (state_at before.pool.states number) (node_of before.nodes number) (state.Closed number) n)
        (sym (get_or-set_same now.nodes number (borne (node_of now.nodes number)) no_node (omega (arith, few, same))))
        (drained-here number key (state_at before.pool.states number) (node_of before.nodes number) (state_at now.pool.states number) (node_of now.nodes number) waits (is.each number (omega (arith, few, is.states))))))

    elsewhere : (other : ℕ) → other < length before.pool.states → ¬ (other ≡ number) → Here other
    elsewhere other other_few apart =
        subst (λ (t : State). IsDrainedSoFar other (state_at before.pool.states other) (node_of before.nodes other) t (node_of (after_close now number).nodes other))
        (sym (get_or-set_other (set now.pool.states number state.InHand) number other (state.Closed number) state.InHand apart ∙ get_or-set_other now.pool.states number other state.InHand state.InHand apart))
        (subst (λ (n : SearchNode). IsDrainedSoFar other (state_at before.pool.states other) (node_of before.nodes other) (state_at now.pool.states other) n)
        (sym (get_or-set_other now.nodes number other (borne (node_of now.nodes number)) no_node apart)) (is.each other other_few))

    by-number : (other : ℕ) → other < length before.pool.states → Here other
    by-number other other_few = elim (cases_lt other number) [
      | inl below ↦ elsewhere other other_few (λ e. omega (arith, e, below))
      | inr no_below ↦ elim (cases_lt number other) [
        | inl above ↦ elsewhere other other_few (λ e. omega (arith, e, above))
        | inr no_above ↦ subst Here (omega (arith, no_below, no_above)) here
      ]
    ]

-- each time one fewer waits
pub fewer-wait : (states : List State) (number : ℕ) (key : ℤ) → number < length states → Waits states number key
    → count_by is_waiting (set (set states number state.InHand) number (state.Closed number)) < count_by is_waiting states
fewer-wait states number key few waits =
    let taken = count-set states number state.InHand few in
    let taken_one : one_if (is_waiting (state_at states number)) ≡ 1 = ap (λ (t : State). one_if (is_waiting t)) waits in
    let closed = count-set (set states number state.InHand) number (state.Closed number) (omega (arith, few, length-set states number state.InHand)) in
    omega (arith, taken, taken_one, closed)

-- and where none waits any more, all are closed
drained-end : (number : ℕ) (s : State) (own : SearchNode) (at : State) (node : SearchNode) → ((key : ℤ) → at ≡ state.Waiting key → ⊥) → IsDrainedSoFar number s own at node → IsDrainedNode number s own at node
drained-end number s own at node none (inr done) = done
drained-end number (state.Waiting key) own at node none (inl same) = absurd (none key same.0)
drained-end number state.InHand own at node none (inl same) = same
drained-end number (state.Split line at_units left right) own at node none (inl same) = same
drained-end number (state.Closed leaf) own at node none (inl same) = same

pub draining-end : (before now : TreeContents) → IsDraining before now → NoneWaits now.pool.states → IsDrained before now
draining-end before now is none = record {
  states = is.states;
  nodes = is.nodes;
  each = λ number few. drained-end number (state_at before.pool.states number) (node_of before.nodes number) (state_at now.pool.states number) (node_of now.nodes number) (λ key. none number key) (is.each number few);
}
