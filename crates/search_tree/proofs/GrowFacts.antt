-- What a tree keeps while it grows.
use Rattle.std.proofs.Common.{◌≡◌, ◌≢◌, ◌∙◌, inl, inr, ℕ, ◌+◌, ◌-◌, ◌<◌, ◌≤◌, ◌==◌, ℤ, pos, ◌-ℤ◌, ◌≤ℤ◌, Bool, true, false, ◌&&◌, ◌||◌, List, [], ◌∷◌, ◌++◌, length, get_or, set, refl, sym, ap, subst, arith, length-append, Option, Some, None}
use Rattle.std.specs.Prelude.{option_map}
use Rattle.std.proofs.Math.ListN.{get_or-append, length-set}
use Rattle.std.proofs.Math.Seq.{get_or-append_right}
use Rattle.std.proofs.lemmas.Bool.{cases_lt}
use Rattle.std.proofs.lemmas.Int.{ints}
use Rattle.std.proofs.lemmas.List.{get_or-set_other, get_or-set_same}
use Rattle.case_file.specs.Case.{CaseContents}
use Rattle.cash_table.specs.Points.{is_excluded}
use Rattle.node_ranges.specs.Ranges.{RangesContents, is_single, narrowed}
use Rattle.node_ranges.specs.Claims.{bears_out, costs_enough, low_ends}
use Rattle.proof_tree.specs.declared.tree.Part.TheVariants as part
use Rattle.node_pool.specs.Pool.{IsLeast, SplitsAreWhole, state_at, with_state}
use Rattle.node_pool.specs.Way.{IsWay, Step, ranges_at}
use Rattle.node_pool.specs.declared.node.State.{State}
use Rattle.node_pool.specs.declared.node.State.TheVariants as state
use Rattle.node_pool.proofs.PoolFacts.{after_split, other_state, own_state, split_of}
use Rattle.search_tree.proofs.Ways.{IsNoSplit, WayNew, way-new, way-old, way-set}
use Rattle.search_tree.specs.Growing.{GoesOn, HasGrown, IsAt, IsClosedBy, IsGrown, IsHeld, IsKept, IsLostPoint, IsNodeAt, IsPopped, IsPriced, IsSplitNode, IsStuck, claim_of_best, node_of, no_node}
use Rattle.search_tree.specs.Best.{IsNoDearer}
use Rattle.search_tree.specs.Tree.{open_node}
use Rattle.search_tree.specs.declared.node.Priced.{Priced}
use Rattle.search_tree.specs.declared.node.Closing.{Closing}
use Rattle.search_tree.specs.declared.node.Closing.TheVariants as closing
use Rattle.search_tree.specs.declared.node.SearchNode.{SearchNode}

-- ---- a cheaper best plan
bears-lower : (bound : ℤ) (less most gap : ℕ) → less ≤ most → bears_out bound (Some (pos most -ℤ pos gap)) ≡ true → bears_out bound (Some (pos less -ℤ pos gap)) ≡ true
bears-lower bound less most gap le borne = grind (arith, ints)

claim-cheaper : (case : CaseContents) (bound : ℤ) (best after : Option ℕ) → IsNoDearer best after → bears_out bound (claim_of_best case best) ≡ true → bears_out bound (claim_of_best case after) ≡ true
claim-cheaper case bound None after cheaper borne = absurd (cc)
claim-cheaper case bound (Some cents) None cheaper borne = absurd cheaper
claim-cheaper case bound (Some cents) (Some less) cheaper borne = bears-lower bound less cents case.allowance cheaper borne

enough-cheaper : (case : CaseContents) (plan : List ℕ) (best after : Option ℕ) → IsNoDearer best after → costs_enough case.book (option_map pos best) plan ≡ true → costs_enough case.book (option_map pos after) plan ≡ true
enough-cheaper case plan None after cheaper enough = absurd (cc)
enough-cheaper case plan (Some cents) None cheaper enough = absurd cheaper
enough-cheaper case plan (Some cents) (Some less) cheaper enough = grind (arith, ints)

point-cheaper : (single excluded enough more : Bool) → (enough ≡ true → more ≡ true) → (single && (excluded || enough)) ≡ true → (single && (excluded || more)) ≡ true
point-cheaper true true enough more up is = refl
point-cheaper true false enough more up is = up is
point-cheaper false excluded enough more up is = is

lost-cheaper : (case : CaseContents) (ranges : RangesContents) (best after : Option ℕ) → IsNoDearer best after → IsLostPoint case best ranges → IsLostPoint case after ranges
lost-cheaper case ranges best after cheaper lost = record {
  closed = point-cheaper (is_single ranges) (is_excluded case.book (case.limit - 1) (low_ends ranges)) (costs_enough case.book (option_map pos best) (low_ends ranges))
      (costs_enough case.book (option_map pos after) (low_ends ranges)) (enough-cheaper case (low_ends ranges) best after cheaper) lost.closed;
  lost = λ none meets within. lost.lost (none-before best after cheaper none) meets within;
}
  where
    none-before : (old new : Option ℕ) → IsNoDearer old new → new ≡ None → old ≡ None
    none-before None new cheaper none = refl
    none-before (Some cents) None cheaper none = absurd cheaper
    none-before (Some cents) (Some less) cheaper none = absurd (cc)

closed-cheaper : (case : CaseContents) (ranges : RangesContents) (bound : ℤ) (best after : Option ℕ) (how : Closing) → IsNoDearer best after → IsClosedBy case best ranges bound how → IsClosedBy case after ranges bound how
closed-cheaper case ranges bound best after closing.Open cheaper is = is
closed-cheaper case ranges bound best after closing.Borne cheaper is = claim-cheaper case bound best after cheaper is
closed-cheaper case ranges bound best after (closing.Unreached day) cheaper is = is
closed-cheaper case ranges bound best after (closing.Infeasible leaf) cheaper is = is
closed-cheaper case ranges bound best after closing.Point cheaper is = lost-cheaper case ranges best after cheaper is

at-cheaper : (case : CaseContents) (Obeys : RangesContents → ℕ → ℕ → Type 0) (best after : Option ℕ) (popped : ℤ) (number : ℕ) (ranges : RangesContents) (own : SearchNode) (s : State) → IsNoDearer best after
    → IsAt case Obeys best popped number ranges own s → IsAt case Obeys after popped number ranges own s
at-cheaper case Obeys best after popped number ranges own (state.Waiting key) cheaper is = is
at-cheaper case Obeys best after popped number ranges own state.InHand cheaper is = is
at-cheaper case Obeys best after popped number ranges own (state.Closed leaf) cheaper is = (is.0, closed-cheaper case ranges own.priced.bound best after own.closing cheaper is.1)
at-cheaper case Obeys best after popped number ranges own (state.Split line at left right) cheaper is = is

pub grown-cheaper : (case : CaseContents) (Obeys : RangesContents → ℕ → ℕ → Type 0) (best after : Option ℕ) (popped : ℤ) (states : List State) (nodes : List SearchNode) → IsNoDearer best after
    → IsGrown case Obeys best popped states nodes → IsGrown case Obeys after popped states nodes
grown-cheaper case Obeys best after popped states nodes cheaper grown = record {
  same = grown.same;
  each = λ number way few is. (
      let here = grown.each number way few is in
      record { priced = here.priced; stands = at-cheaper case Obeys best after popped number (ranges_at case.book way) (node_of nodes number) (state_at states number) cheaper here.stands });
}

-- ---- a node is taken
at-risen : (case : CaseContents) (Obeys : RangesContents → ℕ → ℕ → Type 0) (best : Option ℕ) (popped higher : ℤ) (number : ℕ) (ranges : RangesContents) (own : SearchNode) (s : State) → popped ≤ℤ higher
    → ((key : ℤ) → s ≡ state.Waiting key → higher ≤ℤ key) → (s ≡ state.InHand → ⊥) → IsAt case Obeys best popped number ranges own s → IsAt case Obeys best higher number ranges own s
at-risen case Obeys best popped higher number ranges own (state.Waiting key) up wait hand is = (is.0, wait key refl, is.2)
at-risen case Obeys best popped higher number ranges own state.InHand up wait hand is = absurd (hand refl)
at-risen case Obeys best popped higher number ranges own (state.Closed leaf) up wait hand is = is
at-risen case Obeys best popped higher number ranges own (state.Split line at left right) up wait hand is =
    (record { proper = is.0.proper; few = is.0.few; low = omega (arith, ints, is.0.low, up); obeys = is.0.obeys }, is.1)

-- what a node that waits says
wait-says : (case : CaseContents) (Obeys : RangesContents → ℕ → ℕ → Type 0) (best : Option ℕ) (popped key : ℤ) (number : ℕ) (ranges : RangesContents) (own : SearchNode) (s : State) → s ≡ state.Waiting key → IsAt case Obeys best popped number ranges own s
    → (key ≡ own.priced.bound) × (popped ≤ℤ key) × (own.closing ≡ closing.Open)
wait-says case Obeys best popped key number ranges own s is at = subst (IsAt case Obeys best popped number ranges own) is at

pub popped-kept : (case : CaseContents) (Obeys : RangesContents → ℕ → ℕ → Type 0) (best : Option ℕ) (popped : ℤ) (states : List State) (nodes : List SearchNode) (number : ℕ) (way : List Step) → IsKept case Obeys best popped states nodes → number < length states
    → IsWay states number way → IsLeast states number → IsPopped case Obeys best (with_state states number state.InHand) nodes number
popped-kept case Obeys best popped states nodes number way kept few way_is least = record {
  grown = record {
    same = kept.grown.same ∙ sym (length-set states number state.InHand);
    each = λ child up inside is. node-at child up (omega (arith, inside, length-set states number state.InHand)) (way-set states number state.InHand few no-split child up is);
  };
  held = record { there = omega (arith, few, length-set states number state.InHand); in_hand = get_or-set_same states number state.InHand state.InHand few };
  others = λ other inside hand. only other (omega (arith, inside, length-set states number state.InHand)) hand;
}
  where
    bound : ℤ
    bound = (node_of nodes number).priced.bound

    no-split : IsNoSplit state.InHand
    no-split line at left right same = absurd (cc)

    says : (least.key ≡ bound) × (popped ≤ℤ least.key) × ((node_of nodes number).closing ≡ closing.Open)
    says = wait-says case Obeys best popped least.key number (ranges_at case.book way) (node_of nodes number) (state_at states number) least.waits (kept.grown.each number way few way_is).stands

    only : (other : ℕ) → other < length states → state_at (set states number state.InHand) other ≡ state.InHand → other ≡ number
    only other inside hand = by (other == number) refl
      where
        by : (b : Bool) → (other == number) ≡ b → other ≡ number
        by true e = grind (arith, e)
        by false e =
            let apart : other ≢ number = (λ same. absurd (grind (arith, e, same))) in
            absurd (kept.none other inside (sym (get_or-set_other states number other state.InHand state.InHand apart) ∙ hand))

    node-at : (child : ℕ) (up : List Step) → child < length states → IsWay states child up
        → IsNodeAt case Obeys best bound child (ranges_at case.book up) (node_of nodes child) (state_at (set states number state.InHand) child)
    node-at child up inside is = by (child == number) refl
      where
        here : IsNodeAt case Obeys best popped child (ranges_at case.book up) (node_of nodes child) (state_at states child)
        here = kept.grown.each child up inside is

        by : (b : Bool) → (child == number) ≡ b → IsNodeAt case Obeys best bound child (ranges_at case.book up) (node_of nodes child) (state_at (set states number state.InHand) child)
        by true e =
            let same : child ≡ number = grind (arith, e) in
            let now : state_at (set states number state.InHand) child ≡ state.InHand = ap (λ (k : ℕ). state_at (set states number state.InHand) k) same ∙ get_or-set_same states number state.InHand state.InHand few in
            record {
              priced = here.priced;
              stands = subst (IsAt case Obeys best bound child (ranges_at case.book up) (node_of nodes child)) (sym now) (ap (λ (k : ℕ). (node_of nodes k).priced.bound) same, ap (λ (k : ℕ). (node_of nodes k).closing) same ∙ says.2);
            }
        by false e =
            let apart : child ≢ number = (λ same. absurd (grind (arith, e, same))) in
            let now : state_at (set states number state.InHand) child ≡ state_at states child = get_or-set_other states number child state.InHand state.InHand apart in
            record {
              priced = here.priced;
              stands = subst (IsAt case Obeys best bound child (ranges_at case.book up) (node_of nodes child)) (sym now)
                  (at-risen case Obeys best popped bound child (ranges_at case.book up) (node_of nodes child) (state_at states child) (omega (arith, ints, says.0, says.1))
                  (λ key waits. elim (least.least child key waits) [
                    | inl below ↦ omega (arith, ints, below, says.0)
                    | inr equal ↦ omega (arith, ints, equal.0, says.0)
                  ])
                  (λ hand. kept.none child inside hand) here.stands);
            }

-- ---- a node is closed
-- the node of a number in a list with one changed
node-same : (nodes : List SearchNode) (number : ℕ) (own : SearchNode) → number < length nodes → node_of (set nodes number own) number ≡ own
node-same nodes number own few = get_or-set_same nodes number own no_node few

node-other : (nodes : List SearchNode) (number other : ℕ) (own : SearchNode) → other ≢ number → node_of (set nodes number own) other ≡ node_of nodes other
node-other nodes number other own apart = get_or-set_other nodes number other own no_node apart

-- the node in hand gets another state, which is no split, and leaves the hand; its leaf stays
set-kept : (case : CaseContents) (Obeys : RangesContents → ℕ → ℕ → Type 0) (best : Option ℕ) (states : List State) (nodes after : List SearchNode) (number : ℕ) (ranges : RangesContents) (own : SearchNode) (s : State) → IsHeld case Obeys best states nodes number ranges
    → IsNoSplit s → (s ≡ state.InHand → ⊥) → length after ≡ length nodes → node_of after number ≡ own → ((k : ℕ) → k ≢ number → node_of after k ≡ node_of nodes k)
    → own.priced ≡ (node_of nodes number).priced → IsAt case Obeys best (node_of nodes number).priced.bound number ranges own s
    → IsKept case Obeys best (node_of nodes number).priced.bound (with_state states number s) after
set-kept case Obeys best states nodes after number ranges own s held no-split not-hand long at-own at-others priced-same stands = record {
  grown = record {
    same = long ∙ held.popped.grown.same ∙ sym (length-set states number s);
    each = λ child up inside is. node-at child up (omega (arith, inside, length-set states number s)) (way-set states number s few no-split child up is);
  };
  none = λ other inside hand. still other (omega (arith, inside, length-set states number s)) hand;
}
  where
    few : number < length states
    few = held.popped.held.there

    bound : ℤ
    bound = (node_of nodes number).priced.bound

    still : (other : ℕ) → other < length states → state_at (set states number s) other ≡ state.InHand → ⊥
    still other inside hand = by (other == number) refl
      where
        by : (b : Bool) → (other == number) ≡ b → ⊥
        by true e =
            let same : other ≡ number = grind (arith, e) in
            not-hand (sym (get_or-set_same states number s state.InHand few) ∙ ap (λ (k : ℕ). state_at (set states number s) k) (sym same) ∙ hand)
        by false e =
            let apart : other ≢ number = (λ same. absurd (grind (arith, e, same))) in
            absurd (apart (held.popped.others other inside (sym (get_or-set_other states number other s state.InHand apart) ∙ hand)))

    node-at : (child : ℕ) (up : List Step) → child < length states → IsWay states child up → IsNodeAt case Obeys best bound child (ranges_at case.book up) (node_of after child) (state_at (set states number s) child)
    node-at child up inside is = by (child == number) refl
      where
        by : (b : Bool) → (child == number) ≡ b → IsNodeAt case Obeys best bound child (ranges_at case.book up) (node_of after child) (state_at (set states number s) child)
        by true e =
            let same : child ≡ number = grind (arith, e) in
            let now : state_at (set states number s) child ≡ s = ap (λ (k : ℕ). state_at (set states number s) k) same ∙ get_or-set_same states number s state.InHand few in
            let at : node_of after child ≡ own = ap (node_of after) same ∙ at-own in
            let way : IsWay states number up = subst (λ (k : ℕ). IsWay states k up) same is in
            let ranged : ranges ≡ ranges_at case.book up = held.ranged up way in
            let priced : IsPriced case (ranges_at case.book up) own.priced = subst (IsPriced case (ranges_at case.book up)) (sym priced-same) (held.popped.grown.each number up few way).priced in
            subst (λ (t : State). IsNodeAt case Obeys best bound child (ranges_at case.book up) (node_of after child) t) (sym now)
            (subst (λ (n : SearchNode). IsNodeAt case Obeys best bound child (ranges_at case.book up) n s) (sym at)
            (subst (λ (k : ℕ). IsNodeAt case Obeys best bound k (ranges_at case.book up) own s) (sym same)
            (record { priced = priced; stands = subst (λ (r : RangesContents). IsAt case Obeys best bound number r own s) ranged stands })))
        by false e =
            let apart : child ≢ number = (λ same. absurd (grind (arith, e, same))) in
            let now : state_at (set states number s) child ≡ state_at states child = get_or-set_other states number child s state.InHand apart in
            subst (λ (t : State). IsNodeAt case Obeys best bound child (ranges_at case.book up) (node_of after child) t) (sym now)
            (subst (λ (n : SearchNode). IsNodeAt case Obeys best bound child (ranges_at case.book up) n (state_at states child)) (sym (at-others child apart)) (held.popped.grown.each child up inside is))

pub closed-kept : (case : CaseContents) (Obeys : RangesContents → ℕ → ℕ → Type 0) (best : Option ℕ) (states : List State) (nodes : List SearchNode) (number : ℕ) (ranges : RangesContents) (how : Closing) → IsHeld case Obeys best states nodes number ranges
    → IsClosedBy case best ranges (node_of nodes number).priced.bound how
    → HasGrown case Obeys best (with_state states number (state.Closed number)) (set nodes number (record (node_of nodes number) { closing = how }))
closed-kept case Obeys best states nodes number ranges how held closes =
    let own : SearchNode = record (node_of nodes number) { closing = how } in (
      (node_of nodes number).priced.bound,
      set-kept case Obeys best states nodes (set nodes number own) number ranges own (state.Closed number) held (λ line at left right same. absurd (cc)) (λ same. absurd (cc))
          (length-set nodes number own) (node-same nodes number own (omega (arith, held.popped.held.there, held.popped.grown.same))) (λ k apart. node-other nodes number k own apart)
          refl (refl, closes),
    )

-- the node in hand isn't closed
held-open : (case : CaseContents) (Obeys : RangesContents → ℕ → ℕ → Type 0) (best : Option ℕ) (states : List State) (nodes : List SearchNode) (number : ℕ) (ranges : RangesContents) → IsHeld case Obeys best states nodes number ranges → (way : List Step) → IsWay states number way
    → (node_of nodes number).closing ≡ closing.Open
held-open case Obeys best states nodes number ranges held way is =
    (subst (IsAt case Obeys best (node_of nodes number).priced.bound number (ranges_at case.book way) (node_of nodes number)) held.popped.held.in_hand
    (held.popped.grown.each number way held.popped.held.there is).stands).1

pub stuck-kept : (case : CaseContents) (Obeys : RangesContents → ℕ → ℕ → Type 0) (best : Option ℕ) (states : List State) (nodes : List SearchNode) (number : ℕ) (ranges : RangesContents) (up : List Step) → IsWay states number up → IsHeld case Obeys best states nodes number ranges
    → GoesOn case best ranges (node_of nodes number).priced.bound → (line at : ℕ) → Obeys ranges line at
    → IsStuck case Obeys best (node_of nodes number).priced.bound (with_state states number (state.Waiting (node_of nodes number).priced.bound)) nodes
stuck-kept case Obeys best states nodes number ranges up up_is held goes_on line at obeys =
    let bound = (node_of nodes number).priced.bound in
    let wait : State = state.Waiting bound in
    let few = held.popped.held.there in
    let opened : (node_of nodes number).closing ≡ closing.Open = held-open case Obeys best states nodes number ranges held up up_is in
    record {
      number = number;
      there = omega (arith, few, length-set states number wait);
      waits = get_or-set_same states number wait state.InHand few;
      kept = set-kept case Obeys best states nodes nodes number ranges (node_of nodes number) wait held (λ line at left right same. absurd (cc)) (λ same. absurd (cc)) refl refl (λ k apart. refl) refl
          (refl, omega (arith, ints), opened);
      goes_on = λ way is. subst (λ (r : RangesContents). GoesOn case best r bound) (held.ranged way (way-set states number wait few (λ line at left right same. absurd (cc)) number way is)) goes_on;
      line = line;
      at = at;
      obeys = λ way is. subst (λ (r : RangesContents). Obeys r line at) (held.ranged way (way-set states number wait few (λ line at left right same. absurd (cc)) number way is)) obeys;
    }

-- ---- a node is split
split-node : (case : CaseContents) (Obeys : RangesContents → ℕ → ℕ → Type 0) (best : Option ℕ) (popped : ℤ) (number : ℕ) (ranges : RangesContents) (left : Priced) → IsPriced case ranges left → popped ≤ℤ left.bound
    → IsNodeAt case Obeys best popped number ranges (open_node left) (state.Waiting left.bound)
split-node case Obeys best popped number ranges left priced up = record { priced = priced; stands = (refl, up, refl) }

pub split-kept : (case : CaseContents) (Obeys : RangesContents → ℕ → ℕ → Type 0) (best : Option ℕ) (states : List State) (nodes : List SearchNode) (number line at : ℕ) (ranges : RangesContents) (left right : Priced) → IsHeld case Obeys best states nodes number ranges
    → SplitsAreWhole states → IsSplitNode case Obeys (node_of nodes number).priced.bound ranges (node_of nodes number).priced line at
    → IsPriced case (narrowed case.book ranges (part.Line line) at false) left → (node_of nodes number).priced.bound ≤ℤ left.bound
    → IsPriced case (narrowed case.book ranges (part.Line line) at true) right → (node_of nodes number).priced.bound ≤ℤ right.bound
    → HasGrown case Obeys best (after_split states number line at left.bound right.bound) (nodes ++ open_node left ∷ open_node right ∷ [])
split-kept case Obeys best states nodes number line at ranges left right held whole split left_priced left_up right_priced right_up = (
  bound,
  record {
    grown = record {
      same = omega (arith, length-append nodes (open_node left ∷ open_node right ∷ []), long, held.popped.grown.same);
      each = λ child up inside is. node-at child up (omega (arith, inside, long)) is;
    };
    none = λ other inside hand. still other (omega (arith, inside, long)) hand;
  },
)
  where
    few : number < length states
    few = held.popped.held.there

    bound : ℤ
    bound = (node_of nodes number).priced.bound

    after : List State
    after = after_split states number line at left.bound right.bound

    all : List SearchNode
    all = nodes ++ open_node left ∷ open_node right ∷ []

    long : length after ≡ length states + 2
    long = omega (arith, length-append (with_state states number (split_of states line at)) (state.Waiting left.bound ∷ state.Waiting right.bound ∷ []), length-set states number (split_of states line at))

    same-length : length nodes ≡ length states
    same-length = held.popped.grown.same

    -- the states of the new nodes, and the new nodes
    first-place : length states - length (with_state states number (split_of states line at)) ≡ 0
    first-place = omega (arith, length-set states number (split_of states line at))

    second-place : length states + 1 - length (with_state states number (split_of states line at)) ≡ 1
    second-place = omega (arith, length-set states number (split_of states line at))

    first-row : length states - length nodes ≡ 0
    first-row = omega (arith, same-length)

    second-row : length states + 1 - length nodes ≡ 1
    second-row = omega (arith, same-length)

    first-state : state_at after (length states) ≡ state.Waiting left.bound
    first-state = get_or-append_right (with_state states number (split_of states line at)) (state.Waiting left.bound ∷ state.Waiting right.bound ∷ []) (length states) state.InHand
        (omega (arith, length-set states number (split_of states line at)))
        ∙ ap (λ (k : ℕ). get_or (state.Waiting left.bound ∷ state.Waiting right.bound ∷ []) k state.InHand) first-place

    second-state : state_at after (length states + 1) ≡ state.Waiting right.bound
    second-state = get_or-append_right (with_state states number (split_of states line at)) (state.Waiting left.bound ∷ state.Waiting right.bound ∷ []) (length states + 1) state.InHand
        (omega (arith, length-set states number (split_of states line at)))
        ∙ ap (λ (k : ℕ). get_or (state.Waiting left.bound ∷ state.Waiting right.bound ∷ []) k state.InHand) second-place

    first-node : node_of all (length states) ≡ open_node left
    first-node = get_or-append_right nodes (open_node left ∷ open_node right ∷ []) (length states) no_node (omega (arith, same-length))
        ∙ ap (λ (k : ℕ). get_or (open_node left ∷ open_node right ∷ []) k no_node) first-row

    second-node : node_of all (length states + 1) ≡ open_node right
    second-node = get_or-append_right nodes (open_node left ∷ open_node right ∷ []) (length states + 1) no_node (omega (arith, same-length))
        ∙ ap (λ (k : ℕ). get_or (open_node left ∷ open_node right ∷ []) k no_node) second-row

    old-node : (k : ℕ) → k < length states → node_of all k ≡ node_of nodes k
    old-node k inside = get_or-append nodes (open_node left ∷ open_node right ∷ []) no_node k (omega (arith, inside, same-length))

    old-at : (child : ℕ) (up : List Step) → child < length states → IsWay states child up → IsNodeAt case Obeys best bound child (ranges_at case.book up) (node_of all child) (state_at after child)
    old-at child up inside is = by (child == number) refl
      where
        by : (b : Bool) → (child == number) ≡ b → IsNodeAt case Obeys best bound child (ranges_at case.book up) (node_of all child) (state_at after child)
        by true e =
            let same : child ≡ number = grind (arith, e) in
            let now : state_at after child ≡ split_of states line at = ap (state_at after) same ∙ own_state states number line at left.bound right.bound few in
            let own : node_of all child ≡ node_of nodes number = old-node child inside ∙ ap (node_of nodes) same in
            let way : IsWay states number up = subst (λ (k : ℕ). IsWay states k up) same is in
            let ranged : ranges ≡ ranges_at case.book up = held.ranged up way in
            subst (λ (t : State). IsNodeAt case Obeys best bound child (ranges_at case.book up) (node_of all child) t) (sym now)
            (subst (λ (n : SearchNode). IsNodeAt case Obeys best bound child (ranges_at case.book up) n (split_of states line at)) (sym own)
            (record {
              priced = (held.popped.grown.each number up few way).priced;
              stands = (subst (λ (r : RangesContents). IsSplitNode case Obeys bound r (node_of nodes number).priced line at) ranged split, held-open case Obeys best states nodes number ranges held up way);
            }))
        by false e =
            let apart : child ≢ number = (λ same. absurd (grind (arith, e, same))) in
            let now : state_at after child ≡ state_at states child = other_state states number line at left.bound right.bound child inside apart in
            subst (λ (t : State). IsNodeAt case Obeys best bound child (ranges_at case.book up) (node_of all child) t) (sym now)
            (subst (λ (n : SearchNode). IsNodeAt case Obeys best bound child (ranges_at case.book up) n (state_at states child)) (sym (old-node child inside)) (held.popped.grown.each child up inside is))

    side-ranges : (side : Bool) (up : List Step) → WayNew states number line at side up → narrowed case.book ranges (part.Line line) at side ≡ ranges_at case.book up
    side-ranges side up new =
        ap (λ (r : RangesContents). narrowed case.book r (part.Line line) at side) (held.ranged new.above new.rest) ∙ ap (ranges_at case.book) (sym new.own)

    node-at : (child : ℕ) (up : List Step) → child < length states + 2 → IsWay after child up → IsNodeAt case Obeys best bound child (ranges_at case.book up) (node_of all child) (state_at after child)
    node-at child up inside is = elim (cases_lt child (length states)) [
      | inl old ↦ old-at child up old (way-old states number line at left.bound right.bound few child up old is)
      | inr new ↦ elim (cases_lt (length states) child) [
        | inl right_one ↦
            let own : child ≡ length states + 1 = omega (arith, right_one, inside) in
            let ranged = side-ranges true up (way-new states number line at left.bound right.bound few whole child true own up is) in
            subst (λ (k : ℕ). IsNodeAt case Obeys best bound k (ranges_at case.book up) (node_of all k) (state_at after k)) (sym own)
            (subst (λ (t : State). IsNodeAt case Obeys best bound (length states + 1) (ranges_at case.book up) (node_of all (length states + 1)) t) (sym second-state)
            (subst (λ (n : SearchNode). IsNodeAt case Obeys best bound (length states + 1) (ranges_at case.book up) n (state.Waiting right.bound)) (sym second-node)
            (split-node case Obeys best bound (length states + 1) (ranges_at case.book up) right (subst (λ (r : RangesContents). IsPriced case r right) ranged right_priced) right_up)))
        | inr left_one ↦
            let own : child ≡ length states = omega (arith, left_one, new) in
            let ranged = side-ranges false up (way-new states number line at left.bound right.bound few whole child false own up is) in
            subst (λ (k : ℕ). IsNodeAt case Obeys best bound k (ranges_at case.book up) (node_of all k) (state_at after k)) (sym own)
            (subst (λ (t : State). IsNodeAt case Obeys best bound (length states) (ranges_at case.book up) (node_of all (length states)) t) (sym first-state)
            (subst (λ (n : SearchNode). IsNodeAt case Obeys best bound (length states) (ranges_at case.book up) n (state.Waiting left.bound)) (sym first-node)
            (split-node case Obeys best bound (length states) (ranges_at case.book up) left (subst (λ (r : RangesContents). IsPriced case r left) ranged left_priced) left_up)))
      ]
    ]

    place-right : (other : ℕ) → length states < other → other < length states + 2 → length states + 1 ≡ other
    place-right other one two = omega (arith, one, two)

    place-left : (other : ℕ) → other ≤ length states → length states ≤ other → length states ≡ other
    place-left other one two = omega (arith, one, two)

    still : (other : ℕ) → other < length states + 2 → state_at after other ≡ state.InHand → ⊥
    still other inside hand = elim (cases_lt other (length states)) [
      | inl old ↦ by old (other == number) refl
      | inr new ↦ elim (cases_lt (length states) other) [
        | inl right_one ↦ (let clash : state.Waiting right.bound ≡ state.InHand = sym second-state ∙ ap (state_at after) (place-right other right_one inside) ∙ hand in absurd (cc))
        | inr left_one ↦ (let clash : state.Waiting left.bound ≡ state.InHand = sym first-state ∙ ap (state_at after) (place-left other left_one new) ∙ hand in absurd (cc))
      ]
    ]
      where
        by : other < length states → (b : Bool) → (other == number) ≡ b → ⊥
        by old true e =
            let same : other ≡ number = grind (arith, e) in
            let clash : split_of states line at ≡ state.InHand = sym (own_state states number line at left.bound right.bound few) ∙ ap (state_at after) (sym same) ∙ hand in absurd (cc)
        by old false e =
            let apart : other ≢ number = (λ same. absurd (grind (arith, e, same))) in
            apart (held.popped.others other old (sym (other_state states number line at left.bound right.bound other old apart) ∙ hand))
