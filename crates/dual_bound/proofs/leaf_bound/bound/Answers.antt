use mir.Syntax.{w128}
use mir.Val.{to_z}
use Rattle.std.proofs.Common.{◌≡◌, ◌∙◌, ◌<◌, ◌*◌, ◌^◌, ℤ, pos, ◌+ℤ◌, length, get_or, take, sym, ap, subst, arith, unsigned_abs}
use Rattle.std.proofs.lemmas.Int.{fits_signed_from_abs, ints, to_z-of_z}
use Rattle.std.proofs.lemmas.List.{get_or_default}
use Rattle.std.proofs.lemmas.List.Elements.{All-same}
use Rattle.std.specs.List.{zip}
use Rattle.offer_book.specs.declared.coefficients.TheConstants.{COEFFICIENT_SCALE}
use Rattle.offer_book.specs.declared.line.Line.{Line}
use Rattle.cash_table.proofs.PaymentFacts.{count_lines}
use Rattle.offer_book.specs.Book.{BookContents, IsLine}
use Rattle.node_ranges.specs.Ranges.{RangesContents}
use Rattle.proof_tree.specs.declared.tree.Leaf.{Leaf}
use Rattle.dual_bound.specs.LeafBound.{least_within, priced_needs, signed_sum, weighed_ends}
use Rattle.proof_tree.specs.declared.interval.Interval.{Interval}
use Rattle.dual_bound.proofs.BoundSizes.{bound-all, bound-more, bound-small, room-at, room-length}
use Rattle.dual_bound.proofs.Signed.{read-again}
use Rattle.dual_bound.proofs.Soundness.{all-lines}
use Rattle.dual_bound.proofs.leaf_bound.bound.Goals as goal

-- what a bound has before its lines
abbrev first : BookContents → RangesContents → Leaf → ℤ
first book ranges leaf = pos (COEFFICIENT_SCALE * priced_needs book.needs leaf.prices) +ℤ weighed_ends book ranges.sums leaf.weights

pub loop-place-init : goal.loop-place-init
loop-place-init c =
    let needs = c.priced_needs.ensures.value ∙ (λ i. priced_needs (c.needs.ensures.value i) (c.as_slice.ensures i)) in
    let ends = read-again c.weighed_ends.result (omega (arith, c.weighed_ends.ensures.small)) ∙ c.weighed_ends.ensures.value ∙ (λ i. weighed_ends c.args.book.now (c.sums.ensures.value i) (c.as_slice-2.ensures i)) in
    let whole = read-again c.needs_and_ends-bound.result (omega (arith, c.needs_and_ends-bound.ensures.small)) in (
      omega (arith, ints, whole, c.needs_and_ends-bound.ensures.value, ends, ap (λ n. COEFFICIENT_SCALE * n) needs),
      omega (arith, ap unsigned_abs whole, c.needs_and_ends-bound.ensures.small),
    )

pub bounds-intervals-place : goal.bounds-intervals-place
bounds-intervals-place c =
    omega (
      arith,
      room-length c.args.book.now.lines c.args.ranges.now.lines c.requires.ranges.lines,
      ap length c.lines-lines.ensures.value,
      ap length c.intervals-intervals.ensures.value,
      c.loop-place-test.true,
    )

pub unit_load-unit_load-requires-clause-line : goal.unit_load-unit_load-requires-clause-line
unit_load-unit_load-requires-clause-line c =
    subst (IsLine c.args.book.now.days) (sym c.index-lines-place.is)
    (All-same (IsLine c.args.book.now.days) c.lines-lines.result.now c.args.book.now.lines c.lines-lines.ensures.value
    (all-lines c.args.book.now.days c.args.book.now.lines c.lines-lines.ensures.limits.lines) c.loop-place.place c.index-lines-place.result c.loop-place-test.true)

pub least-bound-requires-clause-line : goal.least-bound-requires-clause-line
least-bound-requires-clause-line c =
    subst (IsLine c.args.book.now.days) (sym c.index-lines-place.is)
    (All-same (IsLine c.args.book.now.days) c.lines-lines.result.now c.args.book.now.lines c.lines-lines.ensures.value
    (all-lines c.args.book.now.days c.args.book.now.lines c.lines-lines.ensures.limits.lines) c.loop-place.place c.index-lines-place.result c.loop-place-test.true)

pub least-bound-requires-clause-high : goal.least-bound-requires-clause-high
least-bound-requires-clause-high c =
    let none : Interval = record { low = 0; high = 0 } in
    let room = room-at c.args.book.now.lines c.args.ranges.now.lines c.loop-place.place c.index-lines-place.result none c.requires.ranges.lines
    (omega (arith, ap length c.lines-lines.ensures.value, c.loop-place-test.true)) in
    let line : c.index-lines-place.result ≡ get_or c.args.book.now.lines c.loop-place.place c.index-lines-place.result =
    c.index-lines-place.is ∙ ap (λ lines. get_or lines c.loop-place.place c.index-lines-place.result) c.lines-lines.ensures.value in
    let interval = ap (λ ranges. get_or ranges c.loop-place.place none) c.intervals-intervals.ensures.value in
    omega (arith, room, ap (λ (l : Line). l.most) line, ap (λ (i : Interval). i.high) interval)

pub overflow_add-bound : goal.overflow_add-bound
overflow_add-bound c =
    let few = count_lines c.args.book.now.days c.args.book.now.lines c.lines-lines.ensures.limits.lines in
    let least = to_z-of_z w128 c.least-bound.result (record { sfits = c.least-bound.type_inv }) in
    fits_signed_from_abs w128 _ (omega (arith, ints, few, least, ap length c.lines-lines.ensures.value, c.loop-place-test.true, c.loop-place.invariant.1, c.least-bound.ensures.size))

pub loop-place-preserved : goal.loop-place-preserved
loop-place-preserved c =
    let none : Interval = record { low = 0; high = 0 } in
    let ranges = c.intervals-intervals.result.now in
    let interval = get_or ranges c.loop-place.place none in
    let same : length c.lines-lines.result.now ≡ length ranges =
    omega (arith, room-length c.args.book.now.lines c.args.ranges.now.lines c.requires.ranges.lines, ap length c.lines-lines.ensures.value, ap length c.intervals-intervals.ensures.value) in
    let there : c.loop-place.place < length ranges = omega (arith, same, c.loop-place-test.true) in
    let f = λ (p : Line × Interval). least_within c.args.powers.now.yield_units c.args.book.now c.args.leaf.now p.0 p.1 in
    let few = count_lines c.args.book.now.days c.args.book.now.lines c.lines-lines.ensures.limits.lines in
    let least = to_z-of_z w128 c.least-bound.result (record { sfits = c.least-bound.type_inv }) in
    let whole = read-again _ (omega (arith, ints, few, ap length c.lines-lines.ensures.value, c.loop-place-test.true, c.loop-place.invariant.1, c.least-bound.ensures.size)) in
    let value = whole ∙ ap (λ z. to_z w128 c.loop-place.bound-bits +ℤ z) least in (
      value ∙ bound-more (first c.args.book.now c.args.ranges.now c.args.leaf.now) (to_z w128 c.loop-place.bound-bits) c.least-bound.result f
          c.lines-lines.result.now ranges c.loop-place.place c.index-lines-place.result interval c.loop-place-test.true same c.index-lines-place.is
          (get_or_default ranges c.loop-place.place none interval there) c.loop-place.invariant.0 c.least-bound.ensures.value,
      omega (arith, ints, value, c.loop-place.invariant.1, c.least-bound.ensures.size),
    )

pub returns-clause-value : goal.returns-clause-value
returns-clause-value c =
    let f = λ (p : Line × Interval). least_within c.args.powers.now.yield_units c.args.book.now c.args.leaf.now p.0 p.1 in
    bound-all c.args.powers.now.yield_units c.args.book.now c.args.ranges.now c.args.leaf.now c.loop-place.place (to_z w128 c.loop-place.bound-bits)
    (omega (arith, ap length c.lines-lines.ensures.value, c.loop-place-test.false))
    (c.loop-place.invariant.0
    ∙ (λ i. first c.args.book.now c.args.ranges.now c.args.leaf.now
    +ℤ signed_sum f (take c.loop-place.place (zip (c.lines-lines.ensures.value i) (c.intervals-intervals.ensures.value i)))))

pub returns-clause-size : goal.returns-clause-size
returns-clause-size c =
    subst (λ z. unsigned_abs z < 10 ^ 37) (sym (returns-clause-value c))
    (bound-small c.args.powers.now.yield_units c.args.book.now c.args.ranges.now c.args.leaf.now c.lines-lines.ensures.limits c.requires.leaf c.requires.ranges c.intervals-intervals.ensures.ordered c.sums.ensures.ordered)
