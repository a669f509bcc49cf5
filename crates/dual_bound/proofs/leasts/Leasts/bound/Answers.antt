use mir.Syntax.{w128}
use mir.Val.{to_z}
use Rattle.std.proofs.Common.{◌≡◌, ◌∙◌, ◌<◌, ◌*◌, ◌^◌, List, ℤ, pos, ◌+ℤ◌, length, get_or, take, sym, ap, subst, arith, unsigned_abs}
use Rattle.std.proofs.lemmas.Int.{fits_signed_from_abs, ints, to_z-of_z}
use Rattle.std.proofs.lemmas.List.{get_or_default}
use Rattle.std.specs.List.{zip}
use Rattle.offer_book.specs.Book.{BookContents}
use Rattle.offer_book.specs.declared.coefficients.TheConstants.{COEFFICIENT_SCALE}
use Rattle.offer_book.specs.declared.line.Line.{Line}
use Rattle.cash_table.proofs.PaymentFacts.{count_lines}
use Rattle.dual_bound.specs.LeafBound.{least_by, least_within, priced_needs, signed_sum, unit_load, weighed_ends}
use Rattle.dual_bound.specs.Loads.{IsLoad, with_weights}
use Rattle.node_ranges.specs.Ranges.{RangesContents}
use Rattle.proof_tree.specs.declared.interval.Interval.{Interval}
use Rattle.proof_tree.specs.declared.tree.Leaf.{Leaf}
use Rattle.proof_tree.specs.declared.weights.SumWeight.{SumWeight}
use Rattle.dual_bound.proofs.BoundSizes.{bound-all, bound-more, bound-small, room-at, room-length}
use Rattle.dual_bound.proofs.LeastFacts.{all-right, least-weighted, right-more, with-weights}
use Rattle.dual_bound.proofs.LoadFacts.{load-is}
use Rattle.dual_bound.proofs.Signed.{read-again}
use Rattle.dual_bound.proofs.Soundness.{all-lines}
use Rattle.dual_bound.proofs.TableauFacts.{some-line}
use Rattle.dual_bound.proofs.leasts.Leasts.bound.Goals as goal

-- what a bound has before its lines
abbrev first : BookContents → RangesContents → Leaf → List SumWeight → ℤ
first book ranges leaf weights = pos (COEFFICIENT_SCALE * priced_needs book.needs leaf.prices) +ℤ weighed_ends book ranges.sums weights

pub overflow_add-bound : goal.overflow_add-bound
overflow_add-bound c =
    let most = count_lines c.args.book.now.days c.args.book.now.lines c.requires.tableau.limits.lines in
    let least = to_z-of_z w128 c.least-bound.result (record { sfits = c.least-bound.type_inv }) in
    fits_signed_from_abs w128 _ (omega (arith, ints, most, least, c.line_count-line-end.ensures.value, c.loop-line-test.true, c.loop-line.invariant.small, c.least-bound.ensures.size))

pub least-bound-requires-clause-load : goal.least-bound-requires-clause-load
least-bound-requires-clause-load c =
    λ d.
    let book = c.args.book.now in
    let weights = c.args.loads.now.weights.items in
    let load = read-again c.unit-unit_load.result (omega (arith, c.unit-unit_load.ensures.small)) ∙ c.unit-unit_load.ensures.value d in
    subst (IsLoad (get_or book.lines c.loop-line.line d)) (sym load)
    (load-is book weights (get_or book.lines c.loop-line.line d) c.requires.loads.weights
    (all-lines book.days book.lines c.requires.tableau.limits.lines c.loop-line.line d (omega (arith, c.line_count-line-end.ensures.value, c.loop-line-test.true))))

pub loop-line-init : goal.loop-line-init
loop-line-init c =
    let ends = read-again c.ends.result (omega (arith, c.ends.ensures.small)) ∙ c.ends.ensures.value in
    let whole = read-again c.needs_and_ends-bound.result (omega (arith, c.needs_and_ends-bound.ensures.small)) in record {
      sum = omega (arith, ints, whole, c.needs_and_ends-bound.ensures.value, ends, ap (λ n. COEFFICIENT_SCALE * n) c.needs_worth.ensures.value);
      small = omega (arith, ap unsigned_abs whole, c.needs_and_ends-bound.ensures.small);
      leasts = c.requires.leasts;
      right = λ k d e few. absurd (omega (arith, few));
    }

pub bounds-intervals-from : goal.bounds-intervals-from
bounds-intervals-from c =
    omega (
      arith,
      room-length c.args.book.now.lines c.args.ranges.now.lines c.requires.ranges.lines,
      ap length c.intervals-intervals.ensures.value,
      c.line_count-line-end.ensures.value,
      c.from.ensures,
      c.loop-line-test.true,
    )

pub least-bound-requires-clause-high : goal.least-bound-requires-clause-high
least-bound-requires-clause-high c =
    λ d.
    let none : Interval = record { low = 0; high = 0 } in
    let room = room-at c.args.book.now.lines c.args.ranges.now.lines c.loop-line.line d none c.requires.ranges.lines (omega (arith, c.line_count-line-end.ensures.value, c.loop-line-test.true)) in
    let interval : get_or c.intervals-intervals.result.now c.from.result none ≡ get_or c.args.ranges.now.lines c.loop-line.line none =
    (λ i. get_or (c.intervals-intervals.ensures.value i) (c.from.ensures i) none) in
    omega (arith, room, ap (λ (i : Interval). i.high) interval)

pub loop-line-preserved : goal.loop-line-preserved
loop-line-preserved c =
    let none : Interval = record { low = 0; high = 0 } in
    let ranges = c.intervals-intervals.result.now in
    let lines = c.args.book.now.lines in
    let place = c.loop-line.line in
    let interval = get_or ranges place none in
    let line = get_or lines place some-line in
    let same : length lines ≡ length ranges = omega (arith, room-length lines c.args.ranges.now.lines c.requires.ranges.lines, ap length c.intervals-intervals.ensures.value) in
    let few : place < length lines = omega (arith, c.line_count-line-end.ensures.value, c.loop-line-test.true) in
    let there : place < length ranges = omega (arith, same, few) in
    let f = λ (p : Line × Interval). least_within c.args.tableau.now.yield_units.0 c.args.book.now (with_weights c.args.tableau.now.priced.leaf c.args.loads.now.weights.items) p.0 p.1 in
    let most = count_lines c.args.book.now.days lines c.requires.tableau.limits.lines in
    let least = to_z-of_z w128 c.least-bound.result (record { sfits = c.least-bound.type_inv }) in
    let whole = read-again _ (omega (arith, ints, most, few, c.loop-line.invariant.small, c.least-bound.ensures.size)) in
    let value = whole ∙ ap (λ z. to_z w128 c.loop-line.bound-bits +ℤ z) least in
    let load = read-again c.unit-unit_load.result (omega (arith, c.unit-unit_load.ensures.small)) ∙ c.unit-unit_load.ensures.value some-line in
    let own = c.least-bound.ensures.value some-line
    ∙ (λ i. least_by c.args.tableau.now.yield_units.0 c.args.book.now c.args.tableau.now.priced.leaf line (load i) (get_or ranges (c.from.ensures i) none))
    ∙ least-weighted c.args.tableau.now.yield_units.0 c.args.book.now c.args.tableau.now.priced.leaf c.args.loads.now.weights.items line
    (unit_load c.args.book.now c.args.loads.now.weights.items line) (get_or ranges place none) in record {
      sum = value ∙ bound-more (first c.args.book.now c.args.ranges.now c.args.tableau.now.priced.leaf c.args.loads.now.weights.items) (to_z w128 c.loop-line.bound-bits) c.least-bound.result f
          lines ranges place line interval few same (get_or_default lines place some-line line few) (get_or_default ranges place none interval there) c.loop-line.invariant.sum own;
      small = omega (arith, ints, value, c.loop-line.invariant.small, c.least-bound.ensures.size);
      leasts = c.least-bound.ensures.leasts;
      right = right-more c.args.tableau.now.yield_units.0 c.args.book.now c.args.tableau.now.priced.leaf c.loop-line.self.lines.items c.least-bound.new.self.lines.items place
          c.loop-line.invariant.right c.least-bound.ensures.right c.least-bound.ensures.others;
    }

pub returns-clause-value : goal.returns-clause-value
returns-clause-value c =
    let f = λ (p : Line × Interval). least_within c.args.tableau.now.yield_units.0 c.args.book.now (with_weights c.args.tableau.now.priced.leaf c.args.loads.now.weights.items) p.0 p.1 in
    bound-all c.args.tableau.now.yield_units.0 c.args.book.now c.args.ranges.now (with_weights c.args.tableau.now.priced.leaf c.args.loads.now.weights.items) c.loop-line.line (to_z w128 c.loop-line.bound-bits)
    (omega (arith, c.line_count-line-end.ensures.value, c.loop-line-test.false))
    (c.loop-line.invariant.sum
    ∙ (λ i. first c.args.book.now c.args.ranges.now c.args.tableau.now.priced.leaf c.args.loads.now.weights.items
    +ℤ signed_sum f (take c.loop-line.line (zip c.args.book.now.lines (c.intervals-intervals.ensures.value i)))))

pub returns-clause-size : goal.returns-clause-size
returns-clause-size c =
    subst (λ z. unsigned_abs z < 10 ^ 37) (sym (returns-clause-value c))
    (bound-small c.args.tableau.now.yield_units.0 c.args.book.now c.args.ranges.now (with_weights c.args.tableau.now.priced.leaf c.args.loads.now.weights.items) c.requires.tableau.limits
    (with-weights (length c.args.book.now.needs) c.args.tableau.now.priced.leaf c.args.loads.now.weights.items c.requires.tableau.leaf c.requires.loads.weights) c.requires.ranges
    c.intervals-intervals.ensures.ordered c.intervals-intervals.ensures.sums_ordered)

pub returns-clause-leasts : goal.returns-clause-leasts
returns-clause-leasts c =
    all-right c.args.tableau.now.yield_units.0 c.args.book.now c.args.tableau.now.priced.leaf c.loop-line.self.changed _ c.args.book.now.lines c.loop-line.self.lines.items c.loop-line.invariant.leasts
    (λ k d e lt. c.loop-line.invariant.right k d e (omega (arith, lt, c.line_count-line-end.ensures.value, c.loop-line-test.false)))
