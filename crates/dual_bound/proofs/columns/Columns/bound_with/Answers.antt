use mir.Syntax.{w128}
use Rattle.std.proofs.Common.{◌≡◌, ◌∙◌, ◌<◌, ◌^◌, ℤ, ◌+ℤ◌, ◌-ℤ◌, get_or, length, refl, sym, ap, subst, arith, to_z, of_z, unsigned_abs}
use Rattle.std.proofs.lemmas.Int.{to_z-of_z}
use Rattle.offer_book.specs.declared.line.Line.{Line}
use Rattle.dual_bound.specs.Columns.{ColumnsContents}
use Rattle.dual_bound.specs.LeafBound.{bound_of, least_by, least_within, unit_load}
use Rattle.dual_bound.specs.Loads.{IsLoad, with_weights}
use Rattle.node_ranges.specs.Ranges.{AreOf, with_interval}
use Rattle.proof_tree.specs.declared.tree.Part.TheVariants as part
use Rattle.proof_tree.specs.declared.interval.Interval.{Interval}
use Rattle.dual_bound.proofs.BoundSizes.{bound-small, room-at, room-length}
use Rattle.dual_bound.proofs.LeastFacts.{least-weighted, with-weights}
use Rattle.dual_bound.proofs.LoadFacts.{load-is}
use Rattle.dual_bound.proofs.Signed.{read-again}
use Rattle.dual_bound.proofs.Soundness.{all-lines}
use Rattle.dual_bound.proofs.TableauFacts.{bound-set, some-line}
use Rattle.dual_bound.proofs.columns.Columns.bound_with.Goals as goal

-- the ranges are those of the book of the columns
ranges-of : (c : goal.After-from) → AreOf c.self.inside.book.now c.args.ranges.now
ranges-of c = subst (λ (v : ColumnsContents). AreOf v.book c.args.ranges.now) (sym c.self.view_is) c.requires.ranges

there : (c : goal.After-from) → c.args.line < length c.self.inside.book.now.lines
there c = subst (λ (v : ColumnsContents). c.args.line < length v.book.lines) (sym c.self.view_is) c.requires.line

loaded : (c : goal.After-from) (d : Line) → IsLoad (get_or c.self.inside.book.now.lines c.args.line d) (to_z w128 (of_z w128 c.unit-unit_load.result))
loaded c d =
    let book = c.self.inside.book.now in
    let load = read-again c.unit-unit_load.result (omega (arith, c.unit-unit_load.ensures.small)) ∙ c.unit-unit_load.ensures.value d in
    subst (IsLoad (get_or book.lines c.args.line d)) (sym load)
    (load-is book c.self.inside.loads.weights.items (get_or book.lines c.args.line d) c.self.invariant.1.weights
    (all-lines book.days book.lines c.self.invariant.0.known.of_book.limits.lines c.args.line d (there c)))

pub bounds-intervals-from : goal.bounds-intervals-from
bounds-intervals-from c = omega (arith, room-length c.self.inside.book.now.lines c.args.ranges.now.lines (ranges-of c).lines, ap length c.intervals.ensures.value, c.from.ensures, there c)

pub least-old-requires-clause-high : goal.least-old-requires-clause-high
least-old-requires-clause-high c =
    λ d.
    let none : Interval = record { low = 0; high = 0 } in
    let room = room-at c.self.inside.book.now.lines c.args.ranges.now.lines c.args.line d none (ranges-of c.before).lines (there c.before) in
    let interval : get_or c.intervals.result.now c.from.result none ≡ get_or c.args.ranges.now.lines c.args.line none = (λ i. get_or (c.intervals.ensures.value i) (c.from.ensures i) none) in
    omega (arith, room, ap (λ (i : Interval). i.high) interval)

pub least-old-requires-clause-load : goal.least-old-requires-clause-load
least-old-requires-clause-load c = loaded c.before

pub least-new-requires-clause-load : goal.least-new-requires-clause-load
least-new-requires-clause-load c = loaded c.before.before

-- the bound that is given, by what is inside of the columns
bound-is : (c : goal.After-from)
    → to_z w128 (of_z w128 c.args.bound)
    ≡ bound_of c.self.inside.tableau.yield_units.0 c.self.inside.book.now c.args.ranges.now (with_weights c.self.inside.tableau.priced.leaf c.self.inside.loads.weights.items)
bound-is c =
    to_z-of_z w128 c.args.bound c.ranges.bound
    ∙ subst (λ (v : ColumnsContents). c.args.bound ≡ bound_of v.yield_units v.book c.args.ranges.now v.leaf) (sym c.self.view_is) c.requires.bound

pub exchanged-requires-clause-sum : goal.exchanged-requires-clause-sum
exchanged-requires-clause-sum c =
    let state = c.before.before.before in
    let book = c.self.inside.book.now in
    let known = c.self.invariant.0.known.of_book in
    let leaf = c.self.inside.tableau.priced.leaf in
    let weights = c.self.inside.loads.weights.items in
    subst (λ z. unsigned_abs z < 10 ^ 37) (sym (bound-is state))
    (bound-small c.self.inside.tableau.yield_units.0 book c.args.ranges.now (with_weights leaf weights) known.limits (with-weights (length book.needs) leaf weights known.leaf c.self.invariant.1.weights)
    (ranges-of state) c.intervals.ensures.ordered c.intervals.ensures.sums_ordered)

-- what the line adds within an interval, by the leaf with its weights
own-least : (c : goal.After-from) (line : Line) (interval : Interval) → line ≡ get_or c.self.inside.book.now.lines c.args.line some-line
    → least_by c.self.inside.tableau.yield_units.0 c.self.inside.book.now c.self.inside.tableau.priced.leaf line (to_z w128 (of_z w128 c.unit-unit_load.result)) interval
    ≡ least_within c.self.inside.tableau.yield_units.0 c.self.inside.book.now (with_weights c.self.inside.tableau.priced.leaf c.self.inside.loads.weights.items) line interval
own-least c line interval is =
    let n = c.self.inside.tableau.yield_units.0 in
    let book = c.self.inside.book.now in
    let leaf = c.self.inside.tableau.priced.leaf in
    let weights = c.self.inside.loads.weights.items in
    let load = read-again c.unit-unit_load.result (omega (arith, c.unit-unit_load.ensures.small)) ∙ c.unit-unit_load.ensures.value some-line ∙ ap (unit_load book weights) (sym is) in
    ap (λ (z : ℤ). least_by n book leaf line z interval) load ∙ least-weighted n book leaf weights line (unit_load book weights line) interval

pub returns : goal.returns
returns c =
    let state = c.before.before.before.before in
    let none : Interval = record { low = 0; high = 0 } in
    let n = c.self.inside.tableau.yield_units.0 in
    let book = c.self.inside.book.now in
    let leaf = with_weights c.self.inside.tableau.priced.leaf c.self.inside.loads.weights.items in
    let line = get_or book.lines c.args.line some-line in
    let interval : get_or c.intervals.result.now c.from.result none ≡ get_or c.args.ranges.now.lines c.args.line none = (λ i. get_or (c.intervals.ensures.value i) (c.from.ensures i) none) in
    let old = to_z-of_z w128 c.least-old.result (record { sfits = c.least-old.type_inv }) ∙ c.least-old.ensures.value some-line
    ∙ own-least state line (get_or c.intervals.result.now c.from.result none) refl ∙ ap (λ x. least_within n book leaf line x) interval in
    let new = to_z-of_z w128 c.least-new.result (record { sfits = c.least-new.type_inv }) ∙ c.least-new.ensures.value some-line ∙ own-least state line c.args.interval refl in
    record {
      value = subst (λ (v : ColumnsContents). to_z w128 (of_z w128 c.exchanged.result) ≡ bound_of v.yield_units v.book (with_interval c.args.ranges.now (part.Line c.args.line) c.args.interval) v.leaf) c.self.view_is
          (to_z-of_z w128 c.exchanged.result (record { sfits = c.exchanged.type_inv }) ∙ c.exchanged.ensures
          ∙ (λ i. (bound-is state i -ℤ old i) +ℤ new i)
          ∙ bound-set n book leaf c.args.ranges.now c.args.line c.args.interval some-line none (there state) (room-length book.lines c.args.ranges.now.lines (ranges-of state).lines));
    }
