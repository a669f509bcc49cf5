use mir.Syntax.{w128}
use Rattle.std.proofs.Common.{◌≡◌, ◌∙◌, ◌≤◌, ◌<◌, ◌*◌, ◌^◌, get_or, length, sym, ap, subst, arith, unsigned_abs}
use Rattle.std.proofs.lemmas.Int.{to_z-of_z}
use Rattle.std.proofs.lemmas.List.{get_or_default}
use Rattle.offer_book.specs.Book.{IsLine}
use Rattle.offer_book.specs.declared.line.Line.{Line}
use Rattle.dual_bound.specs.LeafBound.{form_of, least_within}
use Rattle.dual_bound.specs.declared.form.Form.{Form}
use Rattle.proof_tree.specs.declared.interval.Interval.{Interval}
use Rattle.dual_bound.proofs.BoundSizes.{least-room, of-times, room-at, room-length, within-small}
use Rattle.dual_bound.proofs.Soundness.{all-lines}
use Rattle.dual_bound.proofs.TableauFacts.{some-line}
use Rattle.dual_tune.specs.Sweep.{IsPoint}
use Rattle.dual_tune.proofs.TableFacts.{form-light, form-thin, least-none}
use Rattle.dual_tune.proofs.sweep.line_least.Goals as goal
use Rattle.dual_tune.proofs.sweep.line_least.Goals.{After-index-lines-at, After-intervals}

none : Interval
none = record { low = 0; high = 0 }

-- the line has an interval
there : (c : After-intervals) → c.args.line < length c.args.given.now.ranges.now.lines
there c = omega (arith, c.requires.line, room-length c.args.given.now.book.now.lines c.args.given.now.ranges.now.lines c.args.given.now.room)

-- it is the one that is read, in order and within what the line may buy
interval-is : (c : After-intervals) (e : Interval) → get_or c.intervals.result.now c.from-at.result none ≡ get_or c.args.given.now.ranges.now.lines c.args.line e
unfolding none
interval-is c e = (λ i. get_or (c.intervals.ensures.value i) (c.from-at.ensures i) none) ∙ get_or_default c.args.given.now.ranges.now.lines c.args.line none e (there c)

ordered : (c : After-intervals) → (get_or c.intervals.result.now c.from-at.result none).low ≤ (get_or c.intervals.result.now c.from-at.result none).high
ordered c = subst (λ (z : Interval). z.low ≤ z.high) (sym (interval-is c none)) (c.args.given.now.ordered c.args.line none (there c))

room : (c : After-intervals) (d : Line) → (get_or c.intervals.result.now c.from-at.result none).high ≤ (get_or c.args.given.now.book.now.lines c.args.line d).most
room c d =
    subst (λ (z : Interval). z.high ≤ (get_or c.args.given.now.book.now.lines c.args.line d).most) (sym (interval-is c none))
    (room-at c.args.given.now.book.now.lines c.args.given.now.ranges.now.lines c.args.line d none c.args.given.now.room c.requires.line)

-- the line that is read
line-is : (c : After-index-lines-at) → c.index-lines-at.result ≡ get_or c.args.given.now.book.now.lines c.args.line c.index-lines-at.result
line-is c = c.index-lines-at.is ∙ (λ i. get_or (c.lines-lines.ensures.value i) (c.from-at.ensures i) c.index-lines-at.result)

pub bounds-intervals-at : goal.bounds-intervals-at
bounds-intervals-at c = omega (arith, there c, ap length c.intervals.ensures.value, c.from-at.ensures)

pub least-requires-clause-high : goal.least-requires-clause-high
unfolding none
least-requires-clause-high c = λ d. subst (λ b. (get_or c.intervals.result.now c.from-at.result none).high ≤ (get_or b.lines c.args.line d).most) (sym c.requires.own.book) (room (goal.at.least-requires-clause-high c).After-intervals d)

pub returns-then-interval-eq0-clause-value : goal.returns-then-interval-eq0-clause-value
unfolding none
returns-then-interval-eq0-clause-value c =
    λ d e leaf is.
    let start = (goal.at.returns-then-interval-eq0-clause-value c).After-intervals in
    least-none c.args.given.now.yield_units.0 c.args.given.now.book.now leaf (get_or c.args.given.now.book.now.lines c.args.line d) (get_or c.intervals.result.now c.from-at.result none) (ordered start) c.if-interval-eq0.true
    ∙ ap (least_within c.args.given.now.yield_units.0 c.args.given.now.book.now leaf (get_or c.args.given.now.book.now.lines c.args.line d)) (interval-is start e)

pub returns-then-interval-clause-value : goal.returns-then-interval-clause-value
unfolding none
returns-then-interval-clause-value c =
    λ d e leaf is.
    let start = (goal.at.returns-then-interval-clause-value c).After-intervals in
    let own = c.requires.own in
    let point : IsPoint (get_or c.intervals.result.now c.from-at.result none) = record { some = omega (arith, c.if-interval.true, c.if-interval-eq0.false); one = c.if-interval.true } in
    let same = is.point none (subst IsPoint (interval-is start none) point) in
    to_z-of_z w128 c.least.result (record { sfits = c.least.type_inv }) ∙ c.least.ensures.value d
    ∙ (λ i. least_within (own.yield_units i) (own.book i) (same i) (get_or (own.book i).lines c.args.line d) (interval-is start e i))

pub least_within-requires-clause-low : goal.least_within-requires-clause-low
unfolding none
least_within-requires-clause-low c =
    let start = (goal.at.least_within-requires-clause-low c).After-intervals in
    form-light c.args.given.now c.args.columns.now.leaf c.requires.form.0 c.args.line c.args.form (get_or c.intervals.result.now c.from-at.result none).low c.lines-lines.ensures.limits c.requires.form.1 c.requires.line
    (omega (arith, ordered start, room start some-line))

pub least_within-requires-clause-high : goal.least_within-requires-clause-high
unfolding none
least_within-requires-clause-high c =
    form-light c.args.given.now c.args.columns.now.leaf c.requires.form.0 c.args.line c.args.form (get_or c.intervals.result.now c.from-at.result none).high c.lines-lines.ensures.limits c.requires.form.1 c.requires.line
    (room (goal.at.least_within-requires-clause-high c).After-intervals some-line)

pub least_within-requires-clause-least : goal.least_within-requires-clause-least
unfolding none
least_within-requires-clause-least c =
    let start = (goal.at.least_within-requires-clause-least c).After-intervals in
    let n = c.args.given.now.yield_units.0 in
    let book = c.args.given.now.book.now in
    let limits = c.lines-lines.ensures.limits in
    let line = c.index-lines-at.result in
    let own = line-is (goal.at.least_within-requires-clause-least c).After-index-lines-at in
    let interval = get_or c.intervals.result.now c.from-at.result none in
    let is = subst (IsLine book.days) (sym own) (all-lines book.days book.lines limits.lines c.args.line line c.requires.line) in
    let most : interval.high ≤ line.most = subst (λ (l : Line). interval.high ≤ l.most) (sym own) (room start line) in
    let form = c.requires.form.1.value line ∙ ap (form_of n book c.requires.form.0) (sym own) in
    omega (
      arith,
      ap (λ (f : Form). unsigned_abs f.slope * line.least) form,
      of-times n book c.requires.form.0 line line.least limits.settlement c.requires.form.1.well_formed is (least-room book.days line interval is (ordered start) most c.if-interval.false),
    )

pub least_within-requires-clause-slack : goal.least_within-requires-clause-slack
least_within-requires-clause-slack c =
    form-thin c.args.given.now c.args.columns.now.leaf c.requires.form.0 c.args.line c.args.form c.lines-lines.ensures.limits c.requires.form.1 c.requires.line

pub returns-clause-value : goal.returns-clause-value
unfolding none
returns-clause-value c =
    λ d e leaf is.
    let n = c.args.given.now.yield_units.0 in
    let book = c.args.given.now.book.now in
    let line = c.index-lines-at.result in
    let own = line-is (goal.at.returns-clause-value c).After-index-lines-at in
    let form = is.value line ∙ ap (form_of n book leaf) (sym own) in
    to_z-of_z w128 c.least_within.result (record { sfits = c.least_within.type_inv }) ∙ c.least_within.ensures.of_line n book leaf form
    ∙ (λ i. least_within n book leaf ((own ∙ get_or_default book.lines c.args.line line d c.requires.line) i) (interval-is (goal.at.returns-clause-value c).After-intervals e i))

pub returns-clause-size : goal.returns-clause-size
returns-clause-size c =
    let start = (goal.at.returns-clause-size c).After-intervals in
    let n = c.args.given.now.yield_units.0 in
    let book = c.args.given.now.book.now in
    let limits = c.lines-lines.ensures.limits in
    let interval = get_or c.args.given.now.ranges.now.lines c.args.line none in
    let value = returns-clause-value c some-line none c.requires.form.0 c.requires.form.1 in
    subst (λ z. unsigned_abs z ≤ 71 * 10 ^ 33) (sym value)
    (within-small n book c.requires.form.0 (get_or book.lines c.args.line some-line) interval limits.settlement c.requires.form.1.well_formed
    (all-lines book.days book.lines limits.lines c.args.line some-line c.requires.line) (c.args.given.now.ordered c.args.line none (there start))
    (room-at book.lines c.args.given.now.ranges.now.lines c.args.line some-line none c.args.given.now.room c.requires.line))
