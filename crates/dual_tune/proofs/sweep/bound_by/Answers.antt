use mir.Syntax.{w128}
use mir.Val.{to_z}
use Rattle.std.proofs.Common.{◌≡◌, ◌∙◌, ◌<◌, ◌*◌, ◌^◌, pos, ◌+ℤ◌, length, get_or, sym, ap, subst, arith, unsigned_abs}
use Rattle.std.proofs.lemmas.Int.{ints, to_z-of_z}
use Rattle.std.proofs.lemmas.List.{get_or_default}
use Rattle.offer_book.specs.declared.coefficients.TheConstants.{COEFFICIENT_SCALE}
use Rattle.offer_book.specs.declared.line.Line.{Line}
use Rattle.cash_table.proofs.PaymentFacts.{count_lines}
use Rattle.dual_bound.specs.LeafBound.{least_within, priced_needs}
use Rattle.proof_tree.specs.declared.interval.Interval.{Interval}
use Rattle.dual_bound.proofs.BoundSizes.{bound-more, bound-plain_all, bound-small, room-length}
use Rattle.dual_bound.proofs.Signed.{read-again}
use Rattle.dual_bound.proofs.TableauFacts.{some-line}
use Rattle.dual_bound.specs.declared.form.Form.{Form}
use Rattle.dual_tune.specs.Sweep.{IsFormAt}
use Rattle.dual_tune.proofs.TableFacts.{form-at, needs-small}
use Rattle.dual_tune.proofs.sweep.bound_by.Goals as goal
use Rattle.dual_tune.proofs.sweep.bound_by.Goals.{After-from}

-- the form is that of the line
line-form : (c : After-from) → IsFormAt c.args.given.now c.args.columns.now.leaf c.loop-line.line c.args.leaf.now (get_or c.args.forms.now c.from.result (record { slope = pos 0; slack = 0 }))
line-form c =
    let forms = c.args.forms.now in
    let none : Form = record { slope = pos 0; slack = 0 } in
    let few : c.loop-line.line < length c.args.given.now.book.now.lines = omega (arith, c.line_count-line-end.ensures.value, c.loop-line-test.true) in
    let own = get_or forms c.from.result none in
    form-at c.args.given.now c.args.columns.now.leaf c.args.leaf.now forms c.loop-line.line own c.requires.leaf c.requires.forms c.requires.priced few
    (ap (λ k. get_or forms k none) c.from.ensures ∙ get_or_default forms c.loop-line.line none own (omega (arith, c.requires.room, few)))

pub line_least-bound-requires-clause-form : goal.line_least-bound-requires-clause-form
line_least-bound-requires-clause-form c = (c.args.leaf.now, line-form (goal.at.line_least-bound-requires-clause-form c).After-from)

pub loop-line-init : goal.loop-line-init
loop-line-init c =
    let needs = to_z-of_z w128 c.args.needs c.ranges.needs ∙ c.requires.needs in
    let small = needs-small c.args.given.now.book.now c.args.leaf.now c.line_count-line-end.ensures.limits c.requires.leaf in (omega (arith, ints, needs), omega (arith, ints, needs, small))

pub loop-line-preserved : goal.loop-line-preserved
loop-line-preserved c =
    let given = c.args.given.now in
    let n = given.yield_units.0 in
    let book = given.book.now in
    let leaf = c.args.leaf.now in
    let none : Interval = record { low = 0; high = 0 } in
    let ranges = given.ranges.now.lines in
    let lines = book.lines in
    let place = c.loop-line.line in
    let interval = get_or ranges place none in
    let line = get_or lines place some-line in
    let same : length lines ≡ length ranges = room-length lines ranges given.room in
    let few : place < length lines = omega (arith, c.line_count-line-end.ensures.value, c.loop-line-test.true) in
    let f = λ (p : Line × Interval). least_within n book leaf p.0 p.1 in
    let most = count_lines book.days lines c.line_count-line-end.ensures.limits.lines in
    let least = to_z-of_z w128 c.line_least-bound.result (record { sfits = c.line_least-bound.type_inv }) in
    let whole = read-again _ (omega (arith, ints, most, few, c.loop-line.invariant.1, c.line_least-bound.ensures.size)) in
    let value = whole ∙ ap (λ z. to_z w128 c.loop-line.bound-bits +ℤ z) least in
    let own = c.line_least-bound.ensures.value some-line none leaf (line-form (goal.at.loop-line-preserved c).After-from) in (
      value ∙ bound-more (pos (COEFFICIENT_SCALE * priced_needs book.needs leaf.prices)) (to_z w128 c.loop-line.bound-bits) c.line_least-bound.result f lines ranges place line interval few same
          (get_or_default lines place some-line line few) (get_or_default ranges place none interval (omega (arith, same, few))) c.loop-line.invariant.0 own,
      omega (arith, ints, value, c.loop-line.invariant.1, c.line_least-bound.ensures.size),
    )

pub returns-clause-value : goal.returns-clause-value
returns-clause-value c =
    bound-plain_all c.args.given.now.yield_units.0 c.args.given.now.book.now c.args.given.now.ranges.now c.args.leaf.now c.loop-line.line (to_z w128 c.loop-line.bound-bits) c.requires.unweighted
    (omega (arith, c.line_count-line-end.ensures.value, c.loop-line-test.false)) c.loop-line.invariant.0

pub returns-clause-size : goal.returns-clause-size
returns-clause-size c =
    let given = c.args.given.now in
    subst (λ z. unsigned_abs z < 10 ^ 37) (sym (returns-clause-value c))
    (bound-small given.yield_units.0 given.book.now given.ranges.now c.args.leaf.now c.line_count-line-end.ensures.limits c.requires.leaf (record { lines = given.room; sums = given.sums }) given.ordered given.sums_ordered)
