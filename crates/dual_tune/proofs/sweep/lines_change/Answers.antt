use mir.Syntax.{w128}
use mir.Val.{to_z}
use Rattle.std.proofs.Common.{◌∙◌, ◌<◌, ◌≤◌, ◌+◌, ◌-◌, length, get_or, ap, arith, pos, ◌+ℤ◌, ◌-ℤ◌, List}
use Rattle.std.proofs.lemmas.Int.{ints}
use Rattle.std.proofs.lemmas.List.{take_all}
use Rattle.std.proofs.lemmas.Slice.Zip.{length-zip}
use Rattle.std.specs.List.{zip}
use Rattle.offer_book.specs.declared.line.Line.{Line}
use Rattle.cash_table.proofs.PaymentFacts.{count_lines}
use Rattle.dual_bound.specs.LeafBound.{least_within, signed_sum}
use Rattle.proof_tree.specs.Tree.{with_price}
use Rattle.proof_tree.specs.declared.interval.Interval.{Interval}
use Rattle.proof_tree.specs.declared.tree.Leaf.{Leaf}
use Rattle.dual_bound.proofs.BoundSizes.{room-length}
use Rattle.dual_bound.proofs.Signed.{read-again}
use Rattle.dual_bound.proofs.TableauFacts.{some-line}
use Rattle.dual_tune.specs.declared.sweep.LineLeast.{LineLeast}
use Rattle.dual_tune.proofs.SweepFacts.{behind, grown-aside, grown-more, none-behind, none-between, up-to}
use Rattle.dual_tune.proofs.TableFacts.{step-form}
use Rattle.dual_tune.proofs.sweep.lines_change.Goals as goal

pub line_least-least-requires-clause-form : goal.line_least-least-requires-clause-form
line_least-least-requires-clause-form c =
    let step = c.args.step.now in (
      with_price c.args.given.now.leaf.now step.place step.price,
      step-form c.args.given.now c.args.columns.now.leaf step c.loop-payer.payer (record { slope = pos 0; slack = 0 }) c.requires.step c.requires.priced c.loop-payer-test.true,
    )

pub change-more-requires-clause-before : goal.change-more-requires-clause-before
change-more-requires-clause-before c =
    let few = c.requires.step.payers.there c.loop-payer.payer 0 c.loop-payer-test.true in
    c.requires.leasts.small c.from.result (record { least = pos 0 }) (omega (arith, c.requires.leasts.every_line, few, c.from.ensures))

pub loop-payer-preserved : goal.loop-payer-preserved
loop-payer-preserved c =
    let given = c.args.given.now in
    let lines = given.book.now.lines in
    let step = c.args.step.now in
    let stepped = with_price given.leaf.now step.place step.price in
    let none : Interval = record { low = 0; high = 0 } in
    let least : LineLeast = record { least = pos 0 } in
    let index = c.loop-payer.payer in
    let line = get_or step.lines.now index 0 in
    let from = c.loop-payer.invariant.0 in
    let payers = c.requires.step.payers in
    let reach : from ≤ line = c.loop-payer.invariant.5 index (omega arith) c.loop-payer-test.true in
    let few : line < length lines = payers.there index 0 c.loop-payer-test.true in
    let most = count_lines given.book.now.days lines c.requires.limits.lines in
    let own = read-again c.change-more.result (omega (arith, c.change-more.ensures.size)) in
    let whole = read-again _ (omega (arith, ints, own, most, c.loop-payer.invariant.1, c.loop-payer.invariant.3, c.change-more.ensures.size)) in
    let value = whole ∙ ap (λ z. to_z w128 c.loop-payer.more-bits +ℤ z) own in
    let kept = ap (λ k. (get_or c.args.leasts.now k least).least) c.from.ensures ∙ c.requires.leasts.value line some-line none least few in
    let is = step-form given c.args.columns.now.leaf step index (record { slope = pos 0; slack = 0 }) c.requires.step c.requires.priced c.loop-payer-test.true in
    let added = read-again c.line_least-least.result (omega (arith, c.line_least-least.ensures.size)) ∙ c.line_least-least.ensures.value some-line none stepped is in (
      line + 1,
      omega (arith, few),
      value ∙ grown-more given step from line (to_z w128 c.loop-payer.more-bits) c.change-more.result some-line none c.requires.step reach few
          (λ k ge lt. none-between step.lines.now index from k payers.rising c.loop-payer-test.true c.loop-payer.invariant.4 ge lt) c.loop-payer.invariant.2
          (c.change-more.ensures.value ∙ (λ i. added i -ℤ kept i)),
      omega (arith, ints, value, reach, c.loop-payer.invariant.3, c.change-more.ensures.size),
      up-to step.lines.now index payers.rising c.loop-payer-test.true,
      behind step.lines.now index payers.rising,
    )

pub returns-clause-value : goal.returns-clause-value
returns-clause-value c =
    let given = c.args.given.now in
    let n = given.yield_units.0 in
    let book = given.book.now in
    let ranges = given.ranges.now.lines in
    let step = c.args.step.now in
    let from = c.loop-payer.invariant.0 in
    let all = take_all (length book.lines) (zip book.lines ranges) (omega (arith, length-zip book.lines ranges, room-length book.lines ranges given.room)) in
    let worth = λ (leaf : Leaf) (parts : List (Line × Interval)). signed_sum (λ p. least_within n book leaf p.0 p.1) parts in
    grown-aside given step from (length book.lines - from) (length book.lines) (to_z w128 c.loop-payer.more-bits) c.requires.step (omega (arith, c.loop-payer.invariant.1)) (omega arith)
    (λ line ge lt. none-behind step.lines.now c.loop-payer.payer from line c.loop-payer-test.false c.loop-payer.invariant.4 ge) c.loop-payer.invariant.2
    ∙ (λ i. worth (with_price given.leaf.now step.place step.price) (all i) -ℤ worth given.leaf.now (all i))

pub returns-clause-size : goal.returns-clause-size
returns-clause-size c =
    omega (arith, ints, count_lines c.args.given.now.book.now.days c.args.given.now.book.now.lines c.requires.limits.lines, c.loop-payer.invariant.1, c.loop-payer.invariant.3)
