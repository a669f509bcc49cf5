use Rattle.std.proofs.Common.{◌≡◌, ◌∙◌, ap, sym, refl, drop, arith}
use Rattle.std.specs.List.{sum_by, zip}
use Rattle.std.proofs.lemmas.List.{take_rest}
use Rattle.fixed_powers.specs.declared.side.Side.{Side}
use Rattle.fixed_powers.specs.declared.side.Side.TheVariants.{Low}
use Rattle.cash_table.specs.Points.{low_value}
use Rattle.cash_table.proofs.CostFacts.{drop-zip}
use Rattle.cash_table.proofs.FlowFacts.{securities_permitted}
use Rattle.cash_table.proofs.PointFacts.{pair_value, value-at_most, value-securities}
use Rattle.cash_table.proofs.points.is_dearer.Goals as goal

pub lines_value-worth-requires-clause-permitted : goal.lines_value-worth-requires-clause-permitted
lines_value-worth-requires-clause-permitted c =
    simp (take_rest, drop-zip, c.lines-lines.ensures.value, c.units.ensures) (securities_permitted c.args.book.now.lines c.args.plan.now c.requires.permitted.units)

pub lines_value-worth-requires-clause-room : goal.lines_value-worth-requires-clause-room
lines_value-worth-requires-clause-room c =
    simp (take_rest, drop-zip, c.payment_days.ensures, c.lines-lines.ensures.value, c.units.ensures)
    (omega (arith, value-at_most c.args.powers.now.side c.args.powers.now.yield_units c.args.book.now c.args.plan.now c.lines-lines.ensures.limits c.requires.permitted))

pub returns : goal.returns
returns c =
    let n = c.args.powers.now.yield_units in
    let worth : c.lines_value-worth.result ≡ sum_by (pair_value c.args.powers.now.side n c.args.book.now.days) (drop 1 (zip c.args.book.now.lines c.args.plan.now)) =
    simp (take_rest, drop-zip, c.payment_days.ensures, c.lines-lines.ensures.value, c.units.ensures) at c.lines_value-worth.ensures in
    let low : c.lines_value-worth.result ≡ low_value c.args.book.now n c.args.plan.now =
    worth ∙ ap (λ (side : Side). sum_by (pair_value side n c.args.book.now.days) (drop 1 (zip c.args.book.now.lines c.args.plan.now))) c.requires.low ∙ sym (value-securities Low n c.args.book.now c.args.plan.now) in
    rw (low, c.security_cost.ensures.value) refl
