use Rattle.std.proofs.Common.{◌∙◌, arith}
use Rattle.dual_bound.specs.Rooms.{AreColumns}
use Rattle.dual_bound.proofs.columns.Columns.make.Goals as goal

pub invariant_of-result : goal.invariant_of-result
invariant_of-result c =
    let columns : AreColumns c.args.book.now c.in_ok-tableau.tableau c.in_ok-leasts.leasts c.none.result c.in_ok-make-2.field-0 = record {
      known = record { of_book = c.in_ok-tableau.ensures.tableau; right = c.in_ok-leasts.ensures };
      besides = c.none.ensures c.args.book.now c.in_ok-tableau.tableau;
      room = omega (arith, c.in_ok-make-2.ensures, c.need_count.ensures.value);
    } in
    (columns, c.in_ok-make.ensures.loads, c.schedules.view_is ∙ c.in_ok-schedules.ensures)
