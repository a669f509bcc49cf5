use Rattle.std.proofs.Common.{arith, FitsSigned, w32, w64, ◌∙◌}
use Rattle.std.proofs.lemmas.Int.{to_z-of_z}
use Rattle.jiff.proofs.SpanFacts.{signed_arith}
use Rattle.escrow_units.proofs.DayFacts.{date_add-months, can_add-months}
use Rattle.escrow_units.proofs.calendar.shifted.Goals as goal

pub unreachable-requires : goal.unreachable-requires
unreachable-requires c =
    let f4 : FitsSigned w32 c.args.months = c.ranges.months in
    let f8 : FitsSigned w64 c.args.months = omega (arith, signed_arith) in
    let only = simp to_z-of_z at c.months.ensures in
    let can = can_add-months c.args.date c.args.months c.months.result only c.requires.base c.requires.few in
    cc (c.in-Err.ensures.succeeds.1 can)

pub returns : goal.returns
returns c =
    let f4 : FitsSigned w32 c.args.months = c.ranges.months in
    let f8 : FitsSigned w64 c.args.months = omega (arith, signed_arith) in
    let only = simp to_z-of_z at c.months.ensures in
    c.in-Ok.ensures.value ∙ date_add-months c.args.date c.args.months c.months.result only
