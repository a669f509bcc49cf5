use Rattle.std.proofs.Common.{rules, ◌<◌, length, get_or}
use Rattle.std.proofs.lemmas.List.Elements.{All-more}
use Rattle.escrow_units.specs.OpenDays.{IsBy2190}
use Rattle.worked_figures.proofs.subject.are_by_2190.Goals as goal

pub loop-day-preserved : goal.loop-day-preserved
loop-day-preserved c =
    let within : c.loop-day.day-index < length c.args.days.now = search rules in
    let by : IsBy2190 (get_or c.args.days.now c.loop-day.day-index c.day-item.result) = search rules in
    All-more IsBy2190 c.args.days.now c.loop-day.day-index c.day-item.result within c.loop-day.invariant by
