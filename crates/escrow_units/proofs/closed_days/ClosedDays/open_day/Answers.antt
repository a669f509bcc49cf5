use Rattle.std.proofs.Common.{refl, subst}
use Rattle.escrow_units.specs.OpenDays.{Closings, IsOpenDay}
use Rattle.escrow_units.proofs.OpenDayFacts.{open_day-least, open_day-unique}
use Rattle.escrow_units.proofs.closed_days.ClosedDays.open_day.Goals as goal

pub returns-clause-least : goal.returns-clause-least
returns-clause-least c =
    let closed : Closings = record { weekends = c.self.inside.weekends; days = c.self.inside.days.items } in
    subst (λ (v : Closings). IsOpenDay v c.args.day c.open_from.result) c.self.view_is
    (c.open_from.ensures closed refl (rw c.as_slice.ensures.value c.self.invariant.order)
    (rw (c.as_slice.ensures.value, c.as_slice-2.ensures.value) (c.self.invariant.all c.args.day)))

pub returns-clause-value : goal.returns-clause-value
returns-clause-value c =
    open_day-unique c.args.self.now c.args.day _ _ (returns-clause-least c) (open_day-least c.args.self.now c.args.day)
