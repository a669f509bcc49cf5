use Rattle.std.proofs.Common.{◌≡◌, sym, subst, get_or}
use Rattle.std.specs.Cmp.{int_ranks}
use Rattle.escrow_units.specs.OpenDays.{IsOpenDay}
use Rattle.escrow_units.proofs.OpenTableFacts.{IsPast, not-among, open-found, open-unlisted}
use Rattle.escrow_units.proofs.closed_days.open_from.Goals as goal

pub returns-in-Ok : goal.returns-in-Ok
returns-in-Ok c = λ closed same order all.
    let day = c.past_weekend-past.result in
    let past : IsPast c.args.weekends c.args.day day = record {
      from = c.past_weekend-past.ensures.from;
      opens = c.past_weekend-past.ensures.past;
      between = c.past_weekend-past.ensures.between;
    } in
    let found : get_or c.args.ordered.now c.in-Ok.place day ≡ day = rw (c.in-Ok.ensures.ok day) at (int_ranks (get_or c.args.ordered.now c.in-Ok.place day) day) in
    subst (IsOpenDay closed c.args.day) (sym c.index-opens-place.is)
    (open-found closed c.args.weekends c.args.ordered.now c.args.opens.now c.args.day day c.index-opens-place.result c.in-Ok.place same order all past c.in-Ok.ensures.bound found)

pub returns-in-Err : goal.returns-in-Err
returns-in-Err c = λ closed same order all.
    let day = c.past_weekend-past.result in
    let past : IsPast c.args.weekends c.args.day day = record {
      from = c.past_weekend-past.ensures.from;
      opens = c.past_weekend-past.ensures.past;
      between = c.past_weekend-past.ensures.between;
    } in
    open-unlisted closed c.args.weekends c.args.day day same past
    (not-among closed c.args.ordered.now day c.in-Err.field-0 order c.in-Err.ensures.position)
