use Rattle.std.proofs.Common.{◌<◌, ◌≤◌, ◌+◌, ◌*◌, ℕ, All, get_or, length, sym, subst, arith}
use Rattle.dual_bound.specs.Columns.{IsStopWithin}
use Rattle.dual_bound.specs.declared.column.Column.{Column}
use Rattle.dual_bound.specs.declared.series.Stops.{Stops}
use Rattle.dual_bound.proofs.series.Stops.lay_out.Goals as goal
use Rattle.dual_bound.proofs.series.Stops.lay_out.Goals.{in-Some+in_ok-run, in_default}

record IsSoFar (days most : ℕ) (stops : Stops) : Type 0 where
  within : All (IsStopWithin days) stops.stops.items
  few : length stops.stops.items ≤ most

pub loop-line-preserved : goal.loop-line-preserved
loop-line-preserved c = record { within = so-far.within; few = so-far.few }
  where
    so-far : IsSoFar c.args.days ((c.loop-line.line-index + 1) * 85) c.match-get.self
    so-far =
        elim c.match-get.branch [
          | in-Some+in_ok-run w ↦
              let column = w.in-Some.column.now in
              let found = w.in-Some.ensures.lookup.3 in
              let own : All (λ place. place < c.args.days) w.as_slice.result.now =
              subst (All (λ place. place < c.args.days)) (sym w.as_slice.ensures.value)
              (subst (λ (x : Column). All (λ place. place < c.args.days) x.places.items) (sym (found.1 column)) (c.requires.there (get_or c.args.order.now c.loop-line.line-index 0) column found.0)) in
              subst (IsSoFar c.args.days ((c.loop-line.line-index + 1) * 85)) (sym w.self-is) (record {
                within = w.in_ok-run.ensures.within c.args.days own c.loop-line.invariant.within;
                few = omega (arith, c.loop-line.invariant.few, w.in_ok-run.ensures.more);
              })
          | in_default w ↦
              subst (IsSoFar c.args.days ((c.loop-line.line-index + 1) * 85)) (sym w.self-is) (record { within = c.loop-line.invariant.within; few = omega (arith, c.loop-line.invariant.few) })
        ]
