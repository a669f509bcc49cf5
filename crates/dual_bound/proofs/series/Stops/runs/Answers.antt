use Rattle.std.proofs.Common.{◌+◌, List, ℕ, IfSome, take, sym, subst}
use Rattle.std.specs.List.{AllZip}
use Rattle.dual_bound.specs.Columns.{IsRun, IsRunOf}
use Rattle.dual_bound.proofs.SumFacts.{runs-more}
use Rattle.dual_bound.proofs.series.Stops.runs.Goals as goal

pub loop-column-preserved : goal.loop-column-preserved
loop-column-preserved c =
    subst (AllZip (IsRunOf c.args.self.now.stops.items) (take (c.loop-column.column-index + 1) c.args.columns.now)) (sym c.in_ok-push.ensures.items)
    (runs-more c.args.self.now.stops.items c.args.columns.now c.loop-column.column-index c.column-item.result c.loop-column.runs.items c.find.result c.loop-column-test.true c.column-item.is c.loop-column.invariant
    (subst (λ (places : List ℕ). IfSome c.find.result (IsRun c.args.self.now.stops.items places)) c.as_slice.ensures.value c.find.ensures))
