use Rattle.std.proofs.Common.{arith, subst, sym}
use Rattle.node_ranges.specs.Ranges.{AreOf}
use Rattle.dual_bound.proofs.BoundSizes.{room-length}
use Rattle.dual_tune.specs.Tuner.{TunerContents}
use Rattle.dual_tune.proofs.tuner.Tuner.stand.Goals as goal

pub solve-requires : goal.solve-requires
solve-requires c =
    let ranges = c.args.ranges.now.lines in
    omega (
      arith,
      c.line_count-lines.ensures.value,
      room-length c.self.inside.book.now.lines ranges (subst (λ (t : TunerContents). AreOf t.book c.args.ranges.now) (sym c.self.view_is) c.requires).lines,
    )
