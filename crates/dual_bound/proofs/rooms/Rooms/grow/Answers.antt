use Rattle.dual_bound.proofs.rooms.Rooms.grow.Goals as goal

pub returns-then-is_err : goal.returns-then-is_err
returns-then-is_err c = λ book known rooms. c.add.ensures book known (c.loop.invariant book known rooms)

pub loop-preserved : goal.loop-preserved
loop-preserved c = λ book known rooms. c.add.ensures book known (c.loop.invariant book known rooms)
