use Rattle.escrow_check.proofs.WalkFacts.{within-tight}
use Rattle.escrow_check.proofs.trial.Trial.take_leaf.Goals as goal

pub is_closed_leaf-closed-requires-clause-ranges : goal.is_closed_leaf-closed-requires-clause-ranges
is_closed_leaf-closed-requires-clause-ranges c =
    within-tight c.args.case.now.book c.args.self.now.walk.ranges c.args.self.now.walk.splits.items (record { at = c.requires.ready.walk.at; split = c.requires.ready.walk.split })
