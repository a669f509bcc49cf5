use Rattle.escrow_units.proofs.RoundingFacts.{near-halved, near-IsNearest}
use Rattle.escrow_units.proofs.rounding.near.Goals as goal

pub returns-clause-value : goal.returns-clause-value
returns-clause-value c = near-halved c.args.a c.args.b

pub returns-clause-nearest : goal.returns-clause-nearest
returns-clause-nearest c = rw near-halved (near-IsNearest c.args.a c.args.b c.requires.above)
