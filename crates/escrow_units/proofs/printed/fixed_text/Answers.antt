use Rattle.escrow_units.proofs.NumberFacts.{power-positive}
use Rattle.escrow_units.proofs.printed.fixed_text.Goals as goal

pub nonzero_div-n : goal.nonzero_div-n
nonzero_div-n c = rw c.pow-unit.ensures (power-positive c.args.places)

pub nonzero_rem-n : goal.nonzero_rem-n
nonzero_rem-n c = rw c.pow-unit.ensures (power-positive c.args.places)
