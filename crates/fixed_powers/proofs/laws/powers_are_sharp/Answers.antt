use Rattle.fixed_powers.proofs.Sharpness.{sharp}
use Rattle.fixed_powers.proofs.laws.powers_are_sharp.Goals as goal

pub returns : goal.returns
returns c = sharp
