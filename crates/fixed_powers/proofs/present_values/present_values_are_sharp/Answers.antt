use Rattle.fixed_powers.proofs.PresentValueFacts.{value_sharp}
use Rattle.fixed_powers.proofs.present_values.present_values_are_sharp.Goals as goal

pub returns : goal.returns
returns c = value_sharp
