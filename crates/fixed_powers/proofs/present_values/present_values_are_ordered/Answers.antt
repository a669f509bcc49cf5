use Rattle.fixed_powers.proofs.PresentValueFacts.{value_falls, low_value-le-high, value-at_zero, value-fits}
use Rattle.fixed_powers.proofs.present_values.present_values_are_ordered.Goals as goal

pub returns : goal.returns
returns c = record {
  yields = value_falls;
  sides = low_value-le-high;
  zero = value-at_zero;
  fits = value-fits;
}
