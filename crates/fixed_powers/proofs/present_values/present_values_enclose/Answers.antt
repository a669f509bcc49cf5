use Rattle.fixed_powers.proofs.PresentValueFacts.{low_value-encloses, high_value-encloses, low_value-excludes}
use Rattle.fixed_powers.proofs.present_values.present_values_enclose.Goals as goal

pub returns : goal.returns
returns c = record {
  low = low_value-encloses;
  high = high_value-encloses;
  excludes = low_value-excludes;
}
