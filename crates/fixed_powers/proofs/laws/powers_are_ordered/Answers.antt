use Rattle.fixed_powers.proofs.PowerFacts.{falls_with_days, falls_with_yield, low-le-high, chains_rise, one_at_zero, one_at_no_days, products_fit}
use Rattle.fixed_powers.proofs.laws.powers_are_ordered.Goals as goal

pub returns : goal.returns
returns c = record {
  days = falls_with_days;
  yields = falls_with_yield;
  sides = low-le-high;
  factors = chains_rise;
  zero = one_at_zero;
  no_days = one_at_no_days;
  products = products_fit;
}
