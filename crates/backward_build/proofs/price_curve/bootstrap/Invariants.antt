use Rattle.std.proofs.Common.{◌≡◌, ◌≤◌, All, AllPairs, Some, length}
use Rattle.proof_tree.specs.declared.prices.TheConstants.{PRICE_SCALE}
use Rattle.backward_build.specs.PriceCurve.{first_prices}
use Rattle.backward_build.proofs.price_curve.bootstrap.Given as goal

abbrev pub invariant-loop-place : goal.invariant-loop-place
invariant-loop-place l = record {
  prices : first_prices l.book l.place ≡ Some l.prices.items;
  count : length l.prices.items ≡ l.place;
  small : All (λ price. price ≤ PRICE_SCALE) l.prices.items;
  falling : AllPairs (λ earlier later. later ≤ earlier) l.prices.items;
}
