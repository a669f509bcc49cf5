use Rattle.std.proofs.Common.{◌≡◌, ◌⊎◌, ◌*◌, ◌<◌, ◌≤◌, ℕ, All, get_or, length}
use Rattle.dual_bound.specs.LeafBound.{priced_needs}
use Rattle.proof_tree.specs.declared.prices.TheConstants.{PRICE_SCALE}
use Rattle.dual_bound.proofs.DateFacts.{IsAhead}
use Rattle.dual_bound.proofs.tableau.take_prices.Given as goal

abbrev pub invariant-loop-date : goal.invariant-loop-date
invariant-loop-date l = record {
  long : length l.own ≡ length l.new;
  small : All (λ price. price ≤ 2 * PRICE_SCALE) l.own;
  worth : l.worth ≡ priced_needs l.needs l.own;
  rest : (date : ℕ) → date < length l.new → (get_or l.own date 0 ≡ get_or l.new date 0) ⊎ IsAhead l.date-index l.dates date;
}
