use Rattle.std.proofs.Common.{◌≡◌, ◌*◌, length, take}
use Rattle.proof_tree.specs.declared.prices.TheConstants.{PRICE_SCALE}
use Rattle.price_lp.proofs.ProposingFacts.{AreFalling}
use Rattle.price_lp.proofs.proposing.propose_prices.Given as goal

abbrev pub invariant-loop-place : goal.invariant-loop-place
invariant-loop-place l = record {
  every_date : length l.prices ≡ l.dates;
  falling : AreFalling (2 * PRICE_SCALE) l.price (take l.place l.prices);
}
