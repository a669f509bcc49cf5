use Rattle.std.proofs.Common.{◌≡◌, ◌≤◌, ◌*◌, ◌^◌, length, take}
use Rattle.std.specs.List.{sum_by, zip}
use Rattle.fixed_powers.specs.DiscountPowers.{one}
use Rattle.plan_finder.proofs.LedgerFacts.{pair_worth}
use Rattle.plan_finder.proofs.terms.worth_of.Given as goal

abbrev pub invariant-loop-power : goal.invariant-loop-power
invariant-loop-power l = record {
  value : l.worth ≡ sum_by pair_worth (take (length l.yielded) (zip l.powers l.flows));
  small : l.worth ≤ length l.yielded * (one * (2 * 10 ^ 13));
}
