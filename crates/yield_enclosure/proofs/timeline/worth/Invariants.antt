use Rattle.std.proofs.Common.{◌≡◌, take}
use Rattle.fixed_powers.specs.PresentValues.{present_value}
use Rattle.yield_enclosure.proofs.timeline.worth.Given as goal

-- the amounts before the counter are in the total
abbrev pub invariant-loop-amount : goal.invariant-loop-amount
invariant-loop-amount l = l.total ≡ present_value l.powers.side l.powers.yield_units (take l.amount-index l.amounts)
