use Rattle.std.proofs.Common.{◌≡◌, ◌*◌, ◌/◌, get_or, length, map, take}
use Rattle.fixed_powers.specs.DiscountPowers.{one}
use Rattle.dual_bound.specs.Columns.{worth_between}
use Rattle.dual_bound.specs.declared.worth.PricedDay.{PricedDay}
use Rattle.dual_bound.proofs.worth.price_all.Given as goal

abbrev pub invariant-loop-place : goal.invariant-loop-place
invariant-loop-place l =
    (take l.place l.worths ≡ map (λ (day : PricedDay). worth_between (get_or l.prices day.need 0) (l.multiplier * day.power / one)) (take l.place l.days)) × (length l.worths ≡ length l.days)
