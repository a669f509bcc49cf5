use Rattle.std.proofs.Common.{◌≡◌, take}
use Rattle.bound_certificate.proofs.vector_room.Vector.of.Given as goal

abbrev pub invariant-loop-price : goal.invariant-loop-price
invariant-loop-price l = l.own.items ≡ take l.price-index l.prices
