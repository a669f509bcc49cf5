use Rattle.std.proofs.Common.{arith}
use Rattle.std.proofs.Math.Nat.{mul-le-mul}
use Rattle.offer_book.proofs.coefficients.scaled_note_cost.Goals as goal

pub scaled_quotient-price-requires-clause-room : goal.scaled_quotient-price-requires-clause-room
scaled_quotient-price-requires-clause-room c = omega (arith, mul-le-mul c.requires.step c.requires.note.most_price)
