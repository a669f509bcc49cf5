use Rattle.std.proofs.Common.{◌≡◌, ◌≤ℤ◌, ℤ, arith, false, is_lt, int_cmp}
use Rattle.std.proofs.lemmas.Int.{ints}
use Rattle.held_escrow.proofs.held.held_row.Goals as goal

from : (a b : ℤ) → false ≡ is_lt (int_cmp a b) → b ≤ℤ a
from a b h = grind (arith, ints)

pub returns-clause-from : goal.returns-clause-from
returns-clause-from c = from c.in_ok-day.day c.args.settle c.if-lt.ensures
