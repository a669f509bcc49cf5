use Rattle.std.proofs.Common.{arith}
use Rattle.jiff_core.proofs.CalendarLemmas.{weekday_number-parts}
use Rattle.jiff_core.proofs.SignedLemmas.{signed_arith, signed_casts}
use Rattle.escrow_units.proofs.closed_days.weekday.Goals as goal

pub returns : goal.returns
returns c = omega (arith, signed_casts, signed_arith, c.number.ensures.value, c.number.ensures.bound, c.rem_euclid.ensures.value, weekday_number-parts c.args.day)
