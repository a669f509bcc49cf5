use Rattle.std.proofs.Common.{rules, ◌-ℤ◌, w32, arith}
use Rattle.std.proofs.lemmas.Int.{ints, to_z-of_z}
use mir.Val.{SFits}
use Rattle.day_sums.proofs.sums.place_of.Goals as goal

pub returns : goal.returns
returns c =
    let fits : SFits w32 c.number.result = search rules in
    let fits_first : SFits w32 c.number-2.result = search rules in
    let fits_apart : SFits w32 (c.number.result -ℤ c.number-2.result) = search rules in
    simp to_z-of_z (rw (c.number.ensures.value, c.number-2.ensures.value) (omega (arith, ints, c.requires)))
