use Rattle.std.proofs.Common.{arith, ◌+◌, ◌*◌, ◌^◌, length}
use Rattle.escrow_units.proofs.NumberFacts.{digits_fit, scaled-below}
use Rattle.escrow_units.proofs.decimal.unparted.Goals as goal

pub scaled-requires-clause-fits : goal.scaled-requires-clause-fits
scaled-requires-clause-fits c =
    let n = c.in_ok-whole.whole in
    digits_fit (n * 10 ^ c.args.places) (length c.args.bytes.now + c.args.places) (omega (arith, c.in_ok-whole.ensures.few))
    (scaled-below n (length c.args.bytes.now) c.args.places c.in_ok-whole.ensures.bound)
