use Rattle.std.proofs.Common.{arith, length, ap}
use Rattle.std.proofs.lemmas.Str.{encode_ascii}
use Rattle.escrow_units.proofs.digits.push_ascii.Goals as goal

pub push-requires : goal.push-requires
push-requires c = (omega arith, omega (arith, c.requires.room, ap length (encode_ascii c.args.byte c.requires.ascii)))
