use Rattle.std.proofs.Common.{arith, ◌∙◌, sym}
use Rattle.std.proofs.lemmas.Grind.{common_steps}
use Rattle.escrow_units.proofs.NumberFacts.{decimal_of-parted, decimal_of-unparted}
use Rattle.escrow_units.proofs.decimal.decimal.Goals as goal

pub returns-in-Some : goal.returns-in-Some
returns-in-Some c =
    let split = decimal_of-parted c.args.most c.args.places c.args.bytes.now c.in-Some.point (sym c.place_of.ensures.place ∙ c.in-Some.is) in
    grind (arith, common_steps, split)

pub returns-in-None : goal.returns-in-None
returns-in-None c = c.unparted.ensures ∙ sym (decimal_of-unparted c.args.most c.args.places c.args.bytes.now (sym c.place_of.ensures.place ∙ c.in-None.is))
