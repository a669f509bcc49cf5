use Rattle.std.proofs.Common.{arith, ◌∙◌, sym}
use Rattle.std.proofs.lemmas.Grind.{common_steps}
use Rattle.escrow_units.proofs.NumberFacts.{price_units_of-parted, price_units_of-unparted}
use Rattle.escrow_units.proofs.price_text.price_units.Goals as goal

pub returns-in-Some : goal.returns-in-Some
returns-in-Some c =
    let split = price_units_of-parted c.args.bytes.now c.in-Some.hyphen (sym c.place_of.ensures.place ∙ c.in-Some.is) in
    grind (arith, common_steps, split)

pub returns-in-None : goal.returns-in-None
returns-in-None c = c.decimal.ensures ∙ sym (price_units_of-unparted c.args.bytes.now (sym c.place_of.ensures.place ∙ c.in-None.is))
