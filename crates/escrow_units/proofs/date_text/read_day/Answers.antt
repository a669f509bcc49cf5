use Rattle.std.proofs.Common.{◌≡◌, Some, sym}
use Rattle.escrow_units.specs.DateText.{day_of}
use Rattle.escrow_units.proofs.TextFacts.{text-day_of}
use Rattle.escrow_units.proofs.date_text.read_day.Goals as goal

pub returns-in-Some-clause-years : goal.returns-in-Some-clause-years
returns-in-Some-clause-years c =
    let spelled : day_of c.args.bytes.now ≡ Some c.in-Some.day = sym c.in-Some.ensures in
    (text-day_of c.args.bytes.now c.in-Some.day spelled).0
