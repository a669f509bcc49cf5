use Rattle.bound_certificate.proofs.PackableFacts.{packable}
use Rattle.worked_certificates.proofs.texts.packed.Goals as goal

pub pack-requires : goal.pack-requires
pack-requires c = (c.args.dates, c.requires, packable c.args.dates c.in_ok-whole.whole c.in_ok-whole.ensures.ok.well_formed)

pub write_packed-requires : goal.write_packed-requires
write_packed-requires c =
    (c.args.dates, c.requires, c.in_ok-packed.ensures.well_formed c.args.dates (packable c.args.dates c.in_ok-whole.whole c.in_ok-whole.ensures.ok.well_formed))
