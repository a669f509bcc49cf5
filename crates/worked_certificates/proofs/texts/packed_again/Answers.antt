use Rattle.worked_certificates.proofs.texts.packed_again.Goals as goal

pub pack-requires : goal.pack-requires
pack-requires c = (c.args.dates, c.requires, c.in_ok-unpack.ensures.packable)

pub write_packed-requires : goal.write_packed-requires
write_packed-requires c =
    (c.args.dates, c.requires, c.in_ok-again.ensures.well_formed c.args.dates c.in_ok-unpack.ensures.packable)
