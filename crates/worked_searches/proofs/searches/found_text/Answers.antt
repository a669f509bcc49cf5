use Rattle.std.proofs.Common.{◌≡◌, ℕ, ◌≤◌, subst, sym, arith}
use Rattle.bound_certificate.specs.declared.certificate.Certificate.{Certificate}
use Rattle.bound_certificate.specs.declared.limits.TheConstants.{MOST_DATES}
use Rattle.bound_certificate.specs.Packed.{IsPackable, IsPackableCert}
use Rattle.worked_searches.proofs.searches.found_text.Goals as goal

packable-is : (dates : ℕ) (own cert : Certificate) → dates ≤ MOST_DATES → own ≡ cert → IsPackable dates cert → IsPackableCert own
packable-is dates own cert few same is = (dates, few, subst (IsPackable dates) (sym same) is)

pub pack-requires : goal.pack-requires
pack-requires c =
    packable-is _ c.in_ok-certificate.certificate _ (omega (arith, c.need_count-dates.ensures.limits.needs.few)) c.in_ok-certificate.ensures c.requires.found.packable

pub write_packed-requires : goal.write_packed-requires
write_packed-requires c =
    let able = packable-is _ c.in_ok-certificate.certificate _ (omega (arith, c.need_count-dates.ensures.limits.needs.few)) c.in_ok-certificate.ensures c.requires.found.packable in
    (able.0, able.1, c.in_ok-packed.ensures.well_formed able.0 able.2)
