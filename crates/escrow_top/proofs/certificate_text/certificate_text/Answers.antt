use Rattle.std.proofs.Common.{◌≡◌, ℕ, List, subst, sym}
use Rattle.std.proofs.lemmas.Result.{IfOk-weaker}
use Rattle.bound_certificate.specs.declared.packed.Packed.{Packed}
use Rattle.bound_certificate.specs.Packed.{IsPackable, IsPackedWellFormed}
use Rattle.bound_certificate.specs.Text.{IsPackedTextOf, packed_text_of}
use Rattle.bound_certificate.specs.Versions.{IsPackedFormOf}
use Rattle.bound_certificate.proofs.PackableFacts.{written-packed-text}
use Rattle.escrow_top.proofs.certificate_text.certificate_text.Goals as goal

-- what is written is a text
written_text : (dates : ℕ) (packed : Packed) (bytes : List ℕ) → IsPackedWellFormed dates packed → bytes ≡ packed_text_of packed → IsPackedTextOf dates packed bytes
written_text dates packed bytes is same = subst (IsPackedTextOf dates packed) (sym same) (written-packed-text dates packed is)

pub write_packed-requires : goal.write_packed-requires
write_packed-requires c = (c.requires.0, c.requires.1, c.in_ok-packed.ensures.well_formed c.requires.0 c.requires.2)

pub returns : goal.returns
returns c =
    IfOk-weaker c.write_packed.result (λ text. text.items ≡ packed_text_of c.in_ok-packed.packed)
    (λ text. (dates : ℕ) → IsPackable dates c.args.cert.now → IsPackedFormOf dates c.args.cert.now text.items)
    (λ text is dates packable. record {
      packed = c.in_ok-packed.packed;
      text = written_text dates c.in_ok-packed.packed _ (c.in_ok-packed.ensures.well_formed dates packable) is;
      same = c.in_ok-packed.ensures.same dates packable;
    })
    c.write_packed.ensures
