-- The text of a certificate, of whichever version its first line says. It is this project's own.
use Rattle.std.specs.Prelude.{◌≡◌, ℕ, ◌⊎◌, List, ◌∷◌, Option}
use Rattle.bound_certificate.specs.declared.certificate.Certificate.{Certificate}
use Rattle.bound_certificate.specs.declared.fault.CertFault.{CertFault}
use Rattle.bound_certificate.specs.declared.packed.Packed.{Packed}
use Rattle.bound_certificate.specs.declared.version.Version.{Version}
use Rattle.bound_certificate.specs.declared.version.Version.TheVariants as version
use Rattle.bound_certificate.specs.Faults.{lines_in, text_fault}
use Rattle.bound_certificate.specs.Grammar.{title_version}
use Rattle.bound_certificate.specs.Packed.{unpacked}
use Rattle.bound_certificate.specs.Text.{IsPackedTextOf, IsTextOf}

-- the version that the first of lines says, where a line feed ends it
abbrev pub version_of : List (List ℕ) → Version
version_of (first ∷ next ∷ lines) = title_version first
version_of lines = version.One

-- the first fault of a text of whichever version, where a leaf has a price for each of so many dates
unfoldable pub certificate_fault : ℕ → List ℕ → Option CertFault
certificate_fault dates bytes = text_fault (version_of (lines_in bytes)) dates bytes

-- bytes are a text of a packed certificate, which is this one with the prices of its leaves written out
pub record IsPackedFormOf (dates : ℕ) (cert : Certificate) (bytes : List ℕ) : Type 0 where
  pub packed : Packed
  pub text : IsPackedTextOf dates packed bytes
  pub same : unpacked dates packed ≡ cert

-- bytes are a text of a certificate, of whichever version
abbrev pub IsCertificateText : ℕ → Certificate → List ℕ → Type 0
IsCertificateText dates cert bytes = IsTextOf dates cert bytes ⊎ IsPackedFormOf dates cert bytes
