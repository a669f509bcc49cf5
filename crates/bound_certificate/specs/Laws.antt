-- What the texts of certificates are.
use Rattle.std.specs.Prelude.{◌≡◌, ℕ, ◌≤◌, List, None, ◌↔◌}
use Rattle.bound_certificate.specs.declared.certificate.Certificate.{Certificate}
use Rattle.bound_certificate.specs.declared.limits.TheConstants.{MOST_DATES}
use Rattle.bound_certificate.specs.declared.packed.Packed.{Packed}
use Rattle.bound_certificate.specs.declared.version.Version.TheVariants as version
use Rattle.bound_certificate.specs.Faults.{packed_fault, text_fault}
use Rattle.bound_certificate.specs.Text.{IsPackedTextOf, IsTextOf}
use Rattle.bound_certificate.specs.Told.{certificate_told, told_in}
use Rattle.bound_certificate.specs.Versions.{IsCertificateText, certificate_fault}

-- a text of version 1 has no fault exactly where it is that of a well-formed certificate
abbrev pub TextsHaveNoFault : Type 0
TextsHaveNoFault = (dates : ℕ) (bytes : List ℕ) → (text_fault version.One dates bytes ≡ None) ↔ ((cert : Certificate) × IsTextOf dates cert bytes)

-- a text is that of one certificate
abbrev pub TextsAreOfOne : Type 0
TextsAreOfOne = (dates : ℕ) (bytes : List ℕ) (one other : Certificate) → IsTextOf dates one bytes → IsTextOf dates other bytes → one ≡ other

-- a certificate has one text, for whatever number of need dates
abbrev pub CertificatesHaveOneText : Type 0
CertificatesHaveOneText = (dates others : ℕ) (cert : Certificate) (bytes more : List ℕ) → IsTextOf dates cert bytes → IsTextOf others cert more → bytes ≡ more

-- the lines of the text of a certificate say that certificate
abbrev pub TextsSayTheirCertificate : Type 0
TextsSayTheirCertificate = (dates : ℕ) (bytes : List ℕ) (cert : Certificate) → IsTextOf dates cert bytes → certificate_told (told_in dates bytes) ≡ cert

-- ---- versions 2 and 3
-- a text has no fault exactly where it is that of a well-formed packed certificate
abbrev pub PackedTextsHaveNoFault : Type 0
PackedTextsHaveNoFault = (dates : ℕ) (bytes : List ℕ) → dates ≤ MOST_DATES → (packed_fault dates bytes ≡ None) ↔ ((packed : Packed) × IsPackedTextOf dates packed bytes)

-- a text is that of one packed certificate
abbrev pub PackedTextsAreOfOne : Type 0
PackedTextsAreOfOne = (dates : ℕ) (bytes : List ℕ) (one other : Packed) → dates ≤ MOST_DATES → IsPackedTextOf dates one bytes → IsPackedTextOf dates other bytes → one ≡ other

-- ---- each
-- bytes have no fault exactly where they are a text of some certificate
abbrev pub CertificateTextsHaveNoFault : Type 0
CertificateTextsHaveNoFault = (dates : ℕ) (bytes : List ℕ) → dates ≤ MOST_DATES → (certificate_fault dates bytes ≡ None) ↔ ((cert : Certificate) × IsCertificateText dates cert bytes)

-- a text is that of one certificate, whose leaves have their prices written out
abbrev pub CertificateTextsAreOfOne : Type 0
CertificateTextsAreOfOne = (dates : ℕ) (bytes : List ℕ) (one other : Certificate) → dates ≤ MOST_DATES → IsCertificateText dates one bytes → IsCertificateText dates other bytes → one ≡ other

-- the lines of a certificate's text tell that certificate
abbrev pub LinesTellTheCertificate : Type 0
LinesTellTheCertificate = (dates : ℕ) (bytes : List ℕ) (cert : Certificate) → dates ≤ MOST_DATES → IsCertificateText dates cert bytes → certificate_told (told_in dates bytes) ≡ cert
