-- Texts of each version: each is of the version that its first line says.
use Rattle.std.proofs.Common.{◌≡◌, ◌∙◌, ℕ, ◌<◌, ◌≤◌, List, [], ◌∷◌, ◌++◌, length, refl, sym, subst, ap, arith, None, inl, inr}
use Rattle.std.specs.List.{flat_map}
use Rattle.bound_certificate.specs.declared.certificate.Certificate.{Certificate}
use Rattle.bound_certificate.specs.declared.line.Line.TheVariants as line
use Rattle.bound_certificate.specs.declared.packed.Packed.{Packed}
use Rattle.bound_certificate.specs.declared.version.Version.{Version}
use Rattle.bound_certificate.specs.declared.version.Version.TheVariants as version
use Rattle.bound_certificate.specs.declared.weighing.Weighing.{Weighing}
use Rattle.bound_certificate.specs.declared.weighing.Weighing.TheVariants as weighing
use Rattle.bound_certificate.specs.declared.limits.TheConstants.{MOST_DATES}
use Rattle.bound_certificate.specs.Faults.{lines_in, packed_fault, packed_weighing_in, text_fault}
use Rattle.bound_certificate.specs.Grammar.{title_version, title_weighing, title_word}
use Rattle.bound_certificate.specs.Laws.{CertificateTextsAreOfOne, CertificateTextsHaveNoFault}
use Rattle.bound_certificate.specs.Packed.{unpacked}
use Rattle.bound_certificate.specs.Text.{IsOneLine, IsPackedTextOf, IsTextOf, line_text, portfolio_lines, vector_lines}
use Rattle.bound_certificate.specs.Versions.{IsCertificateText, IsPackedFormOf, certificate_fault, version_of}
use Rattle.bound_certificate.proofs.FollowFacts.{Written}
use Rattle.bound_certificate.proofs.PriceFacts.{line_by}
use Rattle.bound_certificate.proofs.TextFacts.{IsWrittenText, lines-cons, some-lines, text_cons, written-found, written-good, written-one}
use Rattle.bound_certificate.proofs.WrittenFacts.{packed-back, packed-text-written, packed_of, packed_written, text-found, text-good, text-one, text-packed, text-written, whole_written}

pub first-line : (first : List ℕ) (lines : List (List ℕ)) → 0 < length lines → version_of (first ∷ lines) ≡ title_version first
first-line first [] some = absurd (omega arith)
first-line first (next ∷ lines) some = refl

title_says : (v : Version) → title_version (title_word v) ≡ v
title_says version.One = refl
title_says (version.Packed weighing.WholeOrNone) = refl
title_says (version.Packed weighing.Number) = refl

weighing_says : (how : Weighing) → title_weighing (title_word (version.Packed how)) ≡ how
weighing_says weighing.WholeOrNone = refl
weighing_says weighing.Number = refl

title_line : (v : Version) → IsOneLine (title_word v)
title_line version.One = line_by (title_word version.One) refl
title_line (version.Packed weighing.WholeOrNone) = line_by (title_word (version.Packed weighing.WholeOrNone)) refl
title_line (version.Packed weighing.Number) = line_by (title_word (version.Packed weighing.Number)) refl

-- the bytes behind the first line
abbrev behind_title : Version → Written → List ℕ
behind_title v w =
    flat_map line_text (portfolio_lines w.buys ++ line.Gap w.gap ∷ (vector_lines v w.vectors ++ line.Nodes (length w.nodes) ∷ (w.nodes ++ line.End ∷ [])))

text_lines : (v : Version) (dates : ℕ) (w : Written) (bytes : List ℕ) → IsWrittenText v dates w bytes → lines_in bytes ≡ title_word v ∷ lines_in (behind_title v w)
text_lines v dates w bytes is =
    ap (λ (bs : List ℕ). lines_in bs) (is.text ∙ text_cons (line.Title v) (behind_title v w)) ∙ lines-cons (title_word v) (behind_title v w) (title_line v)

pub text-version : (v : Version) (dates : ℕ) (w : Written) (bytes : List ℕ) → IsWrittenText v dates w bytes → version_of (lines_in bytes) ≡ v
text-version v dates w bytes is =
    ap (λ (ls : List (List ℕ)). version_of ls) (text_lines v dates w bytes is)
    ∙ first-line (title_word v) (lines_in (behind_title v w)) (some-lines (behind_title v w)) ∙ title_says v

-- the fault is that of the version's grammar
pub version-fault : (v : Version) (dates : ℕ) (bytes : List ℕ) → version_of (lines_in bytes) ≡ v → certificate_fault dates bytes ≡ text_fault v dates bytes
unfolding certificate_fault
version-fault v dates bytes h = ap (λ (u : Version). text_fault u dates bytes) h

-- ---- packed texts
text_weighing : (how : Weighing) (dates : ℕ) (w : Written) (bytes : List ℕ) → IsWrittenText (version.Packed how) dates w bytes → packed_weighing_in (lines_in bytes) ≡ how
text_weighing how dates w bytes is = ap (λ (ls : List (List ℕ)). packed_weighing_in ls) (text_lines (version.Packed how) dates w bytes is) ∙ weighing_says how

pub packed-fault : (how : Weighing) (dates : ℕ) (bytes : List ℕ) → packed_weighing_in (lines_in bytes) ≡ how → packed_fault dates bytes ≡ text_fault (version.Packed how) dates bytes
packed-fault how dates bytes h = ap (λ (u : Weighing). text_fault (version.Packed u) dates bytes) h

packed_found : (how : Weighing) (dates : ℕ) (bytes : List ℕ) → text_fault (version.Packed how) dates bytes ≡ None → (packed : Packed) × IsPackedTextOf dates packed bytes
packed_found how dates bytes h = let found = written-found (version.Packed how) dates bytes h in (packed_of found.0, text-packed how dates found.0 bytes found.1)

pub packed-text-found : (dates : ℕ) (bytes : List ℕ) → packed_fault dates bytes ≡ None → (packed : Packed) × IsPackedTextOf dates packed bytes
packed-text-found dates bytes h = packed_found (packed_weighing_in (lines_in bytes)) dates bytes h

packed_good : (dates : ℕ) (packed : Packed) (bytes : List ℕ) → dates ≤ MOST_DATES → (is : IsPackedTextOf dates packed bytes) → text_fault (version.Packed is.version) dates bytes ≡ None
packed_good dates packed bytes short is =
    written-good (version.Packed is.version) dates (packed_written is.version packed) bytes short (packed-text-written dates packed bytes is)

own_weighing : (dates : ℕ) (packed : Packed) (bytes : List ℕ) → (is : IsPackedTextOf dates packed bytes) → packed_weighing_in (lines_in bytes) ≡ is.version
own_weighing dates packed bytes is = text_weighing is.version dates (packed_written is.version packed) bytes (packed-text-written dates packed bytes is)

pub packed-text-good : (dates : ℕ) (packed : Packed) (bytes : List ℕ) → dates ≤ MOST_DATES → IsPackedTextOf dates packed bytes → packed_fault dates bytes ≡ None
packed-text-good dates packed bytes short is = packed-fault is.version dates bytes (own_weighing dates packed bytes is) ∙ packed_good dates packed bytes short is

pub packed-text-one : (dates : ℕ) (bytes : List ℕ) (one other : Packed) → dates ≤ MOST_DATES → IsPackedTextOf dates one bytes → IsPackedTextOf dates other bytes → one ≡ other
packed-text-one dates bytes one other short is also =
    let weighings : also.version ≡ is.version = sym (own_weighing dates other bytes also) ∙ own_weighing dates one bytes is in
    let P : Weighing → Type 0 = λ u. IsWrittenText (version.Packed u) dates (packed_written also.version other) bytes in
    let same : packed_written is.version one ≡ packed_written also.version other =
    written-one (version.Packed is.version) dates bytes (packed_written is.version one) (packed_written also.version other) short (packed-text-written dates one bytes is)
    (subst P weighings (packed-text-written dates other bytes also)) in
    sym (packed-back is.version one) ∙ ap (λ (w : Written). packed_of w) same ∙ packed-back also.version other

-- ---- texts of each version
found_by : (v : Version) (dates : ℕ) (bytes : List ℕ) → version_of (lines_in bytes) ≡ v → certificate_fault dates bytes ≡ None → (cert : Certificate) × IsCertificateText dates cert bytes
found_by version.One dates bytes e h = let found = text-found dates bytes (sym (version-fault version.One dates bytes e) ∙ h) in (found.0, inl found.1)
found_by (version.Packed how) dates bytes e h =
    let found : (packed : Packed) × IsPackedTextOf dates packed bytes = packed_found how dates bytes (sym (version-fault (version.Packed how) dates bytes e) ∙ h) in
    (unpacked dates found.0, inr (record { packed = found.0; text = found.1; same = refl }))

pub plain-version : (dates : ℕ) (cert : Certificate) (bytes : List ℕ) → IsTextOf dates cert bytes → version_of (lines_in bytes) ≡ version.One
plain-version dates cert bytes is = text-version version.One dates (whole_written cert) bytes (text-written dates cert bytes is)

pub packed-version : (dates : ℕ) (packed : Packed) (bytes : List ℕ) → (is : IsPackedTextOf dates packed bytes) → version_of (lines_in bytes) ≡ version.Packed is.version
packed-version dates packed bytes is = text-version (version.Packed is.version) dates (packed_written is.version packed) bytes (packed-text-written dates packed bytes is)

good_by : (dates : ℕ) (bytes : List ℕ) (cert : Certificate) → dates ≤ MOST_DATES → IsCertificateText dates cert bytes → certificate_fault dates bytes ≡ None
good_by dates bytes cert short (inl is) = version-fault version.One dates bytes (plain-version dates cert bytes is) ∙ text-good dates cert bytes is
good_by dates bytes cert short (inr is) =
    version-fault (version.Packed is.text.version) dates bytes (packed-version dates is.packed bytes is.text) ∙ packed_good dates is.packed bytes short is.text

pub texts-have-no-fault : CertificateTextsHaveNoFault
texts-have-no-fault dates bytes short = (λ none. found_by (version_of (lines_in bytes)) dates bytes refl none, λ some. good_by dates bytes some.0 short some.1)

two_versions : (dates : ℕ) (bytes : List ℕ) (one other : Certificate) → IsTextOf dates one bytes → IsPackedFormOf dates other bytes → ⊥
two_versions dates bytes one other is also =
    let both : version.One ≡ version.Packed also.text.version = sym (plain-version dates one bytes is) ∙ packed-version dates also.packed bytes also.text in absurd (cc)

pub texts-are-of-one : CertificateTextsAreOfOne
texts-are-of-one dates bytes one other short (inl is) (inl also) = text-one dates bytes one other is also
texts-are-of-one dates bytes one other short (inl is) (inr also) = absurd (two_versions dates bytes one other is also)
texts-are-of-one dates bytes one other short (inr is) (inl also) = absurd (two_versions dates bytes other one also is)
texts-are-of-one dates bytes one other short (inr is) (inr also) =
    sym is.same ∙ ap (λ (p : Packed). unpacked dates p) (packed-text-one dates bytes is.packed also.packed short is.text also.text) ∙ also.same
