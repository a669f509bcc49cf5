-- What was read of a certificate in pieces.
use Rattle.std.proofs.Common.{◌≡◌, ◌∙◌, ℕ, ◌+◌, ◌≤◌, ◌<◌, List, [], ◌++◌, length, take, drop, Option, Some, None, MatchOption, refl, sym, ap, subst, arith}
use Rattle.std.specs.Prelude.{IsErrAnd, IsSomeAnd, Result, Ok, Err}
use Rattle.escrow_desk.specs.Counts.{Counts}
use Rattle.std.proofs.Math.Seq.{take-length}
use Rattle.std.proofs.lemmas.List.{length-append, length-take-le, take-append-le}
use Rattle.escrow_desk.specs.declared.limits.TheConstants.{CERTIFICATE_LIMIT}
use Rattle.escrow_desk.specs.Content.{Given, PartOf, Told, file_of}
use Rattle.escrow_desk.proofs.ContentFacts.{IsFront, front_more}
use Rattle.bound_certificate.specs.declared.limits.TheConstants.{MOST_DATES}
use Rattle.case_file.specs.Case.{CaseContents}
use Rattle.escrow_check.specs.Acceptance.{IsVerdict}
use Rattle.escrow_check.specs.Checking.{Checking, Heard}
use Rattle.escrow_check.specs.declared.verdict.Verdict.{Verdict}
use Rattle.escrow_check.specs.declared.verdict.Verdict.TheVariants as verdict
use Rattle.escrow_check.proofs.OneVerdict.{one_verdict}
use Rattle.escrow_check.proofs.TextFacts.{KeepsLimits, is_meant}
use Rattle.certificate_answers.specs.Reading.{IsHeard, IsHeardOf, KeepsRight}
use Rattle.certificate_answers.specs.Stopping.{CountsStep, StoppedAs}
use Rattle.certificate_answers.specs.declared.hearing.Heard.TheVariants as heard
use Rattle.certificate_answers.specs.declared.stop.Stop.{Stop}
use Rattle.certificate_answers.specs.declared.stop.Stop.TheVariants as stop

-- so many bytes of a file were read, and all of them were heard
pub record HasRead (told : Told) (name : List ℕ) (case : CaseContents) (checker : Checking) (read : ℕ) : Type 0 where
  pub bytes : List ℕ
  pub front : IsFront told name bytes
  pub count : read ≡ length bytes
  pub heard : Heard checker bytes
  pub case_is : checker.case ≡ case

-- before the first piece
pub read-nothing : (told : Told) (name : List ℕ) (case : CaseContents) (checker : Checking) → Heard checker [] → checker.case ≡ case → HasRead told name case checker 0
read-nothing told name case checker heard is = record { bytes = []; front = nothing told; count = refl; heard = heard; case_is = is }
  where
    empty : List ℕ
    empty = []

    there : (found : Option (List ℕ)) → MatchOption found (empty ≡ empty) (λ file. (empty ≡ take 0 file) × (0 ≤ length file))
    there None = refl
    there (Some file) = (refl, omega arith)

    nothing : (found : Told) → IsFront found name []
    nothing None = tt
    nothing (Some content) = there (file_of content name)

-- with one more piece
pub read-more : (told : Told) (name : List ℕ) (case : CaseContents) (old new : Checking) (read count most : ℕ) (piece into : List ℕ) → HasRead told name case old read
    → Given told name read (take most piece) count into → count ≤ length into
    → ((bytes : List ℕ) → Heard old bytes → Heard new (bytes ++ take count (into ++ drop most piece))) → new.case ≡ old.case
    → HasRead told name case new (read + count)
read-more told name case old new read count most piece into before given fits hears same = record {
  bytes = before.bytes ++ take count into;
  front = front_more told name before.bytes (take most piece) into count before.front (rw before.count at given);
  count = sum;
  heard = rw (take-append-le count into (drop most piece) fits) at (hears before.bytes before.heard);
  case_is = same ∙ before.case_is;
}
  where
    sum : read + count ≡ length (before.bytes ++ take count into)
    sum =
        let whole = length-append before.bytes (take count into) in
        let part = length-take-le count into fits in
        let read_is = before.count in
        omega (arith, whole, part, read_is)

-- a front part of a file is all of it, where nothing comes behind it
whole-front : (file bytes : List ℕ) → bytes ≡ take (length bytes) file → length bytes ≤ length file → length file ≤ length bytes → bytes ≡ file
whole-front file bytes front short long =
    let same : length bytes ≡ length file = omega (arith, short, long) in
    front ∙ ap (λ n. take n file) same ∙ take-length file

-- the certificate came to its end
pub heard-whole : (told : Told) (name old new : List ℕ) (case : CaseContents) (checker : Checking) (read : ℕ) (found : Verdict) → length case.book.needs ≤ MOST_DATES
    → HasRead told name case checker read → read ≤ CERTIFICATE_LIMIT → Given told name read old 0 new → 0 < length old
    → ((bytes : List ℕ) → Heard checker bytes → IsVerdict checker.case bytes found) → IsHeard told name case (heard.Whole found)
heard-whole None name old new case checker read found few so_far short given some on = tt
heard-whole (Some content) name old new case checker read found few so_far short given some on = by (file_of content name) so_far.front given
  where
    told_of : IsVerdict case so_far.bytes found
    told_of = subst (λ (c : CaseContents). IsVerdict c so_far.bytes found) so_far.case_is (on so_far.bytes so_far.heard)

    by : (there : Option (List ℕ)) → MatchOption there (so_far.bytes ≡ []) (λ file. (so_far.bytes ≡ take (length so_far.bytes) file) × (length so_far.bytes ≤ length file))
        → IsSomeAnd there (λ file. PartOf file read old 0 new) → IsSomeAnd there (λ file. IsHeardOf case file (heard.Whole found))
    by None ahead part = part
    by (Some file) ahead part =
        let read_is = so_far.count in
        let ended = part.ending some refl in
        let all : length file ≤ length so_far.bytes = omega (arith, ended, read_is) in
        let within : length so_far.bytes ≤ CERTIFICATE_LIMIT = omega (arith, short, read_is) in
        let is : so_far.bytes ≡ file = whole-front file so_far.bytes ahead.0 ahead.1 all in
        subst (λ (x : List ℕ). IsHeardOf case x (heard.Whole found)) is (within, one_verdict case so_far.bytes found few told_of)

-- a portfolio that is accepted is permitted and meets the needs
right-by : (case : CaseContents) (bytes : List ℕ) (found : Verdict) → KeepsLimits case → IsVerdict case bytes found → KeepsRight case found
right-by case bytes (verdict.Yes portfolio) keeps on =
    let right = (is_meant case bytes (verdict.Yes portfolio) keeps on).right.right in
    (right.permitted, right.covered)
right-by case bytes verdict.YesNone keeps on = tt
right-by case bytes (verdict.No why) keeps on = tt

pub heard-right : (told : Told) (name : List ℕ) (case : CaseContents) (checker : Checking) (read : ℕ) (found : Verdict) → KeepsLimits case → HasRead told name case checker read
    → ((bytes : List ℕ) → Heard checker bytes → IsVerdict checker.case bytes found) → KeepsRight case found
heard-right told name case checker read found keeps so_far on =
    right-by case so_far.bytes found keeps (subst (λ (c : CaseContents). IsVerdict c so_far.bytes found) so_far.case_is (on so_far.bytes so_far.heard))

-- more bytes than the limit came
pub heard-long : (told : Told) (name : List ℕ) (case : CaseContents) (checker : Checking) (read : ℕ) → HasRead told name case checker read → CERTIFICATE_LIMIT < read → IsHeard told name case heard.TooLong
heard-long None name case checker read so_far long = tt
heard-long (Some content) name case checker read so_far long = by (file_of content name) so_far.front
  where
    by : (there : Option (List ℕ)) → MatchOption there (so_far.bytes ≡ []) (λ file. (so_far.bytes ≡ take (length so_far.bytes) file) × (length so_far.bytes ≤ length file))
        → IsSomeAnd there (λ file. IsHeardOf case file heard.TooLong)
    by None ahead =
        let none : length so_far.bytes ≡ 0 = ap length ahead in
        let read_is = so_far.count in
        absurd (omega (arith, none, long, read_is))
    by (Some file) ahead =
        let fits = ahead.1 in
        let read_is = so_far.count in
        omega (arith, fits, long, read_is)

-- want of memory changes no count
pub out-of-memory : {A : Type 0} (result : Result A Stop) (counts : Counts) → IsErrAnd result (λ why. why ≡ stop.NoMemory) → CountsStep result counts counts
out-of-memory (Ok value) counts gives = absurd gives
out-of-memory (Err why) counts gives = subst (λ w. StoppedAs w counts counts) (sym gives) refl
