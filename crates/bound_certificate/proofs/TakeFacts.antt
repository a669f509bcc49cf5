-- How much of a piece is taken.
use Rattle.std.proofs.Common.{◌≡◌, ◌∙◌, ℕ, ◌+◌, List, [], ◌∷◌, ◌++◌, length, sym, subst, ap, arith, Option, Some, Result, Ok, Err, IfOk, MatchOption, length-append, position}
use Rattle.std.proofs.Math.ListN.{get_or-append}
use Rattle.std.proofs.Math.Seq.{get_or-append_seam}
use Rattle.bound_certificate.specs.declared.fault.CertFault.{CertFault}
use Rattle.bound_certificate.specs.declared.item.Fed.{Fed}
use Rattle.bound_certificate.specs.declared.item.Item.TheVariants as item
use Rattle.bound_certificate.specs.declared.text_reading.TextReading.{TextReading}
use Rattle.bound_certificate.specs.Text.{IsOneLine}
use Rattle.bound_certificate.specs.TextReading.{TakesLine}
use Rattle.line_words.specs.Words.{is_feed}
use Rattle.line_words.proofs.CutFacts.{first_place, no_place}
use Rattle.bound_certificate.proofs.ReadFacts.{Piece}
use Rattle.bound_certificate.proofs.TextFacts.{no-feeds}

-- a piece has a line feed
feed_at : (piece front : List ℕ) → Piece piece front → position is_feed piece ≡ Some (length front)
feed_at piece front cut =
    let bytes : List ℕ = front ++ 10 ∷ cut.rest in
    ap (λ (bs : List ℕ). position is_feed bs) cut.whole
    ∙ first_place is_feed bytes (length front) (omega (arith, length-append front (10 ∷ cut.rest)))
    (λ k low. ap is_feed (get_or-append front (10 ∷ cut.rest) 0 k low) ∙ no-feeds front cut.one k 0 low)
    (ap is_feed (get_or-append_seam front 10 cut.rest 0))

pub line-taken : (piece front : List ℕ) (fed : Fed) → Piece piece front → fed.used ≡ length front + 1 → (fed.item ≡ item.Nothing → ⊥) → TakesLine piece fed
line-taken piece front fed cut used ended =
    let P : Option ℕ → Type 0 = λ o.
    MatchOption o ((fed.used ≡ length piece) × (fed.item ≡ item.Nothing)) (λ place. (fed.used ≡ place + 1) × (fed.item ≡ item.Nothing → ⊥)) in
    subst P (sym (feed_at piece front cut)) (used, ended)

-- or none
pub all-taken : (piece : List ℕ) (fed : Fed) → IsOneLine piece → fed.used ≡ length piece → fed.item ≡ item.Nothing → TakesLine piece fed
all-taken piece fed one used nothing =
    let P : Option ℕ → Type 0 = λ o.
    MatchOption o ((fed.used ≡ length piece) × (fed.item ≡ item.Nothing)) (λ place. (fed.used ≡ place + 1) × (fed.item ≡ item.Nothing → ⊥)) in
    subst P (sym (no_place is_feed piece (λ k inside. no-feeds piece one k 0 inside))) (used, nothing)

none_taken : (piece : List ℕ) (fed : Fed) → piece ≡ [] → fed ≡ record { used = 0; item = item.Nothing } → TakesLine piece fed
none_taken [] fed none is = (ap (λ (f : Fed). f.used) is, ap (λ (f : Fed). f.item) is)
none_taken (byte ∷ piece) fed none is = absurd (cc)

pub over-taken : (piece : List ℕ) (inside new : TextReading) (r : Result Fed CertFault) →
    IfOk r (λ fed. (piece ≡ []) × (fed ≡ record { used = 0; item = item.Nothing }) × (new ≡ inside)) → IfOk r (λ fed. TakesLine piece fed)
over-taken piece inside new (Ok fed) is = none_taken piece fed is.0 is.1
over-taken piece inside new (Err found) is = tt
