-- The book of three files.
use Rattle.std.proofs.Common.{◌≡◌, ℕ, ◌<◌, ◌≤◌, refl, arith, inl, inr, length, List, ◌++◌, Bool, true, false, nat_lt, if◌then◌else◌, Result, Ok, Err}
use Rattle.std.specs.Prelude.{All}
use Rattle.std.proofs.lemmas.Bool.Decides.{nat_tests}
use Rattle.std.proofs.lemmas.List.{length-append}
use Rattle.std.proofs.lemmas.List.Elements.{All-append}
use Rattle.escrow_desk.specs.declared.refusal.Refusal.{Refusal}
use Rattle.escrow_units.specs.declared.limits.TheConstants.{MOST_LINES}
use Rattle.row_fields.specs.RowForm.{◌>>=◌}
use Rattle.issue_schedule.specs.IssueTerms.{IsIssue}
use Rattle.issue_schedule.specs.Needs.{needs_of}
use Rattle.issue_schedule.specs.declared.issue.Issue.{Issue}
use Rattle.issue_schedule.proofs.NeedFacts.{needs-above, needs-limit, needs-rise, needs-within}
use Rattle.rate_table.specs.Table.{IsRateFile}
use Rattle.rate_table.specs.declared.table.RateFile.{RateFile}
use Rattle.market_notes.specs.NoteTerms.{IsNoteFile}
use Rattle.market_notes.specs.declared.note.NoteFile.{NoteFile}
use Rattle.offer_book.specs.Book.{BookContents, IsBook, IsNeeds, IsSecurityLine}
use Rattle.offer_book.specs.CaseBook.{IsBookOf, IsBookRefusal, book_of, book_of_files, issue_days, lines_on_offer, too_many_lines, within_most_lines}
use Rattle.offer_book.specs.MarketLines.{AreLinesOfNotes, note_lines_of}
use Rattle.offer_book.specs.Offers.{AreLinesOf, slgs_lines_of}
use Rattle.offer_book.specs.declared.line.Line.{Line}
use Rattle.offer_book.proofs.MarketFacts.{notes-count, notes-keep_rules, refusals-name_first_late}
use Rattle.offer_book.proofs.OfferFacts.{bound-err, bound-ok, lines-count, lines-keep_rules, refusals-name_first_fault}
use Rattle.offer_book.specs.declared.payment_days.PaymentDays.{PaymentDays}

-- the needs of an issue are those of a book
needs-kept : (issue : Issue) → IsIssue issue → IsNeeds issue.settle (needs_of issue.settle issue.call issue.direct issue.bonds)
needs-kept issue is = record {
  few = is.dates;
  rising = needs-rise issue.settle issue.call issue.direct issue.bonds;
  within = needs-within issue is.needs;
  positive = needs-above issue.settle issue.call issue.direct issue.bonds;
  small = needs-limit issue is.needs;
}

-- the book of an issue within its limits and of lines on offer is within the limits of books
pub book-kept : (issue : Issue) (offers : List Line) → IsIssue issue → All (IsSecurityLine (issue_days issue)) offers → length offers ≤ MOST_LINES → IsBook (book_of issue offers)
book-kept issue offers is good few = record {
  settlement = is.needs.settle;
  needs = needs-kept issue is;
  lines = (record { kind = refl; step = refl; least = refl; most = is.cash }, good, few);
}

-- what a count of lines answers
abbrev answer_of : Bool → Result (Unit {0}) Refusal
answer_of over = if over then Err too_many_lines else Ok tt

pub few-lines : (count : ℕ) (none : Unit {0}) → within_most_lines count ≡ Ok none → count ≤ MOST_LINES
few-lines count none e = at (nat_lt MOST_LINES count) refl e
  where
    at : (t : Bool) → nat_lt MOST_LINES count ≡ t → answer_of t ≡ Ok none → count ≤ MOST_LINES
    at true is e = absurd (cc)
    at false is e = grind (arith, nat_tests)

record IsOver (count : ℕ) (refusal : Refusal) : Type 0 where
  name : refusal ≡ too_many_lines
  over : MOST_LINES < count

many-lines : (count : ℕ) (refusal : Refusal) → within_most_lines count ≡ Err refusal → IsOver count refusal
many-lines count refusal e = at (nat_lt MOST_LINES count) refl e
  where
    at : (t : Bool) → nat_lt MOST_LINES count ≡ t → answer_of t ≡ Err refusal → IsOver count refusal
    at true is e = record { name = cc; over = grind (arith, nat_tests) }
    at false is e = absurd (cc)

-- lines of offers and notes together
pub lines-kept : (days : PaymentDays) (rates : RateFile) (notes : NoteFile) (offers market : List Line) → AreLinesOf days rates offers → All (IsSecurityLine days) offers
    → AreLinesOfNotes days notes market → All (IsSecurityLine days) market
    → lines_on_offer rates notes ≤ MOST_LINES → All (IsSecurityLine days) (offers ++ market) × (length (offers ++ market) ≤ MOST_LINES)
lines-kept days rates notes offers market sold good of_notes kept few = (
  All-append (IsSecurityLine days) offers market good kept,
  omega (arith, length-append offers market, lines-count days rates offers sold, notes-count days notes market of_notes, few),
)

-- what is answered once the offers are lines, and once the notes are
abbrev with_notes : Issue → RateFile → NoteFile → List Line → List Line → Result BookContents Refusal
with_notes issue rates notes offers market = within_most_lines (lines_on_offer rates notes) >>= (λ none. Ok (book_of issue (offers ++ market)))

abbrev with_offers : Issue → RateFile → NoteFile → List Line → Result BookContents Refusal
with_offers issue rates notes offers = note_lines_of (issue_days issue) notes >>= with_notes issue rates notes offers

pub books-are_of_their_files : (issue : Issue) (rates : RateFile) (notes : NoteFile) (book : BookContents) → IsIssue issue → IsRateFile rates
    → IsNoteFile issue.settle notes → book_of_files issue rates notes ≡ Ok book → IsBookOf issue rates notes book × IsBook book
unfolding book_of_files
books-are_of_their_files issue rates notes book is rates_are notes_are e =
    let days = issue_days issue in
    let one = bound-ok (slgs_lines_of days rates) (with_offers issue rates notes) book e in
    let two = bound-ok (note_lines_of days notes) (with_notes issue rates notes one.first) book one.rest in
    let three = bound-ok (within_most_lines (lines_on_offer rates notes)) (λ none. Ok (book_of issue (one.first ++ two.first))) book two.rest in
    let few = few-lines (lines_on_offer rates notes) three.first three.is in
    let offers = lines-keep_rules days rates one.first is.needs.settle rates_are one.is in
    let market = notes-keep_rules days notes two.first notes_are two.is in
    let all = lines-kept days rates notes one.first two.first offers.0 offers.1 market.0 market.1 few in
    let same : book ≡ book_of issue (one.first ++ two.first) = cc (three.rest) in
    rw same (
      record { days = refl; needs = refl; offers = one.first; market = two.first; lines = refl; of_offers = offers.0; of_notes = market.0 },
      book-kept issue (one.first ++ two.first) is all.0 all.1,
    )

pub books-are_refused_in_order : (issue : Issue) (rates : RateFile) (notes : NoteFile) (refusal : Refusal) → IsIssue issue → IsRateFile rates
    → IsNoteFile issue.settle notes → book_of_files issue rates notes ≡ Err refusal → IsBookRefusal issue rates notes refusal
unfolding book_of_files
books-are_refused_in_order issue rates notes refusal is rates_are notes_are e =
    elim (bound-err (slgs_lines_of (issue_days issue) rates) (with_offers issue rates notes) refusal e) [
      | inl faulty ↦ inl (refusals-name_first_fault (issue_days issue) rates refusal is.needs.settle rates_are faulty)
      | inr next ↦
          let sold = (lines-keep_rules (issue_days issue) rates next.first is.needs.settle rates_are next.is).0 in
          elim (bound-err (note_lines_of (issue_days issue) notes) (with_notes issue rates notes next.first) refusal next.rest) [
            | inl late ↦ inr (inl (record {
              lines = next.first;
              sold = sold;
              late = refusals-name_first_late (issue_days issue) notes refusal late;
            }))
            | inr after ↦ elim (bound-err (within_most_lines (lines_on_offer rates notes)) (λ none. Ok (book_of issue (next.first ++ after.first))) refusal after.rest) [
              | inl many ↦
                  let over = many-lines (lines_on_offer rates notes) refusal many in
                  inr (inr (record {
                    name = over.name;
                    lines = next.first;
                    sold = sold;
                    market = after.first;
                    of_notes = (notes-keep_rules (issue_days issue) notes after.first notes_are after.is).0;
                    over = over.over;
                  }))
              | inr never ↦ absurd (cc (never.rest))
            ]
          ]
    ]
