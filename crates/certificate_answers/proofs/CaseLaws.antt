-- The case that files give is the one that is worked out of their rows.
use Rattle.std.proofs.Common.{◌≡◌, ◌∙◌, ℕ, ℤ, ◌+◌, ◌-◌, ◌*◌, ◌/◌, ◌<◌, ◌≤◌, true, false, List, [], ◌∷◌, ◌++◌, length, Option, Some, None, Result, Ok, refl, sym, ap, subst, inl, inr, arith}
use Rattle.std.specs.Prelude.{Bool, Err, IfSome, ◌&&◌, ◌<ℤ◌, ◌≤ℤ◌, nat_le, nat_eq, if◌then◌else◌}
use Rattle.std.specs.List.{AllZip}
use Rattle.std.proofs.lemmas.Bool.{cases_lt, le-leb, leb-true, le-ltb, lt-leb, ne_eqb}
use Rattle.std.proofs.lemmas.List.{length-append}
use Rattle.std.proofs.lemmas.Int.{ints}
use Rattle.std.proofs.lemmas.Nat.{div-mul-add}
use Rattle.escrow_units.specs.Flows.{indexed}
use Rattle.escrow_units.specs.Denomination.{AreTerms}
use Rattle.escrow_units.specs.PresentValue.{IndexedFlow, last_index}
use Rattle.escrow_units.specs.SlgsTerms.{IsSettlement}
use Rattle.escrow_units.specs.declared.limits.TheConstants.{GREATEST_GIVEN_YIELD, MOST_LINES}
use Rattle.escrow_units.specs.declared.security.Flow.{Flow}
use Rattle.escrow_units.specs.declared.security.Terms.{Terms}
use Rattle.fixed_powers.specs.DiscountPowers.{one}
use Rattle.fixed_powers.specs.PresentValues.{present_value, total_cents}
use Rattle.fixed_powers.specs.declared.side.Side.TheVariants.{Low}
use Rattle.fixed_powers.proofs.PresentValueFacts.{value-within}
use Rattle.escrow_desk.specs.declared.refusal.Refusal.{Refusal}
use Rattle.escrow_desk.specs.declared.refusal.FileKind.TheVariants.{Prices, Rates}
use Rattle.row_fields.specs.RowForm.{Row, ◌>>=◌, answer_of_row}
use Rattle.yield_enclosure.specs.YieldAnswers.{AreYieldEnds, IsYieldAnswer, lower_end, upper_end, yield_answer_of}
use Rattle.yield_enclosure.specs.declared.answer.YieldAnswer.{YieldAnswer}
use Rattle.yield_enclosure.specs.declared.answer.YieldAnswer.TheVariants.{Above, Between, Empty, Negative}
use Rattle.yield_enclosure.proofs.EndFacts.{last_index-le, lower_end-only}
use Rattle.slgs_rules.proofs.ClassificationFacts.{classified-only}
use Rattle.slgs_rules.specs.Classification.{classified}
use Rattle.issue_schedule.specs.IssueForm.{issue_of}
use Rattle.issue_schedule.specs.IssueTerms.{IsIssue, IsRestricted}
use Rattle.issue_schedule.specs.declared.issue.Issue.{Issue}
use Rattle.issue_schedule.specs.declared.issue.Restricted.{Restricted}
use Rattle.issue_schedule.specs.declared.issue.Restricted.TheVariants.{Given, Computed}
use Rattle.rate_table.specs.RateForm.{rate_file_of}
use Rattle.rate_table.specs.Table.{IsRateFile}
use Rattle.rate_table.specs.declared.table.Offer.{Offer}
use Rattle.rate_table.specs.declared.table.RateFile.{RateFile}
use Rattle.market_notes.specs.PriceForm.{note_file_of}
use Rattle.market_notes.specs.NoteTerms.{IsNoteFile}
use Rattle.market_notes.specs.declared.note.Note.{Note}
use Rattle.market_notes.specs.declared.note.NoteFile.{NoteFile}
use Rattle.offer_book.specs.Book.{AreLines, BookContents, IsBook}
use Rattle.offer_book.specs.CaseBook.{IsBookOf, book_of, book_of_files, cash_line, issue_days, lines_on_offer}
use Rattle.offer_book.specs.Denominations.{IsDenominated, line_of}
use Rattle.offer_book.specs.MarketLines.{AreLinesOfNotes, IsLineOfNote, note_line, note_lines_from, note_lines_of}
use Rattle.offer_book.specs.Offers.{AreLinesOf, IsLineOf, line_or_refused, offered_line, offered_lines, request_of, slgs_lines_of}
use Rattle.offer_book.specs.declared.line.Line.{Line}
use Rattle.offer_book.specs.declared.line.LineKind.{LineKind}
use Rattle.offer_book.specs.declared.line.LineKind.TheVariants.{Market, Security}
use Rattle.cash_table.proofs.PointFacts.{indexes_near}
use Rattle.offer_book.proofs.BookFacts.{books-are_of_their_files}
use Rattle.offer_book.proofs.OfferFacts.{bound-ok, ending-kept, file-lines, lines-count, no-lines, zipped-length}
use Rattle.case_file.specs.Case.{CaseContents, case_with, rows_case}
use Rattle.case_file.specs.Limit.{IsRestrictedYield, RestsOn, limit_of, lower_end_or_refused, materially_higher, out_of_range, restricted_yield_of}
use Rattle.escrow_desk.specs.Rows.{rows_of}
use Rattle.certificate_answers.specs.Answer.{case_of}
use Rattle.certificate_answers.specs.CaseOf.{AreWithin, BooksKeepLimits, CasesAreWorkedOut, GiveWorkedCase, InputsRead, IsCaseOf, Restricts, SaysOf}
use Rattle.certificate_answers.specs.InputFiles.{InputFiles}
use Rattle.certificate_answers.proofs.InputFacts.{rows_alone}
use Rattle.certificate_answers.proofs.YieldEnds.{answer_is, widened}
use Rattle.certificate_answers.proofs.SaidIssueLaws.{issue-said, said-issue}
use Rattle.certificate_answers.proofs.SaidLimits.{issue_kept, notes_kept, rates_kept}
use Rattle.certificate_answers.proofs.SaidPriceLaws.{notes-said, said-notes}
use Rattle.certificate_answers.proofs.SaidRateLaws.{rates-said, said-rates}
use Rattle.offer_book.specs.declared.payment_days.PaymentDays.{PaymentDays}

-- ---- the lines of offers and notes
-- a quotient, by the multiples between which a number lies
quotient : (n q step : ℕ) → 1 ≤ step → q * step ≤ n → n < (q + 1) * step → n / step ≡ q
quotient n q step some low high =
    let same : q * step + (n - q * step) ≡ n = omega (arith, low) in
    let small : n - q * step < step = omega (arith, low, high) in
    ap (λ m. m / step) (sym same) ∙ div-mul-add q step (n - q * step) small

some-same : {A : Type 0} (a b : A) → Some a ≡ Some b → a ≡ b
some-same a b is = cc

-- a line is the one of its denominations
line-same : (line : Line) (terms : Terms) (bought : LineKind) (cap : ℕ) → line.kind ≡ bought → IsDenominated terms cap line → 1 ≤ terms.step → line ≡ line_of terms bought cap
line-same line terms bought cap kind is some =
    let least : line.least ≡ terms.minimum / terms.step = sym (quotient terms.minimum line.least terms.step some (omega (arith, is.least)) (omega (arith, is.least, some))) in
    let most : line.most ≡ cap / terms.step = sym (quotient cap line.most terms.step some is.most is.greatest) in
    λ i. record { kind = kind i; step = is.step i; least = least i; most = most i }

line-offered : (days : PaymentDays) (file : RateFile) (terms : Terms) (offer : Offer) (line : Line) → IsSettlement days.settle → file.terms ≡ Some terms → AreTerms terms
    → IsLineOf days file offer line → offered_line days file.ranges terms offer ≡ Ok line
line-offered days file terms offer line h stated own is =
    let one : is.terms ≡ terms = some-same is.terms terms (sym is.stated ∙ stated) in
    let by : IsDenominated terms offer.cap line = subst (λ (t : Terms). IsDenominated t offer.cap line) one is.denominated in
    let sold : Ok is.slgs ≡ classified (request_of days.settle file.ranges offer) = classified-only (request_of days.settle file.ranges offer) (Ok is.slgs) h is.sold.rules in
    ap (λ found. answer_of_row Rates offer.row (line_or_refused days terms offer.cap found)) (sym sold)
    ∙ ap (answer_of_row Rates offer.row) (ending-kept days is.slgs.maturity (line_of terms (Security is.slgs) offer.cap) is.sold.in_time)
    ∙ ap (λ l. Ok l) (sym (line-same line terms (Security is.slgs) offer.cap is.security by own.step.0))

lines-offered : (days : PaymentDays) (file : RateFile) (terms : Terms) (offers : List Offer) (lines : List Line) → IsSettlement days.settle → file.terms ≡ Some terms → AreTerms terms
    → AllZip (IsLineOf days file) offers lines → offered_lines days file.ranges terms offers ≡ Ok lines
lines-offered days file terms [] [] h stated own are = refl
lines-offered days file terms [] (line ∷ lines) h stated own are = absurd are
lines-offered days file terms (offer ∷ offers) [] h stated own are = absurd are
lines-offered days file terms (offer ∷ offers) (line ∷ lines) h stated own are =
    rw (line-offered days file terms offer line h stated own are.0, lines-offered days file terms offers lines h stated own are.1) refl

-- a file without terms offers nothing
no-lines_of : (days : PaymentDays) (file : RateFile) (offers : List Offer) (lines : List Line) → file.terms ≡ None → AllZip (IsLineOf days file) offers lines → lines ≡ []
no-lines_of days file [] [] none are = refl
no-lines_of days file [] (line ∷ lines) none are = absurd are
no-lines_of days file (offer ∷ offers) [] none are = absurd are
no-lines_of days file (offer ∷ offers) (line ∷ lines) none are = absurd (let clash : None ≡ Some are.0.terms = sym none ∙ are.0.stated in cc)

slgs-lines : (days : PaymentDays) (file : RateFile) (lines : List Line) (terms : Option Terms) → file.terms ≡ terms → IfSome terms AreTerms → IsSettlement days.settle → AreLinesOf days file lines
    → slgs_lines_of days file ≡ Ok lines
slgs-lines days file lines None stated own h are = no-lines days file stated ∙ ap (λ ls. Ok ls) (sym (no-lines_of days file file.offers lines stated are))
slgs-lines days file lines (Some terms) stated own h are = file-lines days file terms (Ok lines) stated (lines-offered days file terms file.offers lines h stated own are)

-- the lines of notes
note-offered : (days : PaymentDays) (file : NoteFile) (terms : Terms) (row : ℕ) (note : Note) (line : Line) → file.terms ≡ Some terms → AreTerms terms → IsLineOfNote days file note line
    → answer_of_row Prices row (note_line days terms note) ≡ Ok line
note-offered days file terms row note line stated own is =
    let one : is.terms ≡ terms = some-same is.terms terms (sym is.stated ∙ stated) in
    let by : IsDenominated terms note.cap line = subst (λ (t : Terms). IsDenominated t note.cap line) one is.denominated in
    ap (answer_of_row Prices row) (ending-kept days note.maturity (line_of terms (Market note) note.cap) is.in_time)
    ∙ ap (λ l. Ok l) (sym (line-same line terms (Market note) note.cap is.bought by own.step.0))

notes-offered : (days : PaymentDays) (file : NoteFile) (terms : Terms) (row : ℕ) (notes : List Note) (lines : List Line) → file.terms ≡ Some terms → AreTerms terms
    → AllZip (IsLineOfNote days file) notes lines → note_lines_from days terms row notes ≡ Ok lines
notes-offered days file terms row [] [] stated own are = refl
notes-offered days file terms row [] (line ∷ lines) stated own are = absurd are
notes-offered days file terms row (note ∷ notes) [] stated own are = absurd are
notes-offered days file terms row (note ∷ notes) (line ∷ lines) stated own are =
    rw (note-offered days file terms row note line stated own are.0, notes-offered days file terms (row + 1) notes lines stated own are.1) refl

no-notes_of : (days : PaymentDays) (file : NoteFile) (notes : List Note) (lines : List Line) → file.terms ≡ None → AllZip (IsLineOfNote days file) notes lines → lines ≡ []
no-notes_of days file [] [] none are = refl
no-notes_of days file [] (line ∷ lines) none are = absurd are
no-notes_of days file (note ∷ notes) [] none are = absurd are
no-notes_of days file (note ∷ notes) (line ∷ lines) none are = absurd (let clash : None ≡ Some are.0.terms = sym none ∙ are.0.stated in cc)

note-lines : (days : PaymentDays) (file : NoteFile) (lines : List Line) (terms : Option Terms) → file.terms ≡ terms → IfSome terms AreTerms → AreLinesOfNotes days file lines
    → note_lines_of days file ≡ Ok lines
unfolding note_lines_of
note-lines days file lines None stated own are = rw stated (ap (λ ls. Ok ls) (sym (no-notes_of days file file.notes lines stated are)))
note-lines days file lines (Some terms) stated own are = rw stated (notes-offered days file terms 2 file.notes lines stated own are)

-- ---- the book
-- what is read of files keeps its limits
record AreKept (issue : Issue) (rates : RateFile) (notes : NoteFile) : Type 0 where
  of_issue : IsIssue issue
  of_rates : IsRateFile rates
  of_notes : IsNoteFile issue.settle notes

read-kept : (files : InputFiles) (read : InputsRead) → SaysOf files read → AreKept read.issue read.rates read.notes
read-kept files read says =
    let issue = issue_kept (rows_of files.issue) read.issue says.issue in
    record {
      of_issue = issue;
      of_rates = rates_kept (rows_of files.rates) read.rates says.rates;
      of_notes = notes_kept read.issue.settle (rows_of files.prices) read.notes issue.needs.settle says.notes;
    }

book-is : (issue : Issue) (rates : RateFile) (notes : NoteFile) (book : BookContents) → AreKept issue rates notes → length book.lines ≤ 1 + MOST_LINES → IsBookOf issue rates notes book
    → book_of_files issue rates notes ≡ Ok book
unfolding book_of_files
book-is issue rates notes book kept short is =
    let days = issue_days issue in
    let offers = slgs-lines days rates is.offers rates.terms refl kept.of_rates.terms kept.of_issue.needs.settle is.of_offers in
    let market = note-lines days notes is.market notes.terms refl kept.of_notes.terms is.of_notes in
    let all : length book.lines ≡ 1 + length (is.offers ++ is.market) = ap length is.lines ∙ count (is.offers ++ is.market) in
    let few : lines_on_offer rates notes ≤ MOST_LINES =
    omega (arith, length-append is.offers is.market, lines-count days rates is.offers is.of_offers, zipped-length (IsLineOfNote days notes) notes.notes is.market is.of_notes, all, short) in
    let same : book_of issue (is.offers ++ is.market) ≡ book = λ i. record { days = sym is.days i; needs = sym is.needs i; lines = sym is.lines i } in
    rw (offers, market, le-ltb MOST_LINES (lines_on_offer rates notes) few) (ap (λ b. Ok b) same)
  where
    count : (lines : List Line) → length (cash_line issue.cash.0 ∷ lines) ≡ 1 + length lines
    count lines = omega arith

-- ---- the limit
-- the yield of payments is the interval that starts at its lower end
record IsCovered (flows : List IndexedFlow) (cost lo : ℕ) : Type 0 where
  less : present_value Low 3_000_000_000 flows < one * cost
  covered : cost ≤ total_cents flows

covered-by : (flows : List IndexedFlow) (cost lo hi : ℕ) → AreYieldEnds flows cost lo hi → IsCovered flows cost lo
covered-by flows cost lo hi ends = record {
  less = elim (cases_lt (present_value Low 3_000_000_000 flows) (one * cost)) [
    | inl less ↦ less
    | inr worth ↦ absurd (omega (arith, ends.lower.greatest 3_000_000_000 worth, ends.below))
  ];
  covered = omega (arith, ends.lower.worth, value-within Low lo flows);
}

answer-by : (flows : List IndexedFlow) (cost lo hi : ℕ) → AreYieldEnds flows cost lo hi
    → yield_answer_of flows cost ≡ Between (record { 0 = lower_end flows cost }) (record { 0 = upper_end flows cost })
answer-by flows cost lo hi ends =
    let is = covered-by flows cost lo hi ends in
    let some : nat_eq cost 0 ≡ false = ne_eqb cost 0 (λ none. omega (arith, none, is.less)) in
    let empty : ((nat_eq (length flows) 0) && (nat_eq cost 0)) ≡ false = rw some (and-false (nat_eq (length flows) 0)) in
    rw (empty, le-ltb (total_cents flows) cost is.covered, lt-leb (one * cost) (present_value Low 3_000_000_000 flows) is.less) refl
  where
    and-false : (b : Bool) → (b && false) ≡ false
    and-false true = refl
    and-false false = refl

restricted-is : (settle : ℤ) (pays : List Flow) (restricted : Restricted) (n : ℕ) → IsRestrictedYield settle pays restricted n → n ≤ GREATEST_GIVEN_YIELD
    → restricted_yield_of settle pays restricted ≡ Ok n
restricted-is settle pays (Given units) n is most = ap (λ m. Ok m) (sym is)
restricted-is settle pays (Computed row price) n (hi, ends) most =
    let flows = indexed settle pays in
    let is = covered-by flows price.0 n hi ends in
    let low : n ≡ lower_end flows price.0 = lower_end-only flows price.0 n is.covered is.less ends.lower in
    let within : nat_le (lower_end flows price.0) GREATEST_GIVEN_YIELD ≡ true = le-leb (lower_end flows price.0) GREATEST_GIVEN_YIELD (omega (arith, low, most)) in
    rw (answer-by flows price.0 n hi ends, within) (ap (λ m. Ok m) (sym low))

limit-is : (issue : Issue) (limit : ℕ) → RestsOn issue limit → limit_of issue ≡ Ok limit
limit-is issue limit rests =
    rw (restricted-is issue.settle issue.pays issue.restricted rests.restricted rests.yields rests.most) (ap (λ n. Ok n) (sym rests.above))

-- ---- the limit that is worked out
-- what an interval is refused for, or its lower end
record HasLowerEnd (flows : List IndexedFlow) (cost n : ℕ) : Type 0 where
  hi : ℕ
  ends : AreYieldEnds flows cost n hi
  most : n ≤ GREATEST_GIVEN_YIELD

tested-ok : {T E : Type 0} (test : Bool) (answer : Result T E) (refusal : E) (value : T) → (if test then answer else Err refusal) ≡ Ok value → (test ≡ true) × (answer ≡ Ok value)
tested-ok true answer refusal value e = (refl, e)
tested-ok false answer refusal value e = absurd (cc)

abbrev fine : {T : Type 0} → T → Result T Refusal
fine own = Ok own

fine-same : {T : Type 0} (own value : T) → fine own ≡ Ok value → own ≡ value
fine-same own value e = cc

lower-of : (row : ℕ) (flows : List IndexedFlow) (cost n : ℕ) (answer : YieldAnswer) → IsYieldAnswer flows cost answer → lower_end_or_refused row answer ≡ Ok n → HasLowerEnd flows cost n
lower-of row flows cost n (Between lo hi) is e =
    let tested = tested-ok (nat_le lo.0 GREATEST_GIVEN_YIELD) (Ok lo.0) (out_of_range row) n e in
    let most : lo.0 ≤ GREATEST_GIVEN_YIELD = leb-true lo.0 GREATEST_GIVEN_YIELD tested.0 in
    subst (λ m. HasLowerEnd flows cost m) (fine-same lo.0 n tested.1) (record { hi = hi.0; ends = is; most = most })
lower-of row flows cost n Empty is e = absurd (cc)
lower-of row flows cost n Negative is e = absurd (cc)
lower-of row flows cost n Above is e = absurd (cc)

-- the payments of an issue fall within forty years
paid-near : (issue : Issue) → IsIssue issue → last_index (indexed issue.settle issue.pays) ≤ 14_400
paid-near issue kept =
    last_index-le 14_400 (indexed issue.settle issue.pays)
    (indexes_near issue.settle issue.pays kept.needs.settle (λ k d less. let pay = kept.pays k d less in (at-least issue.settle _ pay.day.after, pay.day.by)))
  where
    at-least : (a b : ℤ) → a <ℤ b → a ≤ℤ b
    at-least a b less = grind (arith, ints)

restricted-rests : (issue : Issue) (restricted : Restricted) (n : ℕ) → IsIssue issue → issue.restricted ≡ restricted → restricted_yield_of issue.settle issue.pays restricted ≡ Ok n
    → IsRestrictedYield issue.settle issue.pays restricted n × (n ≤ GREATEST_GIVEN_YIELD)
restricted-rests issue (Given units) n kept is e =
    let same : units.0 ≡ n = fine-same units.0 n e in
    (sym same, subst (λ m. m ≤ GREATEST_GIVEN_YIELD) same (subst IsRestricted is kept.restricted))
restricted-rests issue (Computed row price) n kept is e =
    let flows = indexed issue.settle issue.pays in
    let found = lower-of row flows price.0 n (yield_answer_of flows price.0) (answer_is flows price.0 (paid-near issue kept)) e in
    ((found.hi, found.ends), found.most)

rests-on : (issue : Issue) (limit : ℕ) → IsIssue issue → limit_of issue ≡ Ok limit → RestsOn issue limit
rests-on issue limit kept e =
    let one = bound-ok (restricted_yield_of issue.settle issue.pays issue.restricted) (λ restricted. Ok (restricted + materially_higher)) limit e in
    let own = restricted-rests issue issue.restricted one.first kept refl one.is in
    record { restricted = one.first; yields = own.0; most = own.1; above = sym (fine-same (one.first + materially_higher) limit one.rest) }

restricts : (issue : Issue) (restricted : Restricted) (n : ℕ) → IsRestrictedYield issue.settle issue.pays restricted n → Restricts issue restricted n
restricts issue (Given units) n is = is
restricts issue (Computed row price) n (hi, ends) = record {
  at_least = ends.exact.at_least;
  at_most = widened (indexed issue.settle issue.pays) price.0 hi (n + 2) ends.narrow ends.exact.at_most;
}

-- ---- the case
rows_give_case : (issue_rows rate_rows price_rows : List Row) (read : InputsRead) (case : CaseContents) → issue_of issue_rows ≡ Ok read.issue → rate_file_of rate_rows ≡ Ok read.rates
    → note_file_of read.issue.settle price_rows ≡ Ok read.notes → AreKept read.issue read.rates read.notes → IsCaseOf read case → RestsOn read.issue case.limit
    → rows_case issue_rows rate_rows price_rows ≡ Ok case
unfolding rows_case
rows_give_case issue_rows rate_rows price_rows read case is_issue is_rates is_notes kept is rests =
    let issue = read.issue in
    let book = book-is issue read.rates read.notes case.book kept is.few is.rows in
    let limit = limit-is issue case.limit rests in
    let same : record { book = case.book; limit = case.limit; allowance = issue.allowance.0; budget = issue.budget } ≡ case =
    λ i. record { book = case.book; limit = case.limit; allowance = sym is.allowance i; budget = sym is.budget i } in
    rw (is_issue, is_rates, is_notes, book, limit) (ap (λ c. Ok c) same)

-- files that give a case by the limit that is worked out give the one that is worked out of their rows
pub gives_is : (files : InputFiles) (case : CaseContents) → GiveWorkedCase files case → case_of files ≡ Ok case
gives_is files case (give, rests) =
    rows_alone files give.within
    ∙ rows_give_case (rows_of files.issue) (rows_of files.rates) (rows_of files.prices) give.read case
    (said-issue (rows_of files.issue) give.read.issue give.says.issue) (said-rates (rows_of files.rates) give.read.rates give.says.rates)
    (said-notes give.read.issue.settle (rows_of files.prices) give.read.notes give.says.notes) (read-kept files give.read give.says) give.obeys rests

-- and its book keeps every limit
pub gives_book : BooksKeepLimits
gives_book files case give =
    let kept = read-kept files give.read give.says in
    (books-are_of_their_files give.read.issue give.read.rates give.read.notes case.book kept.of_issue kept.of_rates kept.of_notes
    (book-is give.read.issue give.read.rates give.read.notes case.book kept give.obeys.few give.obeys.rows)).1

-- ---- what is worked out
-- a book has at most so many lines
book-few : (book : BookContents) → IsBook book → length book.lines ≤ 1 + MOST_LINES
book-few book limits = few book.lines limits.lines
  where
    few : (lines : List Line) → AreLines book.days lines → length lines ≤ 1 + MOST_LINES
    few [] are = absurd are
    few (cash ∷ lines) are = omega (arith, are.2)

-- the case of a book and a limit is that of what was read
case-obeys : (read : InputsRead) (book : BookContents) (limit : ℕ) → AreKept read.issue read.rates read.notes → book_of_files read.issue read.rates read.notes ≡ Ok book → RestsOn read.issue limit
    → IsCaseOf read (record { book = book; limit = limit; allowance = read.issue.allowance.0; budget = read.issue.budget })
case-obeys read book limit kept is rests =
    let own = books-are_of_their_files read.issue read.rates read.notes book kept.of_issue kept.of_rates kept.of_notes is in
    record {
      rows = own.0;
      few = book-few book own.1;
      restricted = rests.restricted;
      restricts = restricts read.issue read.issue.restricted rests.restricted rests.yields;
      most = rests.most;
      limit = rests.above;
      allowance = refl;
      budget = refl;
    }

-- what files say gives the case of its book and limit
give-of : (files : InputFiles) (read : InputsRead) (book : BookContents) (limit : ℕ) (case : CaseContents) → AreWithin files → SaysOf files read
    → book_of_files read.issue read.rates read.notes ≡ Ok book → limit_of read.issue ≡ Ok limit
    → record { book = book; limit = limit; allowance = read.issue.allowance.0; budget = read.issue.budget } ≡ case → GiveWorkedCase files case
give-of files read book limit case within says is_book is_limit same =
    let kept = read-kept files read says in
    let rests = rests-on read.issue limit kept.of_issue is_limit in
    subst (GiveWorkedCase files) same (record { within = within; read = read; says = says; obeys = case-obeys read book limit kept is_book rests }, rests)

rows-give : (files : InputFiles) (case : CaseContents) → AreWithin files → rows_case (rows_of files.issue) (rows_of files.rates) (rows_of files.prices) ≡ Ok case → GiveWorkedCase files case
unfolding rows_case
rows-give files case within e =
    let one = bound-ok (issue_of (rows_of files.issue)) (λ issue. rate_file_of (rows_of files.rates) >>= (λ rates. note_file_of issue.settle (rows_of files.prices) >>= (λ notes. book_of_files issue rates notes >>= (λ book. case_with issue book)))) case e in
    let issue = one.first in
    let two = bound-ok (rate_file_of (rows_of files.rates)) (λ rates. note_file_of issue.settle (rows_of files.prices) >>= (λ notes. book_of_files issue rates notes >>= (λ book. case_with issue book))) case one.rest in
    let three = bound-ok (note_file_of issue.settle (rows_of files.prices)) (λ notes. book_of_files issue two.first notes >>= (λ book. case_with issue book)) case two.rest in
    let four = bound-ok (book_of_files issue two.first three.first) (λ book. case_with issue book) case three.rest in
    let five = bound-ok (limit_of issue) (λ limit. Ok (record { book = four.first; limit = limit; allowance = issue.allowance.0; budget = issue.budget })) case four.rest in
    give-of files (record { issue = issue; rates = two.first; notes = three.first }) four.first five.first case within
    (record {
      issue = issue-said (rows_of files.issue) issue one.is;
      rates = rates-said (rows_of files.rates) two.first two.is;
      notes = notes-said issue.settle (rows_of files.prices) three.first three.is;
    })
    four.is five.is (fine-same (record { book = four.first; limit = five.first; allowance = issue.allowance.0; budget = issue.budget }) case five.rest)

-- files within their limits give just what is worked out of their rows
pub works_out : CasesAreWorkedOut
works_out files case within = ((λ is. rows-give files case within (sym (rows_alone files within) ∙ is)), gives_is files case)
