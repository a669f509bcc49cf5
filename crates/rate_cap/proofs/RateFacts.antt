-- The SLGS rates of a case of files are rates of the table.
use Rattle.std.proofs.Common.{◌≡◌, ◌⊎◌, inl, inr, ℕ, ◌+◌, ◌%◌, ◌≤◌, refl, sym, ap, subst, arith, Bool, true, false, if◌then◌else◌, List, [], ◌∷◌, ◌++◌, length, ℤ, Option, Some, None, Result, Ok, Err}
use Rattle.std.specs.Prelude.{All, IfSome, int_lt, nat_le, ◌==◌, ◌&&◌, codes}
use Rattle.std.specs.List.{AllZip, cons_option, list_any}
use Rattle.std.proofs.lemmas.Bool.Decides.{nat_tests}
use Rattle.std.proofs.lemmas.List.Elements.{All-append, All-contains, All-cons, All-head, All-nil, All-push, All-tail, filter_map-append}
use Rattle.std.proofs.lemmas.Option.{IfSome_then}
use Rattle.escrow_desk.specs.declared.refusal.FileKind.TheVariants as file
use Rattle.escrow_desk.specs.declared.refusal.Refusal.{Refusal}
use Rattle.escrow_desk.specs.declared.refusal.RefusalKind.{RefusalKind}
use Rattle.escrow_desk.specs.declared.refusal.RefusalKind.TheVariants as kind
use Rattle.escrow_units.specs.Denomination.{cap_of}
use Rattle.escrow_units.specs.NumberText.{decimal_of, ranged, rate_of as rate_text_of}
use Rattle.escrow_units.specs.declared.amount.Rate.{Rate}
use Rattle.escrow_units.specs.declared.fault.NumberFault.{NumberFault}
use Rattle.escrow_units.specs.declared.fault.NumberFault.TheVariants as fault
use Rattle.escrow_units.specs.declared.security.AskedRate.{AskedRate}
use Rattle.escrow_units.specs.declared.security.AskedRate.TheVariants.{At, Max}
use Rattle.escrow_units.specs.declared.security.Slgs.{Slgs}
use Rattle.escrow_units.specs.declared.security.Terms.{Terms}
use Rattle.row_fields.specs.RowForm.{Row, ◌>>=◌, answer_of_row, day_field_of, field_of, first_terms_of, is_word, or_refused, terms_row_of, with_rows}
use Rattle.rate_table.specs.RateForm.{asked_field_of, bare_file, hundredths_field_of, offer_row_of, optional_day_field_of, range_row_of, rate_file_of, with_offer, with_range, with_read_row, with_row}
use Rattle.rate_table.specs.Table.{IsAsked, IsTableRate, maximum_of, overlap}
use Rattle.rate_table.specs.declared.table.Offer.{Offer}
use Rattle.rate_table.specs.declared.table.RateFile.{RateFile}
use Rattle.rate_table.specs.declared.table.RateRange.{RateRange}
use Rattle.rate_table.proofs.LookupFacts.{maximum_of-rate}
use Rattle.slgs_rules.specs.TermRules.{rate_of}
use Rattle.market_notes.specs.declared.note.Note.{Note}
use Rattle.market_notes.specs.declared.note.NoteFile.{NoteFile}
use Rattle.offer_book.specs.CaseBook.{cash_line, issue_days}
use Rattle.offer_book.specs.MarketLines.{IsLineOfNote}
use Rattle.offer_book.specs.Offers.{IsLineOf}
use Rattle.offer_book.specs.declared.line.Line.{Line}
use Rattle.offer_book.specs.declared.line.LineKind.TheVariants.{Security}
use Rattle.offer_book.specs.declared.payment_days.PaymentDays.{PaymentDays}
use Rattle.offer_book.proofs.OfferFacts.{IsBound, bound-ok}
use Rattle.rate_cap.proofs.CapFacts.{zero-rate}
use Rattle.rate_cap.specs.CaseAt.{FilesGiveTableRates, slgs_rate, slgs_rates}

-- ---- a rate file's rates
-- the ranges and the offers of a file have rates of the table
record HasRates (rates : RateFile) : Type 0 where
  ranges : All (λ range. IsTableRate range.most) rates.ranges
  offers : All (λ offer. IsAsked offer.rate) rates.offers

-- what a test lets through
test-ok : {T E : Type 0} (test : Bool) (answer : Result T E) (refusal : E) (value : T) → (if test then answer else Err refusal) ≡ Ok value → (test ≡ true) × (answer ≡ Ok value)
test-ok true answer refusal value e = (refl, e)
test-ok false answer refusal value e = absurd (cc)

test-not : {T E : Type 0} (test : Bool) (answer : Result T E) (refusal : E) (value : T) → (if test then Err refusal else answer) ≡ Ok value → answer ≡ Ok value
test-not true answer refusal value e = absurd (cc)
test-not false answer refusal value e = e

kept-ok : {T : Type 0} (answer : Result T NumberFault) (value : T) → or_refused answer ≡ Ok value → answer ≡ Ok value
kept-ok (Ok own) value e = let same : own ≡ value = cc in ap (λ v. Ok v) same
kept-ok (Err own) value e = absurd (cc)

row-ok : {T : Type 0} (number : ℕ) (answer : Result T RefusalKind) (value : T) → answer_of_row file.Rates number answer ≡ Ok value → answer ≡ Ok value
row-ok number (Ok own) value e = let same : own ≡ value = cc in ap (λ v. Ok v) same
row-ok number (Err own) value e = absurd (cc)

abbrev ok : {T : Type 0} (E : Type 0) → T → Result T E
ok E own = Ok own

ok-is : {T : Type 0} (E : Type 0) (own value : T) → ok E own ≡ Ok value → own ≡ value
ok-is E own value e = cc

spelled-limit : (number : Option ℕ) (rate : Rate) → ranged (λ n. record { 0 = n }) 0 30_000 fault.OutOfRange number ≡ Ok rate → rate.0 ≤ 30_000
spelled-limit None rate e = absurd (cc)
spelled-limit (Some n) rate e = within (nat_le n 30_000) refl (test-ok (nat_le 0 n && nat_le n 30_000) (Ok (record { 0 = n })) fault.OutOfRange rate e)
  where
    within : (t : Bool) → nat_le n 30_000 ≡ t → ((nat_le 0 n && nat_le n 30_000) ≡ true) × (ok NumberFault (record { 0 = n }) ≡ Ok rate) → rate.0 ≤ 30_000
    within true test parts =
        let same : n ≡ rate.0 = ap (λ (own : Rate). own.0) (ok-is NumberFault (record { 0 = n }) rate parts.1) in
        let few : n ≤ 30_000 = grind (arith, nat_tests) in
        omega (arith, same, few)
    within false test parts = absurd (grind (arith, nat_tests))

rate-limit : (bytes : List ℕ) (rate : Rate) → rate_text_of bytes ≡ Ok rate → rate.0 ≤ 30_000
unfolding rate_text_of
rate-limit bytes rate e = spelled-limit (decimal_of 3 3 bytes) rate e

hundredths-rate : (bytes : List ℕ) (rate : Rate) → hundredths_field_of bytes ≡ Ok rate → IsTableRate rate
hundredths-rate bytes rate e =
    let read = bound-ok (or_refused (rate_text_of bytes)) (λ own. if own.0 % 10 == 0 then Ok own else Err kind.OutOfRange) rate e in
    let tested = test-ok (read.first.0 % 10 == 0) (Ok read.first) kind.OutOfRange rate read.rest in
    let even : read.first.0 % 10 ≡ 0 = grind (arith, nat_tests) in
    subst IsTableRate (ok-is RefusalKind read.first rate tested.1)
    (record { limit = rate-limit bytes read.first (kept-ok (rate_text_of bytes) read.first read.is); hundredths = even })

asked-rate : (bytes : List ℕ) (asked : AskedRate) → asked_field_of bytes ≡ Ok asked → IsAsked asked
asked-rate bytes asked e = at (is_word (codes "max") bytes) e
  where
    at : (t : Bool) → (if t then Ok Max else (hundredths_field_of bytes >>= (λ rate. Ok (At rate)))) ≡ Ok asked → IsAsked asked
    at true own = subst IsAsked (ok-is RefusalKind Max asked own) tt
    at false own =
        let read = bound-ok (hundredths_field_of bytes) (λ rate. Ok (At rate)) asked own in
        subst IsAsked (ok-is RefusalKind (At read.first) asked read.rest) (hundredths-rate bytes read.first read.is)

range-rates : (row : Row) (range : RateRange) → range_row_of row ≡ Ok range → IsTableRate range.most
range-rates row range e =
    let answer = (test-ok (length row == 4) _ kind.WrongFields range e).1 in
    let from = bound-ok (day_field_of (field_of row 1)) _ range answer in
    let to = bound-ok (day_field_of (field_of row 2)) _ range from.rest in
    let most = bound-ok (hundredths_field_of (field_of row 3)) _ range to.rest in
    let made = test-not (int_lt to.first from.first) (Ok (record { from = from.first; to = to.first; most = most.first })) kind.DateOrder range most.rest in
    subst IsTableRate (ap (λ (own : RateRange). own.most) (ok-is RefusalKind (record { from = from.first; to = to.first; most = most.first }) range made))
    (hundredths-rate (field_of row 3) most.first most.is)

offer-rates : (terms : Terms) (number : ℕ) (row : Row) (offer : Offer) → offer_row_of terms number row ≡ Ok offer → IsAsked offer.rate
offer-rates terms number row offer e =
    let answer = (test-ok (length row == 5) _ kind.WrongFields offer e).1 in
    let maturity = bound-ok (day_field_of (field_of row 1)) _ offer answer in
    let rate = bound-ok (asked_field_of (field_of row 2)) _ offer maturity.rest in
    let first = bound-ok (optional_day_field_of (field_of row 3)) _ offer rate.rest in
    let cap = bound-ok (or_refused (cap_of terms (field_of row 4))) _ offer first.rest in
    let made : Offer = record { row = number; maturity = maturity.first; rate = rate.first; first = first.first; cap = cap.first } in
    subst IsAsked (ap (λ (own : Offer). own.rate) (ok-is RefusalKind made offer cap.rest)) (asked-rate (field_of row 2) rate.first rate.is)

-- what one more row makes, by what it says
if-bound : {T U E : Type 0} (test : Bool) (answer other : Result T E) (next : T → Result U E) (value : U) → ((if test then answer else other) >>= next) ≡ Ok value
    → ((answer >>= next) ≡ Ok value) ⊎ ((other >>= next) ≡ Ok value)
if-bound true answer other next value e = inl e
if-bound false answer other next value e = inr e

made-bound : {S T U E : Type 0} (answer : Result S E) (make : S → T) (next : T → Result U E) (value : U) → ((answer >>= (λ own. Ok (make own))) >>= next) ≡ Ok value
    → IsBound answer (λ own. next (make own)) value
made-bound (Ok first) make next value e = record { first = first; is = refl; rest = e }
made-bound (Err refusal) make next value e = absurd (cc)

range-more : (before : RateFile) (range : RateRange) (after : RateFile) → HasRates before → IsTableRate range.most → with_range before range ≡ Ok after → HasRates after
range-more before range after has own e =
    let made = test-not (list_any (overlap range) before.ranges) (Ok (record before { ranges = before.ranges ++ range ∷ [] })) kind.Overlap after e in
    subst HasRates (ok-is RefusalKind (record before { ranges = before.ranges ++ range ∷ [] }) after made)
    (record { ranges = All-push (λ (other : RateRange). IsTableRate other.most) before.ranges range has.ranges own; offers = has.offers })

offer-more : (before : RateFile) (offer : Offer) (after : RateFile) → HasRates before → IsAsked offer.rate → with_offer before offer ≡ Ok after → HasRates after
offer-more before offer after has own e =
    subst HasRates (ok-is RefusalKind (record before { offers = before.offers ++ offer ∷ [] }) after e)
    (record { ranges = has.ranges; offers = All-push (λ (other : Offer). IsAsked other.rate) before.offers offer has.offers own })

row-rates : (terms : Terms) (before : RateFile) (number : ℕ) (row : Row) (after : RateFile) → HasRates before → with_row terms before number row ≡ Ok after → HasRates after
row-rates terms before number row after has e =
    elim (if-bound (is_word (codes "terms") (field_of row 0)) _ _ (with_read_row before) after e) [
      | inl own ↦ (let read = made-bound (terms_row_of row) _ (with_read_row before) after own in absurd (cc (read.rest)))
      | inr rest ↦ elim (if-bound (is_word (codes "rate") (field_of row 0)) _ _ (with_read_row before) after rest) [
        | inl own ↦ (
            let read = made-bound (range_row_of row) _ (with_read_row before) after own in
            range-more before read.first after has (range-rates row read.first read.is) read.rest)
        | inr rest ↦ elim (if-bound (is_word (codes "offer") (field_of row 0)) _ _ (with_read_row before) after rest) [
          | inl own ↦ (
              let read = made-bound (offer_row_of terms number row) _ (with_read_row before) after own in
              offer-more before read.first after has (offer-rates terms number row read.first read.is) read.rest)
          | inr never ↦ absurd (cc)
        ]
      ]
    ]

rows-rates : (terms : Terms) (before : RateFile) (number : ℕ) (rows : List Row) (after : RateFile) → HasRates before
    → with_rows file.Rates (with_row terms) before number rows ≡ Ok after → HasRates after
rows-rates terms before number [] after has e = subst HasRates (ok-is Refusal before after e) has
rows-rates terms before number (row ∷ rows) after has e =
    let one = bound-ok (answer_of_row file.Rates number (with_row terms before number row)) (λ more. with_rows file.Rates (with_row terms) more (number + 1) rows) after e in
    let read = row-ok number (with_row terms before number row) one.first one.is in
    rows-rates terms one.first (number + 1) rows after (row-rates terms before number row one.first has read) one.rest

bare-rates : (terms : Option Terms) → HasRates (bare_file terms)
bare-rates terms = record { ranges = All-nil (λ (range : RateRange). IsTableRate range.most); offers = All-nil (λ (offer : Offer). IsAsked offer.rate) }

file-rates : (rows : List Row) (rates : RateFile) → rate_file_of rows ≡ Ok rates → HasRates rates
unfolding rate_file_of
file-rates [] rates e = subst HasRates (ok-is Refusal (bare_file None) rates e) (bare-rates None)
file-rates (row ∷ rows) rates e =
    let terms = bound-ok (answer_of_row file.Rates 1 (first_terms_of row)) (λ terms. with_rows file.Rates (with_row terms) (bare_file (Some terms)) 2 rows) rates e in
    rows-rates terms.first (bare_file (Some terms.first)) 2 rows rates (bare-rates (Some terms.first)) terms.rest

-- ---- the rates of the lines
maximum-rate : (ranges : List RateRange) (day : ℤ) → All (λ range. IsTableRate range.most) ranges → IfSome (maximum_of ranges day) IsTableRate
maximum-rate ranges day all =
    IfSome_then (maximum_of ranges day) (maximum_of-rate ranges day)
    (λ rate own. subst IsTableRate own.4.1 (All-contains (λ (range : RateRange). IsTableRate range.most) ranges own.1 all (own.0, own.2, own.3)))

given-rate : (asked : AskedRate) (most : Option Rate) → IsAsked asked → IfSome most IsTableRate → IsTableRate (rate_of asked most)
given-rate (At rate) most own greatest = own
given-rate Max (Some most) own greatest = greatest
given-rate Max None own greatest = zero-rate

slgs-rates : (line : Line) (slgs : Slgs) (lines : List Line) → line.kind ≡ Security slgs → IsTableRate slgs.rate → All IsTableRate (slgs_rates lines)
    → All IsTableRate (slgs_rates (line ∷ lines))
slgs-rates line slgs lines is own rest =
    subst (λ (o : Option Rate). All IsTableRate (cons_option o (slgs_rates lines))) (sym (ap slgs_rate is)) (All-cons IsTableRate slgs.rate (slgs_rates lines) own rest)

offered-rates : (days : PaymentDays) (rates : RateFile) (offers : List Offer) (lines : List Line) → HasRates rates → All (λ offer. IsAsked offer.rate) offers
    → AllZip (IsLineOf days rates) offers lines → All IsTableRate (slgs_rates lines)
offered-rates days rates [] [] has all are = All-nil IsTableRate
offered-rates days rates [] (line ∷ lines) has all are = absurd are
offered-rates days rates (offer ∷ offers) [] has all are = absurd are
offered-rates days rates (offer ∷ offers) (line ∷ lines) has all are =
    let P : Offer → Type 0 = λ own. IsAsked own.rate in
    let given = given-rate offer.rate (maximum_of rates.ranges offer.maturity) (All-head P offer offers all) (maximum-rate rates.ranges offer.maturity has.ranges) in
    slgs-rates line are.0.slgs lines are.0.security (subst IsTableRate (sym are.0.sold.rules.rate) given)
    (offered-rates days rates offers lines has (All-tail P offer offers all) are.1)

note-rates : (days : PaymentDays) (notes_file : NoteFile) (notes : List Note) (lines : List Line) → AllZip (IsLineOfNote days notes_file) notes lines → All IsTableRate (slgs_rates lines)
note-rates days notes_file [] [] are = All-nil IsTableRate
note-rates days notes_file [] (line ∷ lines) are = absurd are
note-rates days notes_file (note ∷ notes) [] are = absurd are
note-rates days notes_file (note ∷ notes) (line ∷ lines) are =
    subst (λ (o : Option Rate). All IsTableRate (cons_option o (slgs_rates lines))) (sym (ap slgs_rate are.0.bought)) (note-rates days notes_file notes lines are.1)

lines-rates : (cash : ℕ) (offers market : List Line) → All IsTableRate (slgs_rates offers) → All IsTableRate (slgs_rates market)
    → All IsTableRate (slgs_rates (cash_line cash ∷ (offers ++ market)))
lines-rates cash offers market own other =
    subst (All IsTableRate) (sym (filter_map-append (λ (line : Line). slgs_rate line.kind) offers market))
    (All-append IsTableRate (slgs_rates offers) (slgs_rates market) own other)

pub files-give_table_rates : FilesGiveTableRates
files-give_table_rates issue_rows rate_rows price_rows case kept =
    let has = file-rates rate_rows kept.rates kept.is_rates in
    let offers = offered-rates (issue_days kept.issue) kept.rates kept.rates.offers kept.rows.offers has has.offers kept.rows.of_offers in
    let market = note-rates (issue_days kept.issue) kept.notes kept.notes.notes kept.rows.market kept.rows.of_notes in
    subst (λ (lines : List Line). All IsTableRate (slgs_rates lines)) (sym kept.rows.lines)
    (lines-rates kept.issue.cash.0 kept.rows.offers kept.rows.market offers market)
