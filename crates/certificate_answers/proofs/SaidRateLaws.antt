-- The rate file that the rows of RATES say is the one that is read of them.
use Rattle.std.proofs.Common.{◌≡◌, ◌∙◌, ℕ, suc, ◌+◌, ◌<◌, refl, sym, ap, subst, arith, Bool, true, false, if◌then◌else◌, List, [], ◌∷◌, ◌++◌, length, get_or, ℤ, Option, Some, None, Result, Ok, Err}
use Rattle.std.specs.Prelude.{◌==◌, ◌%◌, ◌&&◌, IsTrue, nat_eq, int_lt, int_le, codes}
use Rattle.std.specs.List.{enumerate_from, list_any}
use Rattle.std.proofs.lemmas.Bool.Decides.{nat_tests}
use Rattle.std.proofs.lemmas.List.{append_assoc, get_or_append_left, length-append}
use Rattle.std.proofs.lemmas.List.Elements.{All-nil, All-cons, All-head, All-tail}
use Rattle.std.proofs.lemmas.List.Folds.{list_any_at, list_any_none}
use Rattle.std.proofs.lemmas.List.Quantifiers.{all_pairs_push}
use Rattle.escrow_desk.specs.declared.refusal.FileKind.TheVariants as file
use Rattle.escrow_desk.specs.declared.refusal.Refusal.{Refusal}
use Rattle.escrow_desk.specs.declared.refusal.RefusalKind.{RefusalKind}
use Rattle.escrow_desk.specs.declared.refusal.RefusalKind.TheVariants as kind
use Rattle.escrow_units.specs.DateText.{day_of}
use Rattle.escrow_units.specs.Denomination.{cap_of}
use Rattle.escrow_units.specs.NumberText.{decimal_of, rate_of, whole_of}
use Rattle.escrow_units.specs.declared.amount.Rate.{Rate}
use Rattle.escrow_units.specs.declared.security.AskedRate.{AskedRate}
use Rattle.escrow_units.specs.declared.security.AskedRate.TheVariants.{At, Max}
use Rattle.escrow_units.specs.declared.security.Terms.{Terms}
use Rattle.row_fields.specs.RowForm.{Row, ◌>>=◌, answer_of_row, day_field_of, field_of, first_terms_of, is_word, or_refused, terms_row_of, with_rows}
use Rattle.rate_table.specs.RateForm.{asked_field_of, bare_file, hundredths_field_of, offer_row_of, optional_day_field_of, range_row_of, rate_file_of, rate_row_of, with_read_row, with_row}
use Rattle.rate_table.specs.Table.{AreApart, overlap}
use Rattle.rate_table.specs.declared.table.Offer.{Offer}
use Rattle.rate_table.specs.declared.table.RateFile.{RateFile}
use Rattle.rate_table.specs.declared.table.RateRange.{RateRange}
use Rattle.certificate_answers.specs.SaidRates.{IsRateFileOf, RateFilesAreSaid, SaysAsked, SaysDate, SaysHundredths, SaysOffer, SaysRange}
use Rattle.certificate_answers.specs.SaidRows.{BeginWith}
use Rattle.certificate_answers.proofs.SaidRowFacts.{Column, all-said, bound-ok, by-word, column-of, found-ok, kept-ok, made-bound, no-answer, none-added, none_before, not_before, ok-is, row-ok, same-list, says-terms, taken, terms-says, test-not, test-ok, untaken, width-is, width-ok, word-is}

-- ---- fields
hundredths-says : (bytes : List ℕ) (rate : Rate) → hundredths_field_of bytes ≡ Ok rate → SaysHundredths bytes rate
hundredths-says bytes rate e =
    let read = bound-ok (or_refused (rate_of bytes)) (λ own. if own.0 % 10 == 0 then Ok own else Err kind.OutOfRange) rate e in
    let tested = test-ok (read.first.0 % 10 == 0) (Ok read.first) kind.OutOfRange rate read.rest in
    let whole : read.first.0 % 10 ≡ 0 = grind (arith, nat_tests) in
    subst (SaysHundredths bytes) (ok-is RefusalKind read.first rate tested.1) (kept-ok (rate_of bytes) read.first read.is, whole)

says-hundredths : (bytes : List ℕ) (rate : Rate) → SaysHundredths bytes rate → hundredths_field_of bytes ≡ Ok rate
says-hundredths bytes rate says = let whole : nat_eq (rate.0 % 10) 0 ≡ true = test (rate.0 % 10) says.1 in rw (says.0, whole) refl
  where
    test : (n : ℕ) → n ≡ 0 → nat_eq n 0 ≡ true
    test n h = grind (arith, nat_tests)

no-max : (rate : Rate) → rate_of (codes "max") ≡ Ok rate → ⊥
unfolding rate_of decimal_of whole_of
no-max rate e = cc

asked-says : (bytes : List ℕ) (asked : AskedRate) → asked_field_of bytes ≡ Ok asked → SaysAsked bytes asked
asked-says bytes asked e = at (is_word (codes "max") bytes) refl e
  where
    at : (t : Bool) → is_word (codes "max") bytes ≡ t → (if t then Ok Max else (hundredths_field_of bytes >>= (λ rate. Ok (At rate)))) ≡ Ok asked → SaysAsked bytes asked
    at true is own = subst (SaysAsked bytes) (ok-is RefusalKind Max asked own) (word-is (codes "max") bytes is)
    at false is own =
        let read = bound-ok (hundredths_field_of bytes) (λ rate. Ok (At rate)) asked own in
        subst (SaysAsked bytes) (ok-is RefusalKind (At read.first) asked read.rest) (hundredths-says bytes read.first read.is)

says-asked : (bytes : List ℕ) (asked : AskedRate) → SaysAsked bytes asked → asked_field_of bytes ≡ Ok asked
says-asked bytes Max says = rw says refl
says-asked bytes (At rate) says = at (is_word (codes "max") bytes) refl
  where
    at : (t : Bool) → is_word (codes "max") bytes ≡ t → (if t then Ok Max else (hundredths_field_of bytes >>= (λ own. Ok (At own)))) ≡ Ok (At rate)
    at true is = absurd (no-max rate (ap rate_of (sym (word-is (codes "max") bytes is)) ∙ says.0))
    at false is = rw (says-hundredths bytes rate says) refl

date-says : (bytes : List ℕ) (day : Option ℤ) → optional_day_field_of bytes ≡ Ok day → SaysDate bytes day
date-says [] day e = subst (SaysDate []) (ok-is RefusalKind None day e) refl
date-says (byte ∷ bytes) day e =
    let some : nat_eq (length (byte ∷ bytes)) 0 ≡ false = test (length bytes) in
    let answer : (day_field_of (byte ∷ bytes) >>= (λ own. Ok (Some own))) ≡ Ok day = rw some at e in
    let read = bound-ok (day_field_of (byte ∷ bytes)) (λ own. Ok (Some own)) day answer in
    subst (SaysDate (byte ∷ bytes)) (ok-is RefusalKind (Some read.first) day read.rest) (found-ok (day_of (byte ∷ bytes)) read.first read.is)
  where
    test : (n : ℕ) → nat_eq (suc n) 0 ≡ false
    test n = grind (arith, nat_tests)

says-date : (bytes : List ℕ) (day : Option ℤ) → SaysDate bytes day → optional_day_field_of bytes ≡ Ok day
says-date bytes None says = rw says refl
says-date [] (Some day) says = absurd (cc)
says-date (byte ∷ bytes) (Some day) says = let some : nat_eq (length (byte ∷ bytes)) 0 ≡ false = test (length bytes) in rw (some, says) refl
  where
    test : (n : ℕ) → nat_eq (suc n) 0 ≡ false
    test n = grind (arith, nat_tests)

-- ---- rows
range-says : (row : Row) (range : RateRange) → range_row_of row ≡ Ok range → SaysRange row range
range-says row range e =
    let wide = width-ok 4 row _ range e in
    let from = bound-ok (day_field_of (field_of row 1)) _ range wide.1 in
    let to = bound-ok (day_field_of (field_of row 2)) _ range from.rest in
    let most = bound-ok (hundredths_field_of (field_of row 3)) _ range to.rest in
    let ordered = test-not (int_lt to.first from.first) (Ok (record { from = from.first; to = to.first; most = most.first })) kind.DateOrder range most.rest in
    subst (SaysRange row) (ok-is RefusalKind (record { from = from.first; to = to.first; most = most.first }) range ordered.1) (
      wide.0,
      found-ok (day_of (field_of row 1)) from.first from.is,
      found-ok (day_of (field_of row 2)) to.first to.is,
      not_before to.first from.first ordered.0,
      hundredths-says (field_of row 3) most.first most.is,
    )

says-range : (row : Row) (range : RateRange) → SaysRange row range → range_row_of row ≡ Ok range
says-range row range says =
    width-is 4 row _ says.0 ∙ rw (says.1, says.2, says-hundredths (field_of row 3) range.most says.4, none_before range.to range.from says.3) refl

offer-says : (terms : Terms) (number : ℕ) (row : Row) (offer : Offer) → offer_row_of terms number row ≡ Ok offer → SaysOffer terms number row offer
offer-says terms number row offer e =
    let wide = width-ok 5 row _ offer e in
    let maturity = bound-ok (day_field_of (field_of row 1)) _ offer wide.1 in
    let rate = bound-ok (asked_field_of (field_of row 2)) _ offer maturity.rest in
    let first = bound-ok (optional_day_field_of (field_of row 3)) _ offer rate.rest in
    let cap = bound-ok (or_refused (cap_of terms (field_of row 4))) _ offer first.rest in
    let made : Offer = record { row = number; maturity = maturity.first; rate = rate.first; first = first.first; cap = cap.first } in
    subst (SaysOffer terms number row) (ok-is RefusalKind made offer cap.rest) (
      wide.0,
      refl,
      found-ok (day_of (field_of row 1)) maturity.first maturity.is,
      asked-says (field_of row 2) rate.first rate.is,
      date-says (field_of row 3) first.first first.is,
      kept-ok (cap_of terms (field_of row 4)) cap.first cap.is,
    )

says-offer : (terms : Terms) (number : ℕ) (row : Row) (offer : Offer) → SaysOffer terms number row offer → offer_row_of terms number row ≡ Ok offer
says-offer terms number row offer says =
    width-is 5 row _ says.0
    ∙ rw (says.2, says-asked (field_of row 2) offer.rate says.3, says-date (field_of row 3) offer.first says.4, says.5)
    (λ i. Ok (record offer { row = says.1 i }))

-- ---- what rows add
abbrev IsKnown : ℕ × Row → Type 0
IsKnown row = IsTrue (list_any (λ word. is_word word (field_of row.1 0)) (codes "rate" ∷ codes "offer" ∷ []))

abbrev Added : Terms → List (ℕ × Row) → RateFile → RateFile → Type 0
Added terms rows before after =
    BeginWith (codes "rate" ∷ codes "offer" ∷ []) rows × (after.terms ≡ before.terms)
    × Column (codes "rate") (λ _. SaysRange) rows before.ranges after.ranges
    × Column (codes "offer") (SaysOffer terms) rows before.offers after.offers
    × (AreApart before.ranges → AreApart after.ranges)

overlap-back : (a b : RateRange) → overlap a b ≡ overlap b a
overlap-back a b = swap (int_le a.from b.to) (int_le b.from a.to)
  where
    swap : (s t : Bool) → (s && t) ≡ (t && s)
    swap true true = refl
    swap true false = refl
    swap false true = refl
    swap false false = refl

apart-push : (ranges : List RateRange) (range : RateRange) → list_any (overlap range) ranges ≡ false → AreApart ranges → AreApart (ranges ++ range ∷ [])
apart-push ranges range e apart =
    all_pairs_push (λ a b. overlap a b ≡ false) ranges range apart (λ k d less. by k d less (overlap (get_or ranges k d) range) refl)
  where
    by : (k : ℕ) (d : RateRange) → k < length ranges → (t : Bool) → overlap (get_or ranges k d) range ≡ t → overlap (get_or ranges k d) range ≡ false
    by k d less true is =
        absurd (let there : list_any (overlap range) ranges ≡ true = list_any_at (overlap range) ranges k d less (overlap-back range (get_or ranges k d) ∙ is) in let clash = sym there ∙ e in cc)
    by k d less false is = is

at-length : (ranges : List RateRange) (range : RateRange) (said : List RateRange) (d : RateRange) → get_or (ranges ++ range ∷ said) (length ranges) d ≡ range
at-length [] range said d = refl
at-length (other ∷ ranges) range said d = at-length ranges range said d

apart-not : (ranges : List RateRange) (range : RateRange) (said after : List RateRange) → after ≡ (ranges ++ range ∷ []) ++ said → AreApart after → list_any (overlap range) ranges ≡ false
apart-not ranges range said after e apart = list_any_none (overlap range) ranges (λ k d less. other k d less)
  where
    all : AreApart (ranges ++ range ∷ said)
    all = subst AreApart (e ∙ append_assoc ranges (range ∷ []) said) apart

    other : (k : ℕ) (d : RateRange) → k < length ranges → overlap range (get_or ranges k d) ≡ false
    other k d less =
        let own = all k (length ranges) d less (simp length-append (omega arith)) in
        overlap-back range (get_or ranges k d)
        ∙ (ap (λ a. overlap a range) (sym (get_or_append_left ranges (range ∷ said) d k less))
        ∙ (ap (λ b. overlap (get_or (ranges ++ range ∷ said) k d) b) (sym (at-length ranges range said d)) ∙ own))

-- ---- one row more
range-step : (terms : Terms) (before : RateFile) (number : ℕ) (fields : Row) (rows : List (ℕ × Row)) (more after : RateFile) → with_row terms before number (codes "rate" ∷ fields) ≡ Ok more → Added terms rows more after
    → Added terms ((number, codes "rate" ∷ fields) ∷ rows) before after
range-step terms before number fields rows more after e added =
    let row = codes "rate" ∷ fields in
    let read = made-bound (range_row_of row) _ (with_read_row before) more e in
    let apart = test-not (list_any (overlap read.first) before.ranges) (Ok (record before { ranges = before.ranges ++ read.first ∷ [] })) kind.Overlap more read.rest in
    let made = ok-is RefusalKind (record before { ranges = before.ranges ++ read.first ∷ [] }) more apart.1 in
    subst (λ (m : RateFile). Added terms rows m after → Added terms ((number, row) ∷ rows) before after) made
    (λ h. (
      All-cons IsKnown (number, row) rows refl h.0,
      h.1,
      taken (codes "rate") (λ _. SaysRange) number row rows read.first before.ranges after.ranges refl (range-says row read.first read.is) h.2,
      h.3,
      (λ own. h.4 (apart-push before.ranges read.first apart.0 own)),
    )) added

offer-step : (terms : Terms) (before : RateFile) (number : ℕ) (fields : Row) (rows : List (ℕ × Row)) (more after : RateFile) → with_row terms before number (codes "offer" ∷ fields) ≡ Ok more → Added terms rows more after
    → Added terms ((number, codes "offer" ∷ fields) ∷ rows) before after
offer-step terms before number fields rows more after e added =
    let row = codes "offer" ∷ fields in
    let read = made-bound (offer_row_of terms number row) _ (with_read_row before) more e in
    let made = ok-is RefusalKind (record before { offers = before.offers ++ read.first ∷ [] }) more read.rest in
    subst (λ (m : RateFile). Added terms rows m after → Added terms ((number, row) ∷ rows) before after) made
    (λ h. (
      All-cons IsKnown (number, row) rows refl h.0,
      h.1,
      h.2,
      taken (codes "offer") (SaysOffer terms) number row rows read.first before.offers after.offers refl (offer-says terms number row read.first read.is) h.3,
      h.4,
    )) added

-- of a row with this word
abbrev IsAdded : Terms → RateFile → ℕ → Row → List (ℕ × Row) → RateFile → RateFile → List ℕ → Type 0
IsAdded terms before number fields rows more after word =
    with_row terms before number (word ∷ fields) ≡ Ok more → Added terms rows more after → Added terms ((number, word ∷ fields) ∷ rows) before after

row-step : (terms : Terms) (before : RateFile) (number : ℕ) (w : List ℕ) (fields : Row) (rows : List (ℕ × Row)) (more after : RateFile) → IsAdded terms before number fields rows more after w
row-step terms before number w fields rows more after =
    by-word (codes "terms") w (IsAdded terms before number fields rows more after)
    (λ e added. absurd (let read = made-bound (terms_row_of (codes "terms" ∷ fields)) _ (with_read_row before) more e in cc (read.rest)))
    (λ wa. by-word (codes "rate") w (IsAdded terms before number fields rows more after) (range-step terms before number fields rows more after)
    (λ wb. by-word (codes "offer") w (IsAdded terms before number fields rows more after) (offer-step terms before number fields rows more after)
    (λ wc e added.
    let unknown : rate_row_of terms number (w ∷ fields) ≡ Err kind.UnknownRow = rw (wa, wb, wc) refl in
    absurd (no-answer (rate_row_of terms number (w ∷ fields)) kind.UnknownRow (with_read_row before) more unknown e))))

rows-add : (terms : Terms) (before : RateFile) (number : ℕ) (rows : List Row) (after : RateFile) → with_rows file.Rates (with_row terms) before number rows ≡ Ok after
    → Added terms (enumerate_from number rows) before after
rows-add terms before number [] after e =
    subst (Added terms [] before) (ok-is Refusal before after e)
    (All-nil IsKnown, refl, none-added (codes "rate") (λ _. SaysRange) before.ranges, none-added (codes "offer") (SaysOffer terms) before.offers, (λ apart. apart))
rows-add terms before number ([] ∷ rows) after e =
    let one = bound-ok (answer_of_row file.Rates number (with_row terms before number [])) (λ more. with_rows file.Rates (with_row terms) more (number + 1) rows) after e in
    let read = row-ok file.Rates number (with_row terms before number []) one.first one.is in
    absurd (cc (read))
rows-add terms before number ((w ∷ fields) ∷ rows) after e =
    let one = bound-ok (answer_of_row file.Rates number (with_row terms before number (w ∷ fields))) (λ more. with_rows file.Rates (with_row terms) more (number + 1) rows) after e in
    let read = row-ok file.Rates number (with_row terms before number (w ∷ fields)) one.first one.is in
    row-step terms before number w fields (enumerate_from (number + 1) rows) one.first after read (rows-add terms one.first (number + 1) rows after one.rest)

-- ---- back
record IsNext (terms : Terms) (before : RateFile) (number : ℕ) (row : Row) (rows : List (ℕ × Row)) (after : RateFile) : Type 0 where
  more : RateFile
  is : with_row terms before number row ≡ Ok more
  rest : Added terms rows more after

-- of a row with this word
abbrev IsBack : Terms → RateFile → ℕ → Row → List (ℕ × Row) → RateFile → List ℕ → Type 0
IsBack terms before number fields rows after word = Added terms ((number, word ∷ fields) ∷ rows) before after → AreApart after.ranges → IsNext terms before number (word ∷ fields) rows after

range-back : (terms : Terms) (before : RateFile) (number : ℕ) (fields : Row) (rows : List (ℕ × Row)) (after : RateFile) → IsBack terms before number fields rows after (codes "rate")
range-back terms before number fields rows after h apart =
    let row = codes "rate" ∷ fields in
    let found = untaken (codes "rate") (λ _. SaysRange) number row rows before.ranges after.ranges refl h.2 in
    let read = says-range row found.0 found.1 in
    let new = apart-not before.ranges found.0 found.2.0 after.ranges found.2.2 apart in
    record {
      more = record before { ranges = before.ranges ++ found.0 ∷ [] };
      is = rw (read, new) refl;
      rest = (All-tail IsKnown (number, row) rows h.0, h.1, found.2, h.3, (λ _. apart));
    }

offer-back : (terms : Terms) (before : RateFile) (number : ℕ) (fields : Row) (rows : List (ℕ × Row)) (after : RateFile) → IsBack terms before number fields rows after (codes "offer")
offer-back terms before number fields rows after h apart =
    let row = codes "offer" ∷ fields in
    let found = untaken (codes "offer") (SaysOffer terms) number row rows before.offers after.offers refl h.3 in
    let read = says-offer terms number row found.0 found.1 in
    record {
      more = record before { offers = before.offers ++ found.0 ∷ [] };
      is = rw read refl;
      rest = (All-tail IsKnown (number, row) rows h.0, h.1, h.2, found.2, (λ _. apart));
    }

row-back : (terms : Terms) (before : RateFile) (number : ℕ) (w : List ℕ) (fields : Row) (rows : List (ℕ × Row)) (after : RateFile) → IsBack terms before number fields rows after w
row-back terms before number w fields rows after =
    by-word (codes "rate") w (IsBack terms before number fields rows after) (range-back terms before number fields rows after)
    (λ wa. by-word (codes "offer") w (IsBack terms before number fields rows after) (offer-back terms before number fields rows after)
    (λ wb h apart.
    let known : IsKnown (number, w ∷ fields) = All-head IsKnown (number, w ∷ fields) rows h.0 in
    let none : list_any (λ word. is_word word w) (codes "rate" ∷ codes "offer" ∷ []) ≡ false = rw (wa, wb) refl in
    absurd (let clash : false ≡ true = sym none ∙ known in cc)))

rows-back : (terms : Terms) (before : RateFile) (number : ℕ) (rows : List Row) (after : RateFile) → Added terms (enumerate_from number rows) before after → AreApart after.ranges
    → with_rows file.Rates (with_row terms) before number rows ≡ Ok after
rows-back terms before number [] after h apart =
    let ranges = same-list (codes "rate") (λ _. SaysRange) before.ranges after.ranges h.2 in
    let offers = same-list (codes "offer") (SaysOffer terms) before.offers after.offers h.3 in
    λ i. Ok (record { terms = sym h.1 i; ranges = ranges i; offers = offers i })
rows-back terms before number ([] ∷ rows) after h apart =
    absurd (let known : IsKnown (number, []) = All-head IsKnown (number, []) (enumerate_from (number + 1) rows) h.0 in let clash : false ≡ true = known in cc)
rows-back terms before number ((w ∷ fields) ∷ rows) after h apart =
    let next = row-back terms before number w fields (enumerate_from (number + 1) rows) after h apart in
    ap (λ (answer : Result RateFile RefusalKind). answer_of_row file.Rates number answer >>= (λ more. with_rows file.Rates (with_row terms) more (number + 1) rows)) next.is
    ∙ rows-back terms next.more (number + 1) rows after next.rest apart

-- ---- the file
none-apart : AreApart []
none-apart i j d less more = absurd (omega (arith, more))

pub rates-said : (rows : List Row) (rates : RateFile) → rate_file_of rows ≡ Ok rates → IsRateFileOf rows rates
unfolding rate_file_of
rates-said [] rates e = sym (ok-is Refusal (bare_file None) rates e)
rates-said (first ∷ rows) rates e =
    let terms = bound-ok (answer_of_row file.Rates 1 (first_terms_of first)) (λ terms. with_rows file.Rates (with_row terms) (bare_file (Some terms)) 2 rows) rates e in
    let h = rows-add terms.first (bare_file (Some terms.first)) 2 rows rates terms.rest in (
      terms.first,
      terms-says first terms.first (row-ok file.Rates 1 (first_terms_of first) terms.first terms.is),
      record {
        stated = h.1;
        known = h.0;
        ranges = all-said (codes "rate") (λ _. SaysRange) (enumerate_from 2 rows) rates.ranges h.2;
        apart = h.4 none-apart;
        offers = all-said (codes "offer") (SaysOffer terms.first) (enumerate_from 2 rows) rates.offers h.3;
      },
    )

pub said-rates : (rows : List Row) (rates : RateFile) → IsRateFileOf rows rates → rate_file_of rows ≡ Ok rates
unfolding rate_file_of
said-rates [] rates says = ap (λ own. Ok own) (sym says)
said-rates (first ∷ rows) rates (terms, row, says) =
    let added : Added terms (enumerate_from 2 rows) (bare_file (Some terms)) rates = (
      says.known,
      says.stated,
      column-of (codes "rate") (λ _. SaysRange) (enumerate_from 2 rows) rates.ranges says.ranges,
      column-of (codes "offer") (SaysOffer terms) (enumerate_from 2 rows) rates.offers says.offers,
      (λ _. says.apart),
    ) in
    rw (says-terms first terms row) (rows-back terms (bare_file (Some terms)) 2 rows rates added says.apart)

-- the reader gives just the file that the rows say
pub rate_files-said : RateFilesAreSaid
rate_files-said rows rates = (rates-said rows rates, said-rates rows rates)
