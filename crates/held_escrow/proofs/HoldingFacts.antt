-- What the holdings of a file keep.
use Rattle.std.proofs.Common.{◌≡◌, ◌∙◌, append_assoc, ◌≤◌, ℕ, ◌+◌, nat_lt, refl, sym, ap, subst, arith, Bool, true, false, if◌then◌else◌, List, [], ◌∷◌, ◌++◌, length, ℤ, ◌≤ℤ◌, Result, Ok, Err}
use Rattle.std.specs.Prelude.{◌==◌, codes, int_lt}
use Rattle.std.specs.List.{AllZip}
use Rattle.std.proofs.lemmas.Bool.{le-ltb}
use Rattle.std.proofs.lemmas.List.{append-nil}
use Rattle.std.proofs.lemmas.Bool.Decides.{nat_tests}
use Rattle.std.proofs.lemmas.Int.{ints}
use Rattle.std.proofs.lemmas.List.Elements.{All-nil, All-push}
use Rattle.escrow_desk.specs.declared.refusal.FileKind.TheVariants as file
use Rattle.escrow_desk.specs.declared.refusal.Refusal.{Refusal}
use Rattle.escrow_desk.specs.declared.refusal.RefusalKind.{RefusalKind}
use Rattle.escrow_desk.specs.declared.refusal.RefusalKind.TheVariants as kind
use Rattle.escrow_units.specs.Calendar.{years_after_of}
use Rattle.escrow_units.specs.Flows.{FallWithinFortyYears, total}
use Rattle.escrow_units.specs.NumberText.{cents_of}
use Rattle.escrow_units.specs.declared.limits.TheConstants.{AMOUNT_LIMIT}
use Rattle.escrow_units.specs.declared.security.Flow.{Flow}
use Rattle.day_sums.specs.Summed.{summed}
use Rattle.day_sums.proofs.SumFacts.{above-summed, pairs-from_rising, rising-summed}
use Rattle.day_sums.proofs.Uniqueness.{are-sums, fall-within, keep-total, unique}
use Rattle.day_sums.specs.SummedLaws.{AreSums}
use Rattle.row_fields.specs.RowForm.{Row, ◌>>=◌, answer_of_row, day_by_of, day_field_of, field_of, is_word, or_refused}
use Rattle.issue_schedule.specs.IssueForm.{flow_row_of}
use Rattle.offer_book.proofs.OfferFacts.{bound-ok}
use Rattle.held_escrow.specs.HeldForm.{FilesHoldTheirRows, held_of, held_row_of, holdings_of, on_or_after, receipts_of, with_held_rows, with_row}
use Rattle.held_escrow.specs.Holdings.{AreHoldings, FilesGiveHoldings}

-- the holdings of receipts that keep to the limit
pub are-holdings : (settle : ℤ) (receipts : List Flow) → FallWithinFortyYears settle receipts → total receipts ≤ AMOUNT_LIMIT → AreHoldings settle (summed receipts)
are-holdings settle receipts within small = record {
  rising = pairs-from_rising (summed receipts) (rising-summed receipts);
  within = fall-within settle (years_after_of settle 40) receipts within;
  positive = above-summed receipts;
  small = subst (λ (n : ℕ). n ≤ AMOUNT_LIMIT) (sym (keep-total receipts)) small;
}

-- what a test lets through
test-ok : {T E : Type 0} (test : Bool) (answer : Result T E) (refusal : E) (value : T) → (if test then answer else Err refusal) ≡ Ok value → answer ≡ Ok value
test-ok true answer refusal value e = e
test-ok false answer refusal value e = absurd (cc)

test-not : {T E : Type 0} (test : Bool) (answer : Result T E) (refusal : E) (value : T) → (if test then Err refusal else answer) ≡ Ok value → (test ≡ false) × (answer ≡ Ok value)
test-not true answer refusal value e = absurd (cc)
test-not false answer refusal value e = (refl, e)

row-ok : {T : Type 0} (number : ℕ) (answer : Result T RefusalKind) (value : T) → answer_of_row file.Held number answer ≡ Ok value → answer ≡ Ok value
row-ok number (Ok own) value e = let same : own ≡ value = cc in ap (λ v. Ok v) same
row-ok number (Err own) value e = absurd (cc)

-- what a row of a file gives falls from settlement to a last day
record FallsFrom (settle last day : ℤ) : Type 0 where
  from : settle ≤ℤ day
  to : day ≤ℤ last

not_before : (a b : ℤ) → int_lt a b ≡ false → b ≤ℤ a
not_before a b h = grind (arith, ints)

day-by : (last : ℤ) (bytes : List ℕ) (day : ℤ) → day_by_of last bytes ≡ Ok day → day ≤ℤ last
day-by last bytes day e =
    let read = bound-ok (day_field_of bytes) (λ own. if int_lt last own then Err kind.OutOfRange else Ok own) day e in
    let tested = test-not (int_lt last read.first) (Ok read.first) kind.OutOfRange day read.rest in
    let same : read.first ≡ day = cc (tested.1) in
    not_before last day (subst (λ (z : ℤ). int_lt last z ≡ false) same tested.0)

flow-by : (last : ℤ) (row : Row) (flow : Flow) → flow_row_of last row ≡ Ok flow → flow.day ≤ℤ last
flow-by last row flow e =
    let wide = test-ok (length row == 3)
    (day_by_of last (field_of row 1) >>= (λ day. or_refused (cents_of (field_of row 2)) >>= (λ cents. Ok (record { day = day; cents = cents })))) kind.WrongFields flow e in
    let day = bound-ok (day_by_of last (field_of row 1)) (λ day. or_refused (cents_of (field_of row 2)) >>= (λ cents. Ok (record { day = day; cents = cents }))) flow wide in
    let cents = bound-ok (or_refused (cents_of (field_of row 2))) (λ cents. Ok (record { day = day.first; cents = cents })) flow day.rest in
    let made : record { day = day.first; cents = cents.first } ≡ flow = cc (cents.rest) in
    subst (λ (f : Flow). f.day ≤ℤ last) made (day-by last (field_of row 1) day.first day.is)

receipt-falls : (settle : ℤ) (row : Row) (flow : Flow) → held_row_of settle row ≡ Ok flow → FallsFrom settle (years_after_of settle 40) flow.day
receipt-falls settle row flow e =
    let named = test-ok (is_word (codes "held") (field_of row 0)) (flow_row_of (years_after_of settle 40) row >>= on_or_after settle) kind.UnknownRow flow e in
    let read = bound-ok (flow_row_of (years_after_of settle 40) row) (on_or_after settle) flow named in
    let tested = test-not (int_lt read.first.day settle) (Ok read.first) kind.DateOrder flow read.rest in
    let same : read.first ≡ flow = cc (tested.1) in
    subst (λ (f : Flow). FallsFrom settle (years_after_of settle 40) f.day) same
    (record { from = not_before read.first.day settle tested.0; to = flow-by (years_after_of settle 40) row read.first read.is })

row-within : (settle : ℤ) (before : List Flow) (row : Row) (after : List Flow) → FallWithinFortyYears settle before → with_row settle before row ≡ Ok after → FallWithinFortyYears settle after
row-within settle before row after within e =
    let read = bound-ok (held_row_of settle row) (λ receipt. Ok (before ++ receipt ∷ [])) after e in
    let falls = receipt-falls settle row read.first read.is in
    let same : before ++ read.first ∷ [] ≡ after = cc (read.rest) in
    subst (FallWithinFortyYears settle) same
    (All-push (λ (f : Flow). (settle ≤ℤ f.day) × (f.day ≤ℤ years_after_of settle 40)) before read.first within (falls.from, falls.to))

rows-within : (settle : ℤ) (before : List Flow) (number : ℕ) (rows : List Row) (after : List Flow) → FallWithinFortyYears settle before
    → with_held_rows settle before number rows ≡ Ok after → FallWithinFortyYears settle after
rows-within settle before number [] after within e = let same : before ≡ after = cc in subst (FallWithinFortyYears settle) same within
rows-within settle before number (row ∷ rows) after within e =
    let one = bound-ok (answer_of_row file.Held number (with_row settle before row)) (λ more. with_held_rows settle more (number + 1) rows) after e in
    let read = row-ok number (with_row settle before row) one.first one.is in
    rows-within settle one.first (number + 1) rows after (row-within settle before row one.first within read) one.rest

within-limit : (a b : ℕ) → nat_lt a b ≡ false → b ≤ a
within-limit a b h = grind (arith, nat_tests)

pub files-give : FilesGiveHoldings
unfolding held_of
files-give settle rows held settlement e =
    let read = bound-ok (receipts_of settle rows) (λ receipts. answer_of_row file.Held 0 (holdings_of receipts)) held e in
    let limited = row-ok 0 (holdings_of read.first) held read.rest in
    let tested = test-not (nat_lt AMOUNT_LIMIT (total read.first)) (Ok (summed read.first)) kind.HeldTooLarge held limited in
    let same : summed read.first ≡ held = cc (tested.1) in
    let within = rows-within settle [] 1 rows read.first (All-nil (λ (f : Flow). (settle ≤ℤ f.day) × (f.day ≤ℤ years_after_of settle 40))) read.is in
    subst (AreHoldings settle) same (are-holdings settle read.first within (within-limit AMOUNT_LIMIT (total read.first) tested.0))

-- ---- the rows of a file, one by one
record Said (settle : ℤ) (rows : List Row) (before after : List Flow) : Type 0 where
  more : List Flow
  said : AllZip (λ row receipt. held_row_of settle row ≡ Ok receipt) rows more
  all : after ≡ before ++ more

rows-said : (settle : ℤ) (before : List Flow) (number : ℕ) (rows : List Row) (after : List Flow) → with_held_rows settle before number rows ≡ Ok after → Said settle rows before after
rows-said settle before number [] after e = let same : before ≡ after = cc in record { more = []; said = tt; all = sym same ∙ sym (append-nil before) }
rows-said settle before number (row ∷ rows) after e =
    let one = bound-ok (answer_of_row file.Held number (with_row settle before row)) (λ more. with_held_rows settle more (number + 1) rows) after e in
    let read = row-ok number (with_row settle before row) one.first one.is in
    let receipt = bound-ok (held_row_of settle row) (λ receipt. Ok (before ++ receipt ∷ [])) one.first read in
    let same : before ++ receipt.first ∷ [] ≡ one.first = cc (receipt.rest) in
    let rest = rows-said settle one.first (number + 1) rows after one.rest in
    record {
      more = receipt.first ∷ rest.more;
      said = (receipt.is, rest.said);
      all = rest.all ∙ ap (λ (l : List Flow). l ++ rest.more) (sym same) ∙ append_assoc before (receipt.first ∷ []) rest.more;
    }

said-rows : (settle : ℤ) (before : List Flow) (number : ℕ) (rows : List Row) (more : List Flow) → AllZip (λ row receipt. held_row_of settle row ≡ Ok receipt) rows more
    → with_held_rows settle before number rows ≡ Ok (before ++ more)
said-rows settle before number [] [] said = ap (λ (l : List Flow). Ok l) (sym (append-nil before))
said-rows settle before number [] (receipt ∷ more) said = absurd said
said-rows settle before number (row ∷ rows) [] said = absurd said
said-rows settle before number (row ∷ rows) (receipt ∷ more) said =
    ap
    (λ (answer : Result Flow RefusalKind). answer_of_row file.Held number (answer >>= (λ own. Ok (before ++ own ∷ []))) >>= (λ read. with_held_rows settle read (number + 1) rows))
    said.0
    ∙ said-rows settle (before ++ receipt ∷ []) (number + 1) rows more said.1
    ∙ ap (λ (l : List Flow). Ok l) (append_assoc before (receipt ∷ []) more)

pub files-hold : FilesHoldTheirRows
unfolding held_of
files-hold settle rows held = (
  (λ e.
      let read = bound-ok (receipts_of settle rows) (λ receipts. answer_of_row file.Held 0 (holdings_of receipts)) held e in
      let limited = row-ok 0 (holdings_of read.first) held read.rest in
      let tested = test-not (nat_lt AMOUNT_LIMIT (total read.first)) (Ok (summed read.first)) kind.HeldTooLarge held limited in
      let same : summed read.first ≡ held = cc (tested.1) in
      let said = rows-said settle [] 1 rows read.first read.is in
      record {
        receipts = read.first;
        said = subst (AllZip (λ row receipt. held_row_of settle row ≡ Ok receipt) rows) (sym said.all) said.said;
        small = within-limit AMOUNT_LIMIT (total read.first) tested.0;
        sums = subst (AreSums read.first) same (are-sums read.first);
      }),
  (λ by.
      let read : receipts_of settle rows ≡ Ok by.receipts = said-rows settle [] 1 rows by.receipts by.said in
      let limited : holdings_of by.receipts ≡ Ok (summed by.receipts) =
      ap (λ (b : Bool). if b then Err kind.HeldTooLarge else Ok (summed by.receipts)) (le-ltb AMOUNT_LIMIT (total by.receipts) by.small) in
      ap (λ (answer : Result (List Flow) Refusal). answer >>= (λ receipts. answer_of_row file.Held 0 (holdings_of receipts))) read
      ∙ ap (answer_of_row file.Held 0) limited ∙ ap (λ (l : List Flow). Ok l) (sym (unique by.receipts held by.sums))),
)
