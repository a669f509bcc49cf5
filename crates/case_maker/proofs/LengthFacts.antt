-- How long the files of a made-up case are.
use Rattle.std.proofs.Common.{◌≡◌, ℕ, zero, suc, ◌+◌, ◌*◌, ◌/◌, ◌%◌, ◌^◌, ◌<◌, ◌≤◌, List, [], ◌∷◌, ◌++◌, length, ap, arith, codes, length-append, decimal, unsigned_abs}
use Rattle.std.proofs.lemmas.Grind.{flat_map-append}
use Rattle.escrow_units.specs.Calendar.{CivilDate}
use Rattle.escrow_units.specs.DateText.{date_text}
use Rattle.escrow_units.specs.Digits.{fixed, last_digits}
use Rattle.escrow_units.proofs.DigitFacts.{length-last, length-long}
use Rattle.case_maker.specs.Files.{date, greatest_offer_row, greatest_rate, issue_text, lower_offer_row, lower_rate, need, need_row, note_row, prices_text, rates_text, rows_up_to, text_of, thirty_seconds}
use Rattle.case_maker.specs.Made.{KeepsToLimit}
use Rattle.case_maker.specs.declared.files.Made.{Made}
use Rattle.case_maker.proofs.RowFacts.{issue_text-parts, prices_text-parts, rates_text-parts, rows_up_to-more, rows_up_to-none}

length-fixed : (n : ℕ) → n < 2 ^ 64 → length (fixed 2 n) ≤ 23
length-fixed n low =
    omega (arith, length-append (decimal (n / 100)) (46 ∷ last_digits 2 (n % 100)), length-last 2 (n % 100), length-long (n / 100) (omega arith))

length-date : (day : CivilDate) → length (date_text day) ≡ 10
length-date day =
    omega (
      arith,
      length-append (last_digits 4 (unsigned_abs day.year)) (45 ∷ (last_digits 2 day.month ++ 45 ∷ last_digits 2 day.day)),
      length-append (last_digits 2 day.month) (45 ∷ last_digits 2 day.day),
      length-last 4 (unsigned_abs day.year),
      length-last 2 day.month,
      length-last 2 day.day,
    )

-- rows of at most so many bytes
length-rows : (row : ℕ → List ℕ) (most : ℕ) → ((k : ℕ) → length (row k) ≤ most) → (count : ℕ) → length (text_of (rows_up_to count row)) ≤ count * (most + 1)
length-rows row most short zero = rw (rows_up_to-none row) (omega arith)
length-rows row most short (suc count) =
    let whole = ap (λ rows. length (text_of rows)) (rows_up_to-more row count (suc count) (omega arith)) in
    let parts = ap length (flat_map-append (λ line. line ++ 10 ∷ []) (rows_up_to count row) (row (suc count) ∷ [])) in
    omega (
      arith,
      whole,
      parts,
      length-append (text_of (rows_up_to count row)) (row (suc count) ++ 10 ∷ [] ++ []),
      length-append (row (suc count) ++ 10 ∷ []) [],
      length-append (row (suc count)) (10 ∷ []),
      short (suc count),
      length-rows row most short count,
    )

need_short : (number k : ℕ) → length (need_row k (need number k)) ≤ 64
unfolding need_row need
need_short number k =
    omega (
      arith,
      length-append (date_text (date k)) (44 ∷ fixed 2 (need number k) ++ []),
      length-append (fixed 2 (need number k)) [],
      length-date (date k),
      length-fixed (need number k) (omega arith),
    )

greatest_short : (k : ℕ) → length (greatest_offer_row k) ≤ 64
unfolding greatest_offer_row
greatest_short k = omega (arith, length-append (date_text (date k)) (codes ",max,,100000000"), length-date (date k))

lower_short : (number k : ℕ) → length (lower_offer_row k (lower_rate number k)) ≤ 64
unfolding lower_offer_row lower_rate
lower_short number k =
    omega (
      arith,
      length-append (date_text (date k)) (44 ∷ fixed 2 (lower_rate number k) ++ codes ",,100000000"),
      length-append (fixed 2 (lower_rate number k)) (codes ",,100000000"),
      length-date (date k),
      length-fixed (lower_rate number k) (omega arith),
    )

note_short : (number j : ℕ) → length (note_row j (greatest_rate number) (thirty_seconds number j)) ≤ 64
unfolding note_row
note_short number j =
    omega (
      arith,
      length-append (date_text (date (2 * j))) (44 ∷ fixed 2 (greatest_rate number) ++ (codes ",102-" ++ last_digits 2 (thirty_seconds number j) ++ codes ",100000000")),
      length-append (fixed 2 (greatest_rate number)) (codes ",102-" ++ last_digits 2 (thirty_seconds number j) ++ codes ",100000000"),
      length-append (last_digits 2 (thirty_seconds number j)) (codes ",100000000"),
      length-date (date (2 * j)),
      length-fixed (greatest_rate number) (omega arith),
      length-last 2 (thirty_seconds number j),
    )

length-issue_text : (number : ℕ) → length (issue_text number) ≤ 10_000
length-issue_text number =
    let needs = text_of (rows_up_to 40 (λ k. need_row k (need number k))) in
    omega (
      arith,
      ap length (issue_text-parts number),
      length-append needs (codes "restricted,6.00\nallowance,50000.00\nbudget,1000\n"),
      length-rows (λ k. need_row k (need number k)) 64 (need_short number) 40,
    )

length-rates_text : (number : ℕ) → length (rates_text number) ≤ 10_000
length-rates_text number =
    let greatest = text_of (rows_up_to 40 greatest_offer_row) in
    let lower = text_of (rows_up_to 40 (λ k. lower_offer_row k (lower_rate number k))) in
    omega (
      arith,
      ap length (rates_text-parts number),
      length-append (fixed 2 (greatest_rate number) ++ 10 ∷ [] ++ greatest) lower,
      length-append (fixed 2 (greatest_rate number) ++ 10 ∷ []) greatest,
      length-append (fixed 2 (greatest_rate number)) (10 ∷ []),
      length-fixed (greatest_rate number) (omega arith),
      length-rows greatest_offer_row 64 greatest_short 40,
      length-rows (λ k. lower_offer_row k (lower_rate number k)) 64 (lower_short number) 40,
    )

length-prices_text : (number : ℕ) → length (prices_text number) ≤ 10_000
length-prices_text number =
    omega (arith, ap length (prices_text-parts number), length-rows (λ j. note_row j (greatest_rate number) (thirty_seconds number j)) 64 (note_short number) 12)

pub keeps_to_limit : (number : ℕ) (made : Made) → made.issue.items ≡ issue_text number → made.rates.items ≡ rates_text number → made.prices.items ≡ prices_text number
    → KeepsToLimit made
keeps_to_limit number made issue rates prices = record {
  issue = omega (arith, ap length issue, length-issue_text number);
  rates = omega (arith, ap length rates, length-rates_text number);
  prices = omega (arith, ap length prices, length-prices_text number);
}
