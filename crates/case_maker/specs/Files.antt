-- The three files of a made-up case, line by line. Their form is that of the program's input files; what stands in them is this
-- project's own.
use Rattle.std.specs.Prelude.{ℕ, ◌+◌, ◌-◌, ◌*◌, List, [], ◌∷◌, ◌++◌, map, codes, pos}
use Rattle.std.specs.List.{flat_map, range_with_len}
use Rattle.escrow_units.specs.Calendar.{CivilDate, months_later}
use Rattle.escrow_units.specs.DateText.{date_text}
use Rattle.escrow_units.specs.Digits.{fixed, last_digits}
use Rattle.case_maker.specs.Draws.{draw}

-- settlement
abbrev pub settlement : CivilDate
settlement = record { year = pos 2026; month = 1; day = 15 }

-- the dates of a case, of which the last is 2046-01-15: date k is 6 * k months after settlement
unfoldable pub date : ℕ → CivilDate
date k = months_later settlement (pos (6 * k))

-- the greatest rate of each day, in hundredths of a percentage point: draw 1
abbrev pub greatest_rate : ℕ → ℕ
greatest_rate number = 200 + draw number 1 300

-- the need of date k, in cents: draws 2 to 41
unfoldable pub need : ℕ → ℕ → ℕ
need number k = 100_000_000 + draw number (k + 1) 25_000_000

-- the lower rate that is offered for date k, in hundredths of a percentage point: draws 42 to 81
unfoldable pub lower_rate : ℕ → ℕ → ℕ
lower_rate number k = greatest_rate number - 1 - draw number (k + 41) 50

-- the thirty-seconds of the price of note j, which matures on date 2 * j: draws 82 to 93
unfoldable pub thirty_seconds : ℕ → ℕ → ℕ
thirty_seconds number j = draw number (j + 81) 32

-- a row: its first word, and fields with a comma before each
abbrev pub row : List ℕ → List (List ℕ) → List ℕ
row word fields = word ++ flat_map (λ field. 44 ∷ field) fields

-- a need of cents on date k
unfoldable pub need_row : ℕ → ℕ → List ℕ
need_row k cents = row (codes "need") (date_text (date k) ∷ fixed 2 cents ∷ [])

-- an offer for date k, at a rate: the greatest one, or one in hundredths of a percentage point
abbrev pub offer_row : ℕ → List ℕ → List ℕ
offer_row k rate = row (codes "offer") (date_text (date k) ∷ rate ∷ [] ∷ codes "100000000" ∷ [])

-- an offer for date k at the table's greatest rate
unfoldable pub greatest_offer_row : ℕ → List ℕ
greatest_offer_row k = offer_row k (codes "max")

-- an offer for date k at a rate in hundredths of a percentage point
unfoldable pub lower_offer_row : ℕ → ℕ → List ℕ
lower_offer_row k rate = offer_row k (fixed 2 rate)

-- note j, of a coupon in hundredths of a percentage point, at a price of 102 percent and thirty-seconds
unfoldable pub note_row : ℕ → ℕ → ℕ → List ℕ
note_row j coupon thirty_seconds =
    row (codes "note") (date_text (date (2 * j)) ∷ fixed 2 coupon ∷ (codes "102-" ++ last_digits 2 thirty_seconds) ∷ codes "100000000" ∷ [])

-- a row for each of the numbers from 1 to count
unfoldable pub rows_up_to : ℕ → (ℕ → List ℕ) → List (List ℕ)
rows_up_to count row_of = map row_of (range_with_len 1 count)

-- the text of rows: each is a line
abbrev pub text_of : List (List ℕ) → List ℕ
text_of rows = flat_map (λ line. line ++ 10 ∷ []) rows

-- the issue file
abbrev pub issue_rows : ℕ → List (List ℕ)
issue_rows number =
    codes "settle,2026-01-15"
    ∷ rows_up_to 40 (λ k. need_row k (need number k))
    ++ codes "restricted,6.00" ∷ codes "allowance,50000.00" ∷ codes "budget,1000" ∷ []

-- the rate file
abbrev pub rates_rows : ℕ → List (List ℕ)
rates_rows number =
    codes "terms,1000,1"
    ∷ row (codes "rate,2026-02-14,2046-01-15") (fixed 2 (greatest_rate number) ∷ [])
    ∷ rows_up_to 40 greatest_offer_row
    ++ rows_up_to 40 (λ k. lower_offer_row k (lower_rate number k))

-- the price file
abbrev pub prices_rows : ℕ → List (List ℕ)
prices_rows number =
    codes "terms,1000,1000"
    ∷ rows_up_to 12 (λ j. note_row j (greatest_rate number) (thirty_seconds number j))

-- and their texts
unfoldable pub issue_text : ℕ → List ℕ
issue_text number = text_of (issue_rows number)

-- the text of the rate file
unfoldable pub rates_text : ℕ → List ℕ
rates_text number = text_of (rates_rows number)

-- the text of the price file
unfoldable pub prices_text : ℕ → List ℕ
prices_text number = text_of (prices_rows number)
