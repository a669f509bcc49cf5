-- The lines that pay for each need date. This project's own.
use Rattle.std.specs.Prelude.{◌≡◌, ℕ, ◌<◌, ◌≤◌, ℤ, List, All, AllPairs, length, slice_index_or}
use Rattle.std.specs.List.{Contains}
use Rattle.escrow_units.specs.declared.security.Flow.{Flow}
use Rattle.offer_book.specs.Book.{BookContents}
use Rattle.offer_book.specs.Schedule.{schedule_of}
use Rattle.offer_book.specs.declared.line.Line.{Line}
use Rattle.dual_bound.specs.LeafBound.{price_on}
use Rattle.dual_tune.specs.declared.payers.Payers.{Payers}
use Rattle.offer_book.specs.declared.payment_days.PaymentDays.{PaymentDays}

-- a day's price is that of the need at a place, whatever the prices are; behind the last need, nothing
abbrev pub Serves : List Flow → ℤ → ℕ → Type 0
Serves needs day place = (prices : List ℕ) → length prices ≡ length needs → slice_index_or prices place 0 ≡ price_on needs prices day

-- a day's price is that of another place
abbrev pub IsElsewhere : List Flow → ℕ → ℤ → Type 0
IsElsewhere needs place day = (other : ℕ) × ¬ (other ≡ place) × Serves needs day other

-- a line pays nothing for the need at a place
abbrev pub IsAside : PaymentDays → List Flow → ℕ → Line → Type 0
IsAside days needs place line = All (λ payment. IsElsewhere needs place payment.day) (schedule_of days line)

-- numbers rise, up to one at most
pub record IsRisingTo (most : ℕ) (numbers : List ℕ) : Type 0 where
  pub rising : AllPairs (λ earlier later. earlier < later) numbers
  pub within : All (λ number. number ≤ most) numbers

-- of the first so many lines of a book, those that pay for the need at a place, each once and in order; the others pay nothing for it
pub record ArePayers (book : BookContents) (count place : ℕ) (lines : List ℕ) : Type 0 where
  pub rising : AllPairs (λ earlier later. earlier < later) lines
  pub there : All (λ line. line < count) lines
  pub others : (line : ℕ) (d : Line) → line < count → ¬ Contains lines line → IsAside book.days book.needs place (slice_index_or book.lines line d)

-- so it is for each need date
pub record ArePayersByDate (book : BookContents) (count : ℕ) (by_date : List Payers) : Type 0 where
  pub every_date : length by_date ≡ length book.needs
  pub payers : (place : ℕ) (e : Payers) → place < length book.needs → ArePayers book count place (slice_index_or by_date place e).lines.items
