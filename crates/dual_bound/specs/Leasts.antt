-- Leasts: what each line of a book adds at least, kept from leaf to leaf until a price changes that counts for the line.
use Rattle.std.specs.Prelude.{◌≡◌, ◌⊎◌, ℕ, ◌*◌, ◌^◌, ◌<◌, ◌≤◌, List, All, length, slice_index, slice_index_or, ℤ, unsigned_abs}
use Rattle.std.specs.List.{AllZip}
use Rattle.offer_book.specs.Book.{BookContents}
use Rattle.offer_book.specs.declared.line.Line.{Line}
use Rattle.dual_bound.specs.LeafBound.{least_by}
use Rattle.dual_bound.specs.declared.column.Column.{Column}
use Rattle.dual_bound.specs.declared.column.OtherPayment.{OtherPayment}
use Rattle.dual_bound.specs.declared.leasts.Least.{Least}
use Rattle.dual_bound.specs.declared.leasts.Leasts.{Leasts}
use Rattle.dual_bound.specs.declared.leasts.Span.{Span}
use Rattle.dual_bound.specs.declared.leasts.TheConstants.{PAST_DATES}
use Rattle.proof_tree.specs.declared.interval.Interval.{Interval}
use Rattle.proof_tree.specs.declared.tree.Leaf.{Leaf}
use Rattle.dual_bound.specs.declared.worth.PricedDay.{PricedDay}

-- a need date lies inside of a span
abbrev pub IsInside : Span → ℕ → Type 0
IsInside span date = (span.first ≤ date) × (date ≤ span.last)

-- a span ends before another, or starts behind it
abbrev pub AreApart : Span → Span → Type 0
AreApart span other = (span.last < other.first) ⊎ (other.last < span.first)

-- a span holds the need dates that price a column's payments
abbrev pub IsPricedInside : List PricedDay → Span → ℕ → Type 0
IsPricedInside days span place = (d : PricedDay) → IsInside span (slice_index_or days place d).need

pub record IsSpanOf (days : List PricedDay) (column : Column) (span : Span) : Type 0 where
  pub places : All (IsPricedInside days span) column.places.items
  pub others : All (λ (other : OtherPayment). IsPricedInside days span other.place) column.others.items

-- leaves price alike what is paid within a span
pub record AgreeInside (span : Span) (old new : Leaf) : Type 0 where
  pub cost : old.rho ≡ new.rho
  pub limit : old.mu ≡ new.mu
  pub prices : (date : ℕ) → IsInside span date → slice_index old.prices date ≡ slice_index new.prices date

-- a span holds what prices a line: leaves that agree within it give the line the same, whatever load its units are credited
abbrev pub IsPricedBy : ℕ → BookContents → Line → Span → Type 0
IsPricedBy n book line span =
    (old new : Leaf) → length old.prices ≡ length book.needs → length new.prices ≡ length book.needs → AgreeInside span old new
    → (own_load : ℤ) (interval : Interval) → least_by n book old line own_load interval ≡ least_by n book new line own_load interval

-- what a line was found to add at least by a load is what it adds
abbrev pub IsRight : ℕ → BookContents → Leaf → Line → Least → Type 0
IsRight n book leaf line own = own.least ≡ least_by n book leaf line own.unit_load own.interval

-- it is unless a price of its span has changed
pub record IsLeast (n : ℕ) (book : BookContents) (leaf : Leaf) (changed : Span) (line : Line) (own : Least) : Type 0 where
  pub start : own.span.first ≤ PAST_DATES
  pub load : unsigned_abs own.unit_load ≤ 64 * 10 ^ 29
  pub priced : IsPricedBy n book line own.span
  pub right : AreApart own.span changed → IsRight n book leaf line own

abbrev pub AreLeasts : ℕ → BookContents → Leaf → Leasts → Type 0
AreLeasts n book leaf leasts = AllZip (IsLeast n book leaf leasts.changed) book.lines leasts.lines.items
