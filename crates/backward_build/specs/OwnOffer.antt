-- The own offer of a need date: the first line on offer whose last payment falls on that date. It is this project's own, after the
-- cash-flow matching of the textbooks on bonds.
use Rattle.std.specs.Prelude.{ℕ, Bool, false, List, Option, slice_index_or, ℤ, pos}
use Rattle.std.specs.List.{position}
use Rattle.std.specs.Ordering.{int_eq}
use Rattle.escrow_units.specs.OpenDays.{open_day}
use Rattle.escrow_units.specs.declared.security.Flow.{Flow}
use Rattle.offer_book.specs.Book.{BookContents}
use Rattle.offer_book.specs.CaseBook.{cash_line}
use Rattle.offer_book.specs.declared.line.Line.{Line}
use Rattle.offer_book.specs.declared.line.LineKind.{LineKind}
use Rattle.offer_book.specs.declared.line.LineKind.TheVariants.{Cash, Market, Security}
use Rattle.offer_book.specs.declared.payment_days.PaymentDays.{PaymentDays}

-- the last payment of what is bought falls on a day: its maturity opens on it. Opening cash never ends
abbrev pub ends_on : PaymentDays → ℤ → LineKind → Bool
ends_on days day Cash = false
ends_on days day (Security slgs) = int_eq (open_day days.closed slgs.maturity) day
ends_on days day (Market note) = int_eq (open_day days.closed note.maturity) day

-- the own offer of a day, by its number among the lines, where there is one
abbrev pub own_offer_of : BookContents → ℤ → Option ℕ
own_offer_of book day = position (λ line. ends_on book.days day line.kind) book.lines

-- the need at a place, and the line of a number, both counted from 0. What is read past the end means nothing
abbrev pub need_at : List Flow → ℕ → Flow
need_at needs place = slice_index_or needs place (record { day = pos 0; cents = record { 0 = 0 } })

-- the line of a number, from 0. What is read past the end means nothing
abbrev pub line_at : List Line → ℕ → Line
line_at lines number = slice_index_or lines number (cash_line 0)
