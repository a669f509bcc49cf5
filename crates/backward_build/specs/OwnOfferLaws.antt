-- What the own offer of a need date is.
use Rattle.std.specs.Prelude.{◌↔◌, ℕ, IsTrue, ℤ}
use Rattle.escrow_units.specs.Flows.{EndsOn}
use Rattle.escrow_units.specs.SlgsTerms.{IsSettlement}
use Rattle.offer_book.specs.Book.{IsSecurityLine}
use Rattle.offer_book.specs.Portfolio.{line_payments}
use Rattle.offer_book.specs.declared.line.Line.{Line}
use Rattle.offer_book.specs.declared.payment_days.PaymentDays.{PaymentDays}
use Rattle.backward_build.specs.OwnOffer.{ends_on}

-- a line of securities ends on a day just where the last amount that units of it pay falls on that day
abbrev pub LinesEndByTheirPayments : Type 0
LinesEndByTheirPayments =
    (days : PaymentDays) (line : Line) (units : ℕ) (day : ℤ) → IsSettlement days.settle → IsSecurityLine days line
    → IsTrue (ends_on days day line.kind) ↔ EndsOn day (line_payments days line units)
