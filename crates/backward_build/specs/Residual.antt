-- What is left of a need, and the fewest units of an offer that cover it.
use Rattle.std.specs.Prelude.{ℕ, ◌+◌, ◌-◌, Bool, nat_le, List, ◌∷◌, Option}
use Rattle.std.specs.List.{find, range_with_len}
use Rattle.offer_book.specs.Portfolio.{line_payments}
use Rattle.offer_book.specs.declared.line.Line.{Line}
use Rattle.backward_build.specs.Span.{paid_in}
use Rattle.backward_build.specs.declared.residual.Residual.{Residual}
use Rattle.offer_book.specs.declared.payment_days.PaymentDays.{PaymentDays}

-- the payments of so many units of a line cover a residual
abbrev pub covers : PaymentDays → Residual → Line → ℕ → Bool
covers days residual line units = nat_le residual.cents.0 (paid_in residual.span (line_payments days line units))

-- the numbers of units that may be bought of a line, in order: 0, and those from the least to the most
abbrev pub permitted_numbers : Line → List ℕ
permitted_numbers line = 0 ∷ range_with_len line.least (line.most + 1 - line.least)

-- the fewest permitted units that cover a residual, where some do
unfoldable pub fewest_of : PaymentDays → Residual → Line → Option ℕ
fewest_of days residual line = find (covers days residual line) (permitted_numbers line)
