-- The steps, the least purchase and the greatest of a line, by the denominations of its file and the cap of its row.
use Rattle.std.specs.Prelude.{◌≡◌, ℕ, ◌+◌, ◌*◌, ◌/◌, ◌<◌, ◌≤◌}
use Rattle.escrow_units.specs.declared.security.Terms.{Terms}
use Rattle.offer_book.specs.declared.line.Line.{Line}
use Rattle.offer_book.specs.declared.line.LineKind.{LineKind}

-- the line of what is bought, with a cap: denominations and cap are in dollars, and a step of the line in cents
abbrev pub line_of : Terms → LineKind → ℕ → Line
line_of terms bought cap = record {
  kind = bought;
  step = 100 * terms.step;
  least = terms.minimum / terms.step;
  most = cap / terms.step;
}

-- the step and the least purchase of a line are the file's denominations, and its most is the greatest number of steps
-- within the cap (this project's own). Amounts in dollars are on the right
pub record IsDenominated (terms : Terms) (cap : ℕ) (line : Line) : Type 0 where
  pub step : line.step ≡ 100 * terms.step
  pub least : line.least * terms.step ≡ terms.minimum
  pub most : line.most * terms.step ≤ cap
  pub greatest : cap < (line.most + 1) * terms.step
