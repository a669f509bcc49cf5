-- What the lines of one depth come to.
use Rattle.std.specs.Prelude.{ℕ, ◌==◌, if◌then◌else◌, List, sum_by, zip}
use Rattle.offer_book.specs.declared.line.Line.{Line}

-- the most of all lines of a depth together
abbrev pub most_at : ℕ → List ℕ → List Line → ℕ
most_at depth depths lines = sum_by (λ p. if p.0 == depth then p.1.most else 0) (zip depths lines)
