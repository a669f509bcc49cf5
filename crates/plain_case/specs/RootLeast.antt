-- The least of a line at the root, where nothing on offer is a bargain.
use Rattle.std.specs.Prelude.{ℕ, ◌+◌, ◌*◌, ◌/◌, ◌≤◌, List, All, length, pos, neg_ℤ, ◌≤ℤ◌}
use Rattle.offer_book.specs.Book.{BookContents, IsBook}
use Rattle.offer_book.specs.Coefficients.{pay_coefficients}
use Rattle.offer_book.specs.declared.coefficients.TheConstants.{COEFFICIENT_SCALE}
use Rattle.offer_book.specs.declared.line.Line.{Line}
use Rattle.dual_bound.specs.LeafBound.{least_within}
use Rattle.node_ranges.specs.Ranges.{whole_interval}
use Rattle.proof_tree.specs.declared.prices.TheConstants.{PRICE_SCALE}
use Rattle.backward_build.specs.PlainCase.{AreNoBargains}
use Rattle.backward_build.specs.PriceCurve.{leaf_of_prices}

-- a cent for the cost of a line and half a cent for each of its payments, scaled: by so much rounding may bring a line below nothing
abbrev pub root_rounding : BookContents → Line → ℕ
root_rounding book line = PRICE_SCALE * (COEFFICIENT_SCALE + length (pay_coefficients book.days line) * (COEFFICIENT_SCALE / 2))

-- the least that a line can add at the root is no further below nothing
abbrev pub IsLeastByRounding : ℕ → BookContents → List ℕ → Line → Type 0
IsLeastByRounding n book prices line =
    neg_ℤ (pos (root_rounding book line)) ≤ℤ least_within n book (leaf_of_prices prices) line (whole_interval line)

-- so it is with each line, at prices of at most 1 at which nothing on offer is a bargain
abbrev pub LeastsAreRounding : Type 0
LeastsAreRounding =
    (n : ℕ) (book : BookContents) (prices : List ℕ) → IsBook book → All (λ price. price ≤ PRICE_SCALE) prices → AreNoBargains book prices book.lines
    → All (IsLeastByRounding n book prices) book.lines
