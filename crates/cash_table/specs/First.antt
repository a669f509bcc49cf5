-- The first line of a portfolio that isn't permitted, and the first need date on which it is short.
use Rattle.std.specs.Prelude.{ℕ, Bool, not, nat_lt, Option, List, map, ℤ}
use Rattle.std.specs.List.{find, position, zip}
use Rattle.day_sums.specs.Summed.{total_by}
use Rattle.offer_book.specs.Book.{BookContents}
use Rattle.offer_book.specs.Portfolio.{payments, permits}

-- the first line whose units aren't permitted
abbrev pub first_unpermitted_of : BookContents → List ℕ → Option ℕ
first_unpermitted_of book plan = position (λ p. not (permits p.0 p.1)) (zip book.lines plan)

-- the payments up to and on the day t are less than the needs up to and on it, as a test
abbrev pub is_short : BookContents → List ℕ → ℤ → Bool
is_short book plan t = nat_lt (total_by t (payments book plan)) (total_by t book.needs)

-- the first need date on which a portfolio is short
abbrev pub first_short_of : BookContents → List ℕ → Option ℤ
first_short_of book plan = find (is_short book plan) (map (λ need. need.day) book.needs)
