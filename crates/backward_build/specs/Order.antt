-- In which order the lines of a plan are taken down: those whose units save most first (this project's own). The plan that comes
-- out depends on it, and that no line of it can go down alone doesn't.
use Rattle.std.specs.Prelude.{◌≡◌, ℕ, ◌*◌, ◌≤◌, Option, Some, None, List, length, map, slice_index_or, ℤ, pos, ◌-ℤ◌, ◌≤ℤ◌}
use Rattle.std.specs.List.{All, AllPairs, range_with_len, sum_by}
use Rattle.std.specs.List.Sorted.{IsPermutation}
use Rattle.escrow_units.specs.declared.security.Flow.{Flow}
use Rattle.offer_book.specs.Book.{BookContents}
use Rattle.offer_book.specs.Coefficients.{cost_coefficients, pay_coefficients}
use Rattle.offer_book.specs.declared.coefficients.PayCoefficients.{PayCoefficients}
use Rattle.offer_book.specs.declared.line.Line.{Line}
use Rattle.dual_bound.specs.LeafBound.{price_on}
use Rattle.proof_tree.specs.declared.prices.TheConstants.{PRICE_SCALE}
use Rattle.backward_build.specs.declared.order.Candidate.{Candidate}

-- a price for each need date, from 0 to 2
pub record ArePrices (needs : List Flow) (prices : List ℕ) : Type 0 where
  pub every_date : length needs ≡ length prices
  pub range : All (λ price. price ≤ 2 * PRICE_SCALE) prices

-- what a unit's payments are worth at prices, scaled; nothing where there are no prices
abbrev pub worth_of : List Flow → Option (List ℕ) → List PayCoefficients → ℕ
worth_of needs None pays = 0
worth_of needs (Some prices) pays = sum_by (λ pay. price_on needs prices pay.day * pay.high) pays

-- what a unit less of a line saves: what it costs beyond what its payments are worth
abbrev pub saving_of : BookContents → Option (List ℕ) → Line → ℤ
saving_of book prices line =
    pos (PRICE_SCALE * (cost_coefficients line).low) -ℤ pos (worth_of book.needs prices (pay_coefficients book.days line))

-- each stands with what its line saves
abbrev pub AreCandidates : BookContents → Option (List ℕ) → List Candidate → Type 0
AreCandidates book prices candidates =
    All (λ candidate. (d : Line) → candidate.saving ≡ saving_of book prices (slice_index_or book.lines candidate.line d)) candidates

-- every line once, those that save most first
pub record IsOrder (book : BookContents) (prices : Option (List ℕ)) (order : List Candidate) : Type 0 where
  pub every_line : IsPermutation (range_with_len 0 (length book.lines)) (map (λ candidate. candidate.line) order)
  pub savings : AreCandidates book prices order
  pub falling : AllPairs (λ earlier later. later.saving ≤ℤ earlier.saving) order
