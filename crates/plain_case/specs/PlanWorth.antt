-- What the backward plan of a plain case costs, by what the needs are worth.
use Rattle.std.specs.Prelude.{ℕ, ◌+◌, ◌*◌, ◌≤◌}
use Rattle.std.specs.List.{sum_by}
use Rattle.offer_book.specs.Book.{BookContents, IsBook}
use Rattle.offer_book.specs.Portfolio.{cost}
use Rattle.offer_book.specs.declared.coefficients.TheConstants.{COEFFICIENT_SCALE}
use Rattle.dual_bound.specs.LeafBound.{priced_needs}
use Rattle.proof_tree.specs.declared.prices.TheConstants.{PRICE_SCALE}
use Rattle.backward_build.specs.OwnOffer.{own_offer_of}
use Rattle.backward_build.specs.PlainCase.{IsPlain, least_and_step}
use Rattle.plain_case.specs.OwnOfferWorth.{own_rounding}

-- the least purchase and one step of the own offer of each need date, together, in cents
abbrev pub leasts_and_steps : BookContents → ℕ
leasts_and_steps book = sum_by (λ need. least_and_step book.lines (own_offer_of book need.day)) book.needs

-- the plan of a plain case costs no more than what the needs are worth at the bootstrapped prices, but for the least purchases, one
-- step for each need date and the rounding of each line
abbrev pub PlansAreWorthIt : Type 0
PlansAreWorthIt =
    (limit : ℕ) (book : BookContents) → IsBook book → (plain : IsPlain limit book)
    → COEFFICIENT_SCALE * PRICE_SCALE * cost book plain.plan
    ≤ COEFFICIENT_SCALE * priced_needs book.needs plain.prices + COEFFICIENT_SCALE * PRICE_SCALE * (leasts_and_steps book + sum_by (own_rounding book) book.lines)
