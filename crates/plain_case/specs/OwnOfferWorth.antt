-- What the own offer of a need date costs and pays in a plain case, at the bootstrapped prices.
use Rattle.std.specs.Prelude.{ℕ, ◌+◌, ◌*◌, ◌<◌, ◌≤◌, List, length, slice_index}
use Rattle.std.specs.List.{sum_by}
use Rattle.escrow_units.specs.declared.security.Flow.{Flow}
use Rattle.offer_book.specs.Book.{BookContents, IsBook}
use Rattle.offer_book.specs.Coefficients.{pay_coefficients}
use Rattle.offer_book.specs.Portfolio.{line_cost, line_payments, payments}
use Rattle.offer_book.specs.declared.coefficients.TheConstants.{COEFFICIENT_SCALE}
use Rattle.offer_book.specs.declared.line.Line.{Line}
use Rattle.dual_bound.specs.LeafBound.{price_on}
use Rattle.proof_tree.specs.declared.prices.TheConstants.{PRICE_SCALE}
use Rattle.backward_build.specs.OwnOffer.{line_at, need_at}
use Rattle.backward_build.specs.PlainCase.{IsPlain}
use Rattle.backward_build.specs.PlanLaws.{IsOwnOfferAt}
use Rattle.backward_build.specs.Span.{paid_in, span_of}

-- what payments are worth at the prices of the need dates
abbrev pub worth_paid : BookContents → List ℕ → List Flow → ℕ
worth_paid book prices flows = sum_by (λ flow. price_on book.needs prices flow.day * flow.cents.0) flows

-- four cents for the cost of a line and its share of the price, and two for each payment
abbrev pub own_rounding : BookContents → Line → ℕ
own_rounding book line = 4 + 2 * length (pay_coefficients book.days line)

-- what a line costs at the least purchase and at one step, and its rounding, in cents
abbrev pub least_step_and_rounding : BookContents → Line → ℕ
least_step_and_rounding book line = line_cost line line.least + line_cost line 1 + own_rounding book line

-- units of an own offer, where so much is received in the span of its date: what they cost, and what is received at its price, is no
-- more than what their payments are worth, and the need at its price, but for the least purchase, one step and rounding
abbrev pub IsWorthIt : BookContents → List ℕ → ℕ → Line → ℕ → ℕ → Type 0
IsWorthIt book prices place line units received =
    COEFFICIENT_SCALE * PRICE_SCALE * line_cost line units + COEFFICIENT_SCALE * (slice_index prices place * received)
    ≤ COEFFICIENT_SCALE * worth_paid book prices (line_payments book.days line units)
    + COEFFICIENT_SCALE * (slice_index prices place * (need_at book.needs place).cents.0)
    + COEFFICIENT_SCALE * PRICE_SCALE * least_step_and_rounding book line

-- so it is with the own offer of each need date in a plain case
abbrev pub OwnOffersAreWorthIt : Type 0
OwnOffersAreWorthIt =
    (limit : ℕ) (book : BookContents) → IsBook book → (plain : IsPlain limit book) → (place number : ℕ) → place < length book.needs → IsOwnOfferAt book place number
    → IsWorthIt book plain.prices place (line_at book.lines number) (slice_index plain.plan number) (paid_in (span_of book.needs place) (payments book plain.plan))

-- what is received in the span of a need date is worth no more than the need, at its price, but for the least purchase of its own
-- offer, one step, a cent for the cost and two for each payment
abbrev pub IsExcessLittle : BookContents → List ℕ → ℕ → Line → ℕ → Type 0
IsExcessLittle book prices place line received =
    slice_index prices place * received
    ≤ slice_index prices place * (need_at book.needs place).cents.0 + PRICE_SCALE * (line_cost line line.least + line_cost line 1 + (1 + 2 * length (pay_coefficients book.days line)))

abbrev pub ExcessesAreLittle : Type 0
ExcessesAreLittle =
    (limit : ℕ) (book : BookContents) → IsBook book → (plain : IsPlain limit book) → (place number : ℕ) → place < length book.needs → IsOwnOfferAt book place number
    → IsExcessLittle book plain.prices place (line_at book.lines number) (paid_in (span_of book.needs place) (payments book plain.plan))
