-- Bootstrapped prices: the price curve of the need dates, found date by date from the own offers, as a yield curve is bootstrapped
-- from bonds that mature one after another. The price of a date is the greatest at which one unit of its own offer is worth
-- no more than it costs, given the prices of the earlier dates. Scales and rounding are this project's own.
use Rattle.std.specs.Prelude.{ℕ, zero, suc, ◌-◌, ◌*◌, ◌/◌, true, nat_le, if◌then◌else◌, List, [], ◌∷◌, ◌++◌, length, take, slice_index_or, sum_by, Option, Some, None, option_and_then, option_map}
use Rattle.escrow_units.specs.declared.security.Flow.{Flow}
use Rattle.offer_book.specs.Book.{BookContents}
use Rattle.offer_book.specs.Coefficients.{cost_coefficients, pay_coefficients}
use Rattle.offer_book.specs.declared.coefficients.PayCoefficients.{PayCoefficients}
use Rattle.offer_book.specs.declared.line.Line.{Line}
use Rattle.dual_bound.specs.LeafBound.{price_on}
use Rattle.proof_tree.specs.declared.prices.TheConstants.{PRICE_SCALE}
use Rattle.proof_tree.specs.declared.tree.Leaf.{Leaf}
use Rattle.backward_build.specs.OwnOffer.{line_at, need_at, own_offer_of}
use Rattle.backward_build.specs.Span.{falls_in, span_of}
use Rattle.backward_build.specs.declared.span.Span.{Span}
use Rattle.offer_book.specs.declared.payment_days.PaymentDays.{PaymentDays}

-- what the payments of one unit are worth at the prices of some need dates. A payment has the price of the first of them on or
-- after its day, and one after all of them has none
abbrev pub worth_at : List Flow → List ℕ → List PayCoefficients → ℕ
worth_at needs prices pays = sum_by (λ pay. price_on needs prices pay.day * pay.high) pays

-- what one unit pays in a span, scaled
abbrev pub unit_paid_in : Span → List PayCoefficients → ℕ
unit_paid_in span pays = sum_by (λ pay. if falls_in span pay.day then pay.high else 0) pays

-- of a cost, what earlier payments aren't worth is shared among the payments that are left, rounded down; there is no price
-- where they are worth more than the cost
abbrev pub shared : ℕ → ℕ → ℕ → Option ℕ
shared cost earlier left = if nat_le earlier cost then Some ((cost - earlier) / left) else None

-- the price at which a line is worth what it costs, for the need date after those that are priced
abbrev pub fair_price : PaymentDays → List Flow → List ℕ → Line → Option ℕ
fair_price days needs prices line =
    shared
    (PRICE_SCALE * (cost_coefficients line).low)
    (worth_at (take (length prices) needs) prices (pay_coefficients days line))
    (unit_paid_in (span_of needs (length prices)) (pay_coefficients days line))

-- the price before the next: 1 before the first
abbrev pub last_price : List ℕ → ℕ
last_price prices = slice_index_or prices (length prices - 1) PRICE_SCALE

-- a price that is above the one before isn't one
abbrev pub not_above : ℕ → ℕ → Option ℕ
not_above most price = if nat_le price most then Some price else None

-- the price of the need date after those that are priced, by its own offer
abbrev pub next_price : BookContents → List ℕ → Option ℕ
next_price book prices =
    option_and_then (not_above (last_price prices))
    (option_and_then (λ number. fair_price book.days book.needs prices (line_at book.lines number)) (own_offer_of book (need_at book.needs (length prices)).day))

-- one price more
abbrev pub with_next_price : BookContents → List ℕ → Option (List ℕ)
with_next_price book prices = option_map (λ price. prices ++ price ∷ []) (next_price book prices)

-- the prices of the first so many need dates
unfoldable pub first_prices : BookContents → ℕ → Option (List ℕ)
first_prices book zero = Some []
first_prices book (suc dates) = option_and_then (with_next_price book) (first_prices book dates)

-- the price curve of a book: none where a need date has no own offer, or where a price is below 0, above 1 or above the one before
abbrev pub bootstrapped_prices : BookContents → Option (List ℕ)
bootstrapped_prices book = first_prices book (length book.needs)

-- the leaf of a price curve: the cost counts, and the limit has no multiplier
abbrev pub leaf_of_prices : List ℕ → Leaf
leaf_of_prices prices = record { rho = PRICE_SCALE; mu = 0; prices = prices; weights = [] }
