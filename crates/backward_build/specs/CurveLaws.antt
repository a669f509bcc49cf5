-- What bootstrapped prices are.
use Rattle.std.specs.Prelude.{◌≡◌, ℕ, ◌+◌, ◌*◌, ◌<◌, ◌≤◌, List, [], ◌∷◌, ◌++◌, length, take, slice_index, Some}
use Rattle.offer_book.specs.Book.{BookContents, IsBook}
use Rattle.offer_book.specs.Coefficients.{cost_coefficients, pay_coefficients}
use Rattle.offer_book.specs.declared.line.Line.{Line}
use Rattle.proof_tree.specs.declared.prices.TheConstants.{PRICE_SCALE}
use Rattle.backward_build.specs.OwnOffer.{line_at, need_at, own_offer_of}
use Rattle.backward_build.specs.PriceCurve.{bootstrapped_prices, worth_at}

-- at prices of the first need dates, one unit of a line is worth no more than it costs
abbrev pub IsWorthItsCost : BookContents → List ℕ → Line → Type 0
IsWorthItsCost book prices line =
    worth_at (take (length prices) book.needs) prices (pay_coefficients book.days line) ≤ PRICE_SCALE * (cost_coefficients line).low

-- the price of a need date is fair, given the earlier prices: at it one unit of the own offer is worth no more than it costs, and
-- at a greater one it is worth more
pub record IsFairAfter (book : BookContents) (earlier : List ℕ) (price : ℕ) : Type 0 where
  pub number : ℕ
  pub own : own_offer_of book (need_at book.needs (length earlier)).day ≡ Some number
  pub fair : IsWorthItsCost book (earlier ++ price ∷ []) (line_at book.lines number)
  pub greatest : IsWorthItsCost book (earlier ++ (price + 1) ∷ []) (line_at book.lines number) → ⊥

-- a price curve has a price for each need date, each fair after those before it
pub record IsFairCurve (book : BookContents) (prices : List ℕ) : Type 0 where
  pub dates : length prices ≡ length book.needs
  pub fair : (place : ℕ) → place < length prices → IsFairAfter book (take place prices) (slice_index prices place)

-- bootstrapped prices are such a curve
abbrev pub BootstrappedAreFair : Type 0
BootstrappedAreFair = (book : BookContents) (prices : List ℕ) → IsBook book → bootstrapped_prices book ≡ Some prices → IsFairCurve book prices
