-- Plain cases, of which a gap is known beforehand. They are this project's own.
use Rattle.std.specs.Prelude.{◌≡◌, ℕ, ◌+◌, ◌*◌, ◌<◌, ◌≤◌, List, [], ◌∷◌, All, length, slice_set, sum_by, Option, Some, None, Ok}
use Rattle.offer_book.specs.Book.{BookContents}
use Rattle.offer_book.specs.Coefficients.{cost_coefficients, pay_coefficients}
use Rattle.offer_book.specs.Portfolio.{line_cost, payments}
use Rattle.offer_book.specs.Rival.{IsRival}
use Rattle.offer_book.specs.declared.line.Line.{Line}
use Rattle.proof_tree.specs.declared.prices.TheConstants.{PRICE_SCALE}
use Rattle.backward_build.specs.BackwardPlan.{backward_plan}
use Rattle.backward_build.specs.OwnOffer.{line_at, need_at, own_offer_of}
use Rattle.backward_build.specs.PlanLaws.{IsOwnOfferAt}
use Rattle.backward_build.specs.PriceCurve.{bootstrapped_prices, worth_at}
use Rattle.backward_build.specs.Span.{paid_in, span_of}

-- one unit of a line costs at least what its payments are worth at the prices of the need dates
abbrev pub IsNoBargain : BookContents → List ℕ → Line → Type 0
IsNoBargain book prices line = worth_at book.needs prices (pay_coefficients book.days line) ≤ PRICE_SCALE * (cost_coefficients line).low

-- so it is for each line on offer; opening cash, the first line, isn't one
abbrev pub AreNoBargains : BookContents → List ℕ → List Line → Type 0
AreNoBargains book prices [] = ⊥
AreNoBargains book prices (cash ∷ offers) = All (IsNoBargain book prices) offers

-- a case is plain: its prices can be bootstrapped, at which nothing on offer is a bargain; its backward plan can be built, in which no
-- need is paid for beyond its amount by what ends later; and that plan is a rival under the limit
pub record IsPlain (limit : ℕ) (book : BookContents) : Type 0 where
  pub prices : List ℕ
  pub curve : bootstrapped_prices book ≡ Some prices
  pub no_bargains : AreNoBargains book prices book.lines
  pub plan : List ℕ
  pub built : backward_plan book ≡ Ok plan
  pub no_excess : (place number : ℕ) → place < length book.needs → IsOwnOfferAt book place number
      → paid_in (span_of book.needs place) (payments book (slice_set plan number 0)) ≤ (need_at book.needs place).cents.0
  pub rival : IsRival limit book plan

-- what an own offer costs at the least purchase and at one step, in cents
abbrev pub least_and_step : List Line → Option ℕ → ℕ
least_and_step lines None = 0
least_and_step lines (Some number) = line_cost (line_at lines number) (line_at lines number).least + line_cost (line_at lines number) 1

-- the gap of a plain case, in cents: for each need date its own offer's least purchase and one step, by which more may be bought than
-- is needed, and for each line the rounding of its cost and of its payments
unfoldable pub plain_gap : BookContents → ℕ
plain_gap book =
    sum_by (λ need. least_and_step book.lines (own_offer_of book need.day)) book.needs
    + sum_by (λ line. 8 + 3 * length (pay_coefficients book.days line)) book.lines
