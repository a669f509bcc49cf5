-- What an escrow is compared with.
use Rattle.std.specs.Prelude.{ℕ, ◌-◌, List}
use Rattle.escrow_units.specs.Flows.{indexed}
use Rattle.escrow_units.specs.PresentValue.{PresentValueAtMost}
use Rattle.offer_book.specs.Book.{BookContents}
use Rattle.offer_book.specs.Portfolio.{IsPermitted, Meets, security_cost, security_flows}

-- a rival under a yield limit, in units of 10^-10: a permitted portfolio that meets the needs and whose exact yield is at most
-- one unit less than the limit, which is to say that at that yield its securities are worth at most what they cost. Where it
-- buys no securities that holds. The unit is this project's own strictness (26 CFR 1.148-2(d)(2) names the limit)
pub record IsRival (limit : ℕ) (book : BookContents) (plan : List ℕ) : Type 0 where
  pub permitted : IsPermitted book plan
  pub covered : Meets book plan
  pub yields : PresentValueAtMost (limit - 1) (indexed book.days.settle (security_flows book plan)) (security_cost book plan)
