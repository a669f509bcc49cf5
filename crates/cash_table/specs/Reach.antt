-- Whether a case is in reach: whether what is on offer meets the needs at all.
use Rattle.std.specs.Prelude.{ℕ, List, map, ◌<◌, ℤ}
use Rattle.day_sums.specs.Summed.{total_by}
use Rattle.offer_book.specs.Book.{BookContents}
use Rattle.offer_book.specs.Portfolio.{IsPermitted, Meets, payments}

-- some permitted portfolio meets the needs
pub record IsInReach (book : BookContents) : Type 0 where
  pub plan : List ℕ
  pub permitted : IsPermitted book plan
  pub meets : Meets book plan

-- the portfolio of the most units of every line
abbrev pub plan_of_most : BookContents → List ℕ
plan_of_most book = map (λ line. line.most) book.lines

-- by a day every permitted portfolio pays less than is needed by then
abbrev pub AreAllShort : BookContents → ℤ → Type 0
AreAllShort book day = (plan : List ℕ) → IsPermitted book plan → total_by day (payments book plan) < total_by day book.needs
