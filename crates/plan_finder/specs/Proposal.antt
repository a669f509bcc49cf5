-- What is said of a plan that is proposed. How cheap it is isn't said.
use Rattle.std.specs.Prelude.{◌≡◌, ℕ, true}
use Rattle.cash_table.specs.Points.{is_within_limit}
use Rattle.offer_book.specs.Book.{BookContents}
use Rattle.offer_book.specs.Portfolio.{IsPermitted, Meets, cost as cost_of}
use Rattle.plan_finder.specs.declared.finding.Proposal.{Proposal}

-- a plan that can be bought: it is permitted, meets the needs on every day, is within the limit, and costs what it says
pub record IsProposal (limit : ℕ) (book : BookContents) (proposal : Proposal) : Type 0 where
  pub permitted : IsPermitted book proposal.plan
  pub meets : Meets book proposal.plan
  pub within : is_within_limit limit book proposal.plan ≡ true
  pub cost : proposal.cost.0 ≡ cost_of book proposal.plan
