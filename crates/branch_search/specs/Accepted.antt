-- What is found is accepted.
use Rattle.std.specs.Prelude.{◌≡◌, ℕ, List}
use Rattle.case_file.specs.Case.{CaseContents, HasTerms}
use Rattle.cash_table.specs.Points.{plan_yield}
use Rattle.proof_tree.specs.declared.tree.TreeNode.{TreeNode}
use Rattle.escrow_check.specs.Acceptance.{judged}
use Rattle.escrow_check.specs.declared.verdict.Portfolio.{Portfolio}
use Rattle.escrow_check.specs.declared.verdict.Verdict.TheVariants as verdict
use Rattle.offer_book.specs.Book.{IsBook}
use Rattle.offer_book.specs.Portfolio.{cost}
use Rattle.branch_search.specs.Purchases.{certificate_of, certificate_of_none}
use Rattle.branch_search.specs.Search.{IsFound, IsNoneFound}

-- a portfolio with a gap, as `check` answers it
abbrev pub portfolio_with : CaseContents → List ℕ → ℕ → Portfolio
portfolio_with case plan gap = record {
  plan = plan;
  cost = record { 0 = cost case.book plan };
  answer = plan_yield case.book plan;
  gap = record { 0 = gap };
}

-- the certificate of what is found is accepted, with just that portfolio
abbrev pub FoundAreAccepted : Type 0
FoundAreAccepted =
    (case : CaseContents) (plan : List ℕ) (nodes : List TreeNode) (gap : ℕ) → IsBook case.book → HasTerms case → IsFound case plan nodes gap
    → judged case (certificate_of plan nodes gap) ≡ verdict.Yes (portfolio_with case plan gap)

-- so is that of a tree which shows that there is no rival, without a portfolio
abbrev pub NoneFoundAreAccepted : Type 0
NoneFoundAreAccepted =
    (case : CaseContents) (nodes : List TreeNode) → IsBook case.book → HasTerms case → IsNoneFound case nodes
    → judged case (certificate_of_none nodes) ≡ verdict.YesNone
