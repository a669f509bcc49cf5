-- Plain cases are settled at the root.
use Rattle.std.specs.Prelude.{◌≡◌, ◌≤◌}
use Rattle.backward_build.specs.PlainCase.{IsPlain, plain_gap}
use Rattle.case_file.specs.Case.{CaseContents}
use Rattle.escrow_units.specs.declared.limits.TheConstants.{GREATEST_YIELD}
use Rattle.offer_book.specs.Book.{IsBook}
use Rattle.branch_search.specs.Search.{EndsOf}
use Rattle.branch_search.specs.declared.found.SearchEnd.{SearchEnd}
use Rattle.branch_search.specs.declared.found.SearchEnd.TheVariants as ended

-- a plain case, whose issue allows at least its gap
pub record IsPlainWithin (case : CaseContents) : Type 0 where
  pub plain : IsPlain case.limit case.book
  pub allowed : plain_gap case.book ≤ case.allowance

-- of such a case no search ends for any cause but want of memory
abbrev pub PlainAreSettled : Type 0
PlainAreSettled =
    (case : CaseContents) → IsBook case.book → 1 ≤ case.limit → case.limit ≤ GREATEST_YIELD → IsPlainWithin case
    → (e : SearchEnd) → EndsOf case e → e ≡ ended.NoMemory
