-- The case at a cap on its SLGS rates is a case again.
use Rattle.std.proofs.Common.{map, refl}
use Rattle.escrow_units.specs.declared.amount.Rate.{Rate}
use Rattle.case_file.specs.Case.{CaseContents, HasTerms}
use Rattle.offer_book.specs.Book.{IsBook}
use Rattle.rate_cap.proofs.CaseFacts.{book-is, cases-are_one}
use Rattle.rate_cap.specs.CaseAt.{case_at, line_at}
use Rattle.certificate_answers.specs.AtCap.{GiveCaseAt}
use Rattle.certificate_answers.specs.CaseOf.{GiveCase}
use Rattle.certificate_answers.specs.InputFiles.{InputFiles}

-- its terms stay
pub terms-at : (cap : Rate) (case : CaseContents) → HasTerms case → HasTerms (case_at cap case)
terms-at cap case terms = record {
  least_limit = terms.least_limit;
  most_limit = terms.most_limit;
  allowance = terms.allowance;
  least_budget = terms.least_budget;
  most_budget = terms.most_budget;
}

-- its book keeps every limit
pub book-at : (cap : Rate) (case : CaseContents) → IsBook case.book → IsBook (case_at cap case).book
book-at cap case book = book-is cap case.book case.book.days.settle case.book.days.closed case.book.needs (map (line_at cap) case.book.lines) book refl refl refl refl

-- the files of a case give it at a cap
pub given_at : (cap : Rate) (files : InputFiles) (case : CaseContents) → GiveCase files case → GiveCaseAt cap files (case_at cap case)
given_at cap files case gives = record { case = case; gives = gives; is_at = (cases-are_one cap case (case_at cap case)).1 refl }
