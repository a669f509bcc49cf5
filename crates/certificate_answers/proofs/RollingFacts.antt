-- What is said of the rolls of a portfolio, proved.
use Rattle.std.proofs.Common.{◌≡◌, ℕ, List, Option, Result, Ok, refl, sym, subst}
use Rattle.escrow_desk.specs.Rows.{rows_of}
use Rattle.escrow_desk.specs.declared.refusal.Refusal.{Refusal}
use Rattle.escrow_units.specs.declared.security.Terms.{Terms}
use Rattle.rate_table.specs.RateForm.{rate_file_of}
use Rattle.offer_book.specs.Book.{BookContents, IsBook}
use Rattle.offer_book.specs.Portfolio.{IsPermitted, Meets, security_flows}
use Rattle.case_file.specs.Case.{CaseContents}
use Rattle.roll_plan.specs.RollsOf.{moved_by, rolls_of}
use Rattle.roll_plan.specs.Steps.{stated_by}
use Rattle.roll_plan.proofs.MovedLaws.{moved_are}
use Rattle.roll_plan.proofs.RollLaws.{are_rolls_of, rolls_still_meet}
use Rattle.certificate_answers.specs.InputFiles.{InputFiles}
use Rattle.certificate_answers.specs.Rolled.{HasRolls}
use Rattle.certificate_answers.specs.RollsText.{planned_text, rolled_text}

planned : (book : BookContents) (plan : List ℕ) (terms : Option Terms) → IsBook book → IsPermitted book plan → Meets book plan → HasRolls terms book plan (planned_text book plan (rolls_of book plan terms))
planned book plan terms limits permitted meets =
    let rolls = rolls_of book plan terms in
    let are = are_rolls_of book plan terms limits meets in
    let moved = moved_are book plan terms rolls limits permitted meets are in
    record {
      rolls = rolls;
      are = are;
      meet = rolls_still_meet book plan terms limits meets;
      moved = moved_by (security_flows book plan) rolls;
      flows = moved.flows;
      total = moved.total;
      yields = moved.yields;
      said = refl;
    }

-- what is said by the denominations of the files
pub has_rolls : (files : InputFiles) (terms : Option Terms) (case : CaseContents) (plan : List ℕ) → stated_by (rate_file_of (rows_of files.rates)) ≡ Ok terms → IsBook case.book → IsPermitted case.book plan
    → Meets case.book plan → HasRolls terms case.book plan (rolled_text (stated_by (rate_file_of (rows_of files.rates))) case plan)
has_rolls files terms case plan read limits permitted meets =
    subst (λ (found : Result (Option Terms) Refusal). HasRolls terms case.book plan (rolled_text found case plan)) (sym read) (planned case.book plan terms limits permitted meets)
