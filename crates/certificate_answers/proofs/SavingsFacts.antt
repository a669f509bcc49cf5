-- What savings say of exact present values, proved.
use Rattle.std.proofs.Common.{◌≡◌, ℕ, List, refl, subst, arith}
use Rattle.std.specs.Prelude.{IfSome, option_map}
use Rattle.escrow_units.specs.Flows.{indexed}
use Rattle.issue_schedule.specs.declared.issue.Issue.{Issue}
use Rattle.issue_schedule.specs.declared.issue.Restricted.{Restricted}
use Rattle.issue_schedule.specs.declared.issue.Restricted.TheVariants.{Computed, Given}
use Rattle.offer_book.specs.Portfolio.{security_flows}
use Rattle.case_file.specs.Case.{CaseContents}
use Rattle.case_file.specs.Limit.{IsRestrictedYield, RestsOn}
use Rattle.savings_table.specs.OldService.{old_service_of}
use Rattle.savings_table.specs.PresentRange.{LiesInRange, present_range}
use Rattle.savings_table.specs.Savings.{AreSavings, new_service, restricted_yield, savings_at, securities_value}
use Rattle.savings_table.proofs.RangeFacts.{range-lies}

-- the present value of the new service, where the issue says it
new-lies : (issue : Issue) (n : ℕ) (restricted : Restricted) → IfSome (option_map (present_range issue.settle n) (new_service restricted issue.pays)) (LiesInRange n (indexed issue.settle issue.pays))
new-lies issue n (Given units) = tt
new-lies issue n (Computed row price) = range-lies issue.settle n issue.pays

-- savings at the restricted yield of an issue on which the limit rests
pub savings_are : (issue : Issue) (case : CaseContents) (plan : List ℕ) → RestsOn issue case.limit → AreSavings issue case (restricted_yield case) plan (savings_at issue case (restricted_yield case) plan)
savings_are issue case plan rests =
    let n = restricted_yield case in
    let same : rests.restricted ≡ restricted_yield case = omega (arith, rests.above) in
    record {
      restricted = subst (λ m. IsRestrictedYield issue.settle issue.pays issue.restricted m) same rests.yields;
      old_value = range-lies issue.settle n (old_service_of issue.settle issue.bonds);
      new_value = new-lies issue n issue.restricted;
      saved = refl;
      securities = securities_value case n plan;
      securities_value = range-lies case.book.days.settle n (security_flows case.book plan);
      idle = refl;
    }
