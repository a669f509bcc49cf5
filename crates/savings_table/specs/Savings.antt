-- What a refunding saves, and what idle yield costs, in present value at the restricted yield: this project's own.
use Rattle.std.specs.Prelude.{◌≡◌, ℕ, ◌-◌, ◌≤◌, List, length, Option, Some, None, IfSome, option_map, Ok, pos, ◌-ℤ◌}
use Rattle.escrow_desk.specs.Rows.{rows_of}
use Rattle.escrow_desk.specs.declared.limits.TheConstants.{FILE_LIMIT}
use Rattle.escrow_units.specs.Flows.{indexed}
use Rattle.escrow_units.specs.declared.security.Flow.{Flow}
use Rattle.row_fields.specs.RowForm.{Row}
use Rattle.issue_schedule.specs.IssueForm.{issue_of}
use Rattle.issue_schedule.specs.IssueTerms.{IsIssue}
use Rattle.issue_schedule.specs.declared.issue.Issue.{Issue}
use Rattle.issue_schedule.specs.declared.issue.Restricted.{Restricted}
use Rattle.issue_schedule.specs.declared.issue.Restricted.TheVariants.{Computed, Given}
use Rattle.offer_book.specs.Portfolio.{security_cost, security_flows}
use Rattle.case_file.specs.Case.{CaseContents, IsKept}
use Rattle.case_file.specs.Limit.{IsRestrictedYield, RestsOn, materially_higher}
use Rattle.savings_table.specs.OldService.{old_service_of}
use Rattle.savings_table.specs.PresentRange.{LiesInRange, present_range}
use Rattle.savings_table.specs.declared.discounting.PvRange.{PvRange}
use Rattle.savings_table.specs.declared.savings.Savings.{Savings}
use Rattle.savings_table.specs.declared.savings.SignedRange.{SignedRange}

-- an issue and a case of one set of files: an issue that was read, with no more bonds than its file may have bytes, and a case
-- that settles on its day and whose limit rests on its restricted yield
pub record AreOfOneSet (issue : Issue) (case : CaseContents) : Type 0 where
  pub read : IsIssue issue
  pub bonds : length issue.bonds ≤ FILE_LIMIT
  pub settle : case.book.days.settle ≡ issue.settle
  pub limit : RestsOn issue case.limit

-- the issue of a file has no more bonds than the file has bytes
abbrev pub FilesHaveFewBonds : Type 0
FilesHaveFewBonds = (text : List ℕ) (issue : Issue) → issue_of (rows_of text) ≡ Ok issue → length issue.bonds ≤ length text

-- what is read of one set of files is one
abbrev pub FilesGiveOneSet : Type 0
FilesGiveOneSet =
    (text : List ℕ) (rate_rows price_rows : List Row) (issue : Issue) (case : CaseContents)
    → length text ≤ FILE_LIMIT → issue_of (rows_of text) ≡ Ok issue → IsIssue issue
    → IsKept (rows_of text) rate_rows price_rows case → AreOfOneSet issue case

-- the restricted yield of a case, at which all is discounted, in units of 10^-10: not the limit, which is above it
abbrev pub restricted_yield : CaseContents → ℕ
restricted_yield case = case.limit - materially_higher

-- the new service: the payments of the refunding issue, which an issue with a given yield doesn't say
abbrev pub new_service : Restricted → List Flow → Option (List Flow)
new_service (Given units) pays = None
new_service (Computed row price) pays = Some pays

-- an amount that is known to the cent
abbrev pub known : ℕ → PvRange
known cents = record { lo = cents; hi = cents }

-- one amount less another, each between two ends: the least that it can be, and the most
abbrev pub difference : PvRange → PvRange → SignedRange
difference amount less = record { lo = pos amount.lo -ℤ pos less.hi; hi = pos amount.hi -ℤ pos less.lo }

-- what the old service is worth, the new service, and the receipts of the securities
abbrev pub old_value : Issue → ℕ → PvRange
old_value issue n = present_range issue.settle n (old_service_of issue.settle issue.bonds)

-- what the new service is worth at a yield, where it is known
abbrev pub new_value : Issue → ℕ → Option PvRange
new_value issue n = option_map (present_range issue.settle n) (new_service issue.restricted issue.pays)

-- what the receipts of the securities are worth at a yield
abbrev pub securities_value : CaseContents → ℕ → List ℕ → PvRange
securities_value case n plan = present_range case.book.days.settle n (security_flows case.book plan)

-- the savings, which are the old service less the new one, and what idle yield costs, which is the cost of the securities, opening
-- cash aside, less what they are worth
abbrev pub savings_at : Issue → CaseContents → ℕ → List ℕ → Savings
savings_at issue case n plan = record {
  old_value = old_value issue n;
  new_value = new_value issue n;
  saved = option_map (difference (old_value issue n)) (new_value issue n);
  idle = difference (known (security_cost case.book plan)) (securities_value case n plan);
}

-- what savings say of exact present values at the yield n, which is the restricted yield: that of each service lies between its
-- ends, and that of the securities between the two from which the cost of idle yield is taken. So the exact differences lie
-- between the ends of the differences
pub record AreSavings (issue : Issue) (case : CaseContents) (n : ℕ) (plan : List ℕ) (savings : Savings) : Type 0 where
  pub restricted : IsRestrictedYield issue.settle issue.pays issue.restricted n
  pub old_value : LiesInRange n (indexed issue.settle (old_service_of issue.settle issue.bonds)) savings.old_value
  pub new_value : IfSome savings.new_value (LiesInRange n (indexed issue.settle issue.pays))
  pub saved : savings.saved ≡ option_map (difference savings.old_value) savings.new_value
  pub securities : PvRange
  pub securities_value : LiesInRange n (indexed case.book.days.settle (security_flows case.book plan)) securities
  pub idle : savings.idle ≡ difference (known (security_cost case.book plan)) securities
