-- The limit on the yield of an escrow.
use Rattle.std.specs.Prelude.{◌≡◌, ℕ, ◌+◌, ◌≤◌, nat_le, if◌then◌else◌, List, Result, Ok, Err, ℤ}
use Rattle.escrow_desk.specs.declared.refusal.FileKind.TheVariants as file
use Rattle.escrow_desk.specs.declared.refusal.Refusal.{Refusal}
use Rattle.escrow_desk.specs.declared.refusal.RefusalKind.TheVariants as kind
use Rattle.escrow_units.specs.Flows.{indexed}
use Rattle.escrow_units.specs.declared.limits.TheConstants.{GREATEST_GIVEN_YIELD}
use Rattle.escrow_units.specs.declared.security.Flow.{Flow}
use Rattle.row_fields.specs.RowForm.{◌>>=◌, refusal_of}
use Rattle.yield_enclosure.specs.YieldAnswers.{AreYieldEnds, yield_answer_of}
use Rattle.yield_enclosure.specs.declared.answer.YieldAnswer.{YieldAnswer}
use Rattle.yield_enclosure.specs.declared.answer.YieldAnswer.TheVariants as yields
use Rattle.issue_schedule.specs.declared.issue.Issue.{Issue}
use Rattle.issue_schedule.specs.declared.issue.Restricted.{Restricted}
use Rattle.issue_schedule.specs.declared.issue.Restricted.TheVariants.{Given, Computed}

-- the yield of an issue's own payments for its price is out of range: it is below 0 or above 29.99 percent
abbrev pub out_of_range : ℕ → Refusal
out_of_range row = refusal_of file.Issue row kind.OutOfRange

-- the lower end of a yield's interval, up to 29.99 percent, or a refusal at the row of the price
abbrev pub lower_end_or_refused : ℕ → YieldAnswer → Result ℕ Refusal
lower_end_or_refused row (yields.Between lo hi) = if nat_le lo.0 GREATEST_GIVEN_YIELD then Ok lo.0 else Err (out_of_range row)
lower_end_or_refused row yields.Empty = Err (out_of_range row)
lower_end_or_refused row yields.Negative = Err (out_of_range row)
lower_end_or_refused row yields.Above = Err (out_of_range row)

-- the restricted yield that is given, or else the lower end of the yield of the issue's own payments for its price
-- (26 CFR 1.148-4(a)), in units of 10^-10
abbrev pub restricted_yield_of : ℤ → List Flow → Restricted → Result ℕ Refusal
restricted_yield_of settle pays (Given units) = Ok units.0
restricted_yield_of settle pays (Computed row price) = lower_end_or_refused row (yield_answer_of (indexed settle pays) price.0)

-- one thousandth of a percentage point, in units of 10^-10: a yield that is higher by no more isn't materially higher
-- (26 CFR 1.148-2(d)(2))
abbrev pub materially_higher : ℕ
materially_higher = 100_000

-- the limit on the yield of an escrow, or a refusal
abbrev pub limit_of : Issue → Result ℕ Refusal
limit_of issue = do
  restricted ← restricted_yield_of issue.settle issue.pays issue.restricted
  Ok (restricted + materially_higher)

-- a yield is the one that an issue gives; or it isn't above the exact yield of the issue's own payments for its price, and less
-- than it by at most two units
abbrev pub IsRestrictedYield : ℤ → List Flow → Restricted → ℕ → Type 0
IsRestrictedYield settle pays (Given units) n = n ≡ units.0
IsRestrictedYield settle pays (Computed row price) n = (hi : ℕ) × AreYieldEnds (indexed settle pays) price.0 n hi

-- a limit is one thousandth of a percentage point above a restricted yield of at most 29.99 percent
pub record RestsOn (issue : Issue) (limit : ℕ) : Type 0 where
  pub restricted : ℕ
  pub yields : IsRestrictedYield issue.settle issue.pays issue.restricted restricted
  pub most : restricted ≤ GREATEST_GIVEN_YIELD
  pub above : limit ≡ restricted + materially_higher
