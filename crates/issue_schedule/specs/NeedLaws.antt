-- What the needs of an issue are, in the terms of bonds.
use Rattle.std.specs.Prelude.{◌≡◌, ◌+◌, List, sum_by, Option, ℤ}
use Rattle.escrow_units.specs.Calendar.{years_after_of}
use Rattle.escrow_units.specs.Flows.{total, Rise, FallWithin}
use Rattle.escrow_units.specs.declared.security.Flow.{Flow}
use Rattle.day_sums.specs.SummedLaws.{AreAboveZero}
use Rattle.issue_schedule.specs.IssueTerms.{HasNeeds}
use Rattle.issue_schedule.specs.declared.issue.Bond.{Bond}
use Rattle.issue_schedule.specs.declared.issue.Call.{Call}
use Rattle.issue_schedule.specs.declared.issue.Issue.{Issue}
use Rattle.issue_schedule.specs.Needs.{bond_needs, needs_of}

-- they come to the direct needs and what the bonds need, and nothing else
abbrev pub NeedsKeepTotal : Type 0
NeedsKeepTotal =
    (settle : ℤ) (call : Option Call) (direct : List Flow) (bonds : List Bond)
    → total (needs_of settle call direct bonds) ≡ total direct + sum_by (λ bond. total (bond_needs settle call bond)) bonds

-- on each need date something is needed
abbrev pub NeedsAreAboveZero : Type 0
NeedsAreAboveZero =
    (settle : ℤ) (call : Option Call) (direct : List Flow) (bonds : List Bond)
    → AreAboveZero (needs_of settle call direct bonds)

-- their days strictly rise
abbrev pub NeedsRise : Type 0
NeedsRise =
    (settle : ℤ) (call : Option Call) (direct : List Flow) (bonds : List Bond) → Rise (needs_of settle call direct bonds)

-- and lie from settlement to 40 years later
abbrev pub NeedsFallWithin : Type 0
NeedsFallWithin =
    (issue : Issue) → HasNeeds issue
    → FallWithin issue.settle (years_after_of issue.settle 40) (needs_of issue.settle issue.call issue.direct issue.bonds)
