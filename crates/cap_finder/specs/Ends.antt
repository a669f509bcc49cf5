-- What the search of the greatest common cap comes to: an escrow at a cap, with what is known of the caps above it; or none. The
-- common cap is this project's own. Caps are in thousandths of a percentage point, and the top is the greatest SLGS rate of a case.
use Rattle.std.specs.Prelude.{◌≡◌, ◌+◌, ◌<◌, Option, Some, None}
use Rattle.escrow_units.specs.declared.amount.Rate.{Rate}
use Rattle.branch_search.specs.Plain.{IsPlainWithin}
use Rattle.branch_search.specs.Search.{EndsOf, IsFound, IsFoundBy}
use Rattle.branch_search.specs.declared.found.SearchEnd.{SearchEnd}
use Rattle.branch_search.specs.declared.found.SearchEnd.TheVariants as ended
use Rattle.case_file.specs.Case.{CaseContents, case_view}
use Rattle.rate_cap.specs.CaseAt.{IsAtCap, IsTopOf, case_at, slgs_rates}
use Rattle.rate_cap.specs.Search.{IsCapUpTo, zero_cap}
use Rattle.cap_finder.specs.declared.ends.CapEnd.{CapEnd}
use Rattle.cap_finder.specs.declared.ends.CapEnd.TheVariants as end
use Rattle.cap_finder.specs.declared.ends.CappedEscrow.{CappedEscrow}
use Rattle.cap_finder.specs.declared.ends.CaseAtZero.{CaseAtZero}
use Rattle.cap_finder.specs.declared.ends.GreatestCap.{GreatestCap}
use Rattle.cap_finder.specs.declared.ends.Obstacle.{Obstacle}
use Rattle.cap_finder.specs.declared.ends.Obstacle.TheVariants as obstacle
use Rattle.cap_finder.specs.declared.ends.Unfound.{Unfound}

-- ---- no escrow
-- how a search ended, by what stood in the way
abbrev pub end_of : Obstacle → SearchEnd
end_of (obstacle.Short day) = ended.Short day
end_of (obstacle.NoneWithinYield nodes) = ended.NoneWithinYield nodes
end_of (obstacle.BudgetSpent spent) = ended.BudgetSpent spent

-- a search of a case found no escrow, for this cause and not for want of memory: no permitted portfolio meets the needs; there is no
-- rival; or the budget is spent
abbrev pub IsInTheWay : CaseContents → Obstacle → Type 0
IsInTheWay case own = EndsOf case (end_of own)

-- a search of the case at a cap found none
pub record FailsAt (case : CaseContents) (cap : Rate) : Type 0 where
  pub obstacle : Obstacle
  pub is : IsInTheWay (case_at cap case) obstacle

-- ---- an escrow at a cap
-- an escrow was found for the case at a cap
pub record IsCappedEscrow (case : CaseContents) (escrow : CappedEscrow) : Type 0 where
  pub at : IsAtCap escrow.cap case (case_view escrow.case)
  pub found : IsFound (case_view escrow.case) escrow.found.plan escrow.found.tree escrow.found.gap
  pub found_by : IsFoundBy (case_view escrow.case) escrow.found.plan escrow.found.tree

-- a cap is one hundredth of a percentage point above another, which is below the top, and no escrow was found at it
pub record IsUnfoundAbove (case : CaseContents) (top cap : Rate) (unfound : Unfound) : Type 0 where
  pub below : cap.0 < top.0
  pub next : unfound.cap.0 ≡ cap.0 + 10
  pub is : IsInTheWay (case_at unfound.cap case) unfound.obstacle

-- the next hundredth above a cap: none at the top, and else no escrow was found there
abbrev pub IsNextAbove : CaseContents → Rate → Rate → Option Unfound → Type 0
IsNextAbove case top cap None = cap ≡ top
IsNextAbove case top cap (Some unfound) = IsUnfoundAbove case top cap unfound

-- the greatest cap at which an escrow was found; where it is below the top, none was found at the top
pub record IsGreatestCap (case : CaseContents) (top : Rate) (greatest : GreatestCap) : Type 0 where
  pub cap : IsCapUpTo top greatest.escrow.cap
  pub escrow : IsCappedEscrow case greatest.escrow
  pub next : IsNextAbove case top greatest.escrow.cap greatest.next
  pub top_fails : greatest.escrow.cap.0 < top.0 → FailsAt case top

-- ---- none at any
-- no escrow was found for the case at cap 0, nor at the top
pub record IsNoneFound (case : CaseContents) (top : Rate) (zero : CaseAtZero) : Type 0 where
  pub at : IsAtCap zero_cap case (case_view zero.case)
  pub is : IsInTheWay (case_view zero.case) zero.obstacle
  pub top_fails : FailsAt case top

-- ---- the end
abbrev pub ComesTo : CaseContents → Rate → CapEnd → Type 0
ComesTo case top (end.Found greatest) = IsGreatestCap case top greatest
ComesTo case top (end.NoneFound zero) = IsNoneFound case top zero

-- what the search of a case's greatest cap comes to, with the top of its SLGS rates
pub record IsCapEnd (case : CaseContents) (own : CapEnd) : Type 0 where
  pub top : Rate
  pub is_top : IsTopOf (slgs_rates case.book.lines) top
  pub comes_to : ComesTo case top own

-- an escrow was found at the top, so for the case itself
abbrev pub IsFoundAtTop : CaseContents → CapEnd → Type 0
IsFoundAtTop case (end.Found greatest) = IsTopOf (slgs_rates case.book.lines) greatest.escrow.cap × (case_view greatest.escrow.case ≡ case)
IsFoundAtTop case (end.NoneFound zero) = ⊥

-- of a plain case, whose issue allows at least its gap, one is
abbrev pub IsPlainAtTop : CaseContents → CapEnd → Type 0
IsPlainAtTop case own = IsPlainWithin case → IsFoundAtTop case own
