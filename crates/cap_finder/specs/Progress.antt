-- How far the search of the greatest common cap has come. This is this project's own.
use Rattle.std.specs.Prelude.{◌≡◌, ◌+◌, List, [], All, Option, Some, None, option_map, IfSome, IsSomeAnd}
use Rattle.escrow_units.specs.declared.amount.Rate.{Rate}
use Rattle.case_file.specs.Case.{CaseContents}
use Rattle.rate_cap.specs.CaseAt.{case_at}
use Rattle.rate_cap.specs.Search.{CapsTold, IsBest, IsCapUpTo, IsLeast, IsNext, IsSearch, IsSettled, tells, zero_cap}
use Rattle.cap_finder.specs.Ends.{FailsAt, IsCappedEscrow, IsInTheWay}
use Rattle.cap_finder.specs.declared.ends.Unfound.{Unfound}
use Rattle.cap_finder.specs.declared.progress.Progress.{Progress}

-- the cap that is asked next
pub record IsAsked (told : CapsTold) (cap : Rate) : Type 0 where
  pub kept : IsSearch told
  pub unsettled : ¬ IsSettled told
  pub up_to : IsCapUpTo told.top cap
  pub next : IsNext told cap

-- one more was told
pub record IsOneMore (before after : CapsTold) : Type 0 where
  pub top : after.top ≡ before.top
  pub more : tells after ≡ tells before + 1

-- the least cap of a list, or none of an empty one
abbrev pub IsLeastOf : List Rate → Option Rate → Type 0
IsLeastOf caps None = caps ≡ []
IsLeastOf caps (Some cap) = IsLeast caps cap

-- the ends of what was told: the greatest cap that was found, and the least that wasn't. Before there is one that wasn't, the top alone
-- may be found
pub record AreEnds (told : CapsTold) (low high : Option Rate) : Type 0 where
  pub greatest : IsBest told.found low
  pub least : IsLeastOf told.not_found high
  pub top_first : high ≡ None → IfSome low (λ cap. cap ≡ told.top)

-- the ends are kept, each with what its case came to; and no escrow is found at any cap that was told as not found
pub record IsProgress (case : CaseContents) (progress : Progress) : Type 0 where
  pub ends : AreEnds progress.search (option_map (λ escrow. escrow.cap) progress.found) (option_map (λ unfound. unfound.cap) progress.unfound)
  pub found : IfSome progress.found (IsCappedEscrow case)
  pub unfound : IfSome progress.unfound (λ unfound. IsInTheWay (case_at unfound.cap case) unfound.obstacle)
  pub fails : All (FailsAt case) progress.search.not_found

-- the least cap that wasn't found is 0
abbrev pub IsZeroUnfound : CaseContents → Option Unfound → Type 0
IsZeroUnfound case unfound = IsSomeAnd unfound (λ own. (own.cap ≡ zero_cap) × IsInTheWay (case_at zero_cap case) own.obstacle)
