-- The best plan of a search. This is this project's own.
use Rattle.std.specs.Prelude.{◌≡◌, ℕ, ◌≤◌, true, List, Option, Ok, Some, None}
use Rattle.backward_build.specs.BackwardPlan.{backward_plan}
use Rattle.case_file.specs.Case.{CaseContents}
use Rattle.cash_table.specs.Points.{is_within_limit}
use Rattle.offer_book.specs.Portfolio.{cost}

-- a best plan costs at most so much
abbrev pub IsAtMost : Option ℕ → ℕ → Type 0
IsAtMost None cents = ⊥
IsAtMost (Some best) cents = best ≤ cents

-- the best plan never gets dearer
abbrev pub IsNoDearer : Option ℕ → Option ℕ → Type 0
IsNoDearer None after = Unit {0}
IsNoDearer (Some before) after = IsAtMost after before

-- where the backward plan is within the limit, the best plan costs no more
abbrev pub CoversBackward : CaseContents → Option ℕ → Type 0
CoversBackward case best = (built : List ℕ) → backward_plan case.book ≡ Ok built → is_within_limit case.limit case.book built ≡ true → IsAtMost best (cost case.book built)
