-- The statuses of runs.
use Rattle.std.specs.Prelude.{ℕ, Bool, true, false}
use Rattle.certificate_answers.specs.declared.status.Status.{Status}
use Rattle.certificate_answers.specs.declared.status.Status.TheVariants as status

-- the exit status of the program
abbrev pub code_of : Status → ℕ
code_of status.Done = 0
code_of status.No = 1
code_of status.Usage = 2
code_of status.Refused = 3
code_of status.Infeasible = 4
code_of status.NoneWithinYield = 5
code_of status.BudgetSpent = 6
code_of status.ReadFault = 8
code_of status.WriteFault = 9
code_of status.NoFile = 10
code_of status.NoMemory = 11

-- the statuses that `check`, `check-cap`, `check-held`, `savings` and `roll` come to
abbrev pub is_checked : Status → Bool
is_checked status.Done = true
is_checked status.No = true
is_checked status.Refused = true
is_checked status = false
