-- What a search answers where it ends.
use Rattle.std.proofs.Common.{Result, Ok, Err}
use Rattle.std.specs.Prelude.{IfErr}
use Rattle.case_file.specs.Case.{CaseContents}
use Rattle.branch_search.specs.Search.{EndsOf, IsOutcome}
use Rattle.branch_search.specs.declared.found.Found.{Found}
use Rattle.branch_search.specs.declared.found.SearchEnd.{SearchEnd}

pub outcome-ended : (case : CaseContents) (result : Result Found SearchEnd) → IsOutcome case result → IfErr result (EndsOf case)
outcome-ended case (Ok found) is = tt
outcome-ended case (Err ended) is = is
