use Rattle.std.proofs.Common.{◌≡◌, ◌++◌, List, ℕ, length}
use Rattle.case_file.specs.Case.{case_view}
use Rattle.escrow_check.specs.Checking.{Heard}
use Rattle.escrow_check.proofs.whole.check.Given as goal

abbrev pub invariant-loop-rest : goal.invariant-loop-rest
invariant-loop-rest l = record {
  front : List ℕ;
  bytes : front ++ l.rest ≡ l.fn.cert;
  case : l.checker.case ≡ case_view l.case;
  heard : Heard l.checker front;
}

abbrev pub decreases-loop-rest : goal.decreases-loop-rest
decreases-loop-rest l = length l.rest
