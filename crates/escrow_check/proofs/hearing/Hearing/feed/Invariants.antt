use Rattle.std.proofs.Common.{◌≡◌, true, ◌≤◌, List, ℕ, ◌++◌, length}
use Rattle.bound_certificate.specs.TextReading.{stage_due}
use Rattle.case_file.specs.Case.{case_view}
use Rattle.escrow_check.specs.Heard.{HasHeard, is_before_gap}
use Rattle.escrow_check.proofs.hearing.Hearing.feed.Given as goal

abbrev pub invariant-loop-rest : goal.invariant-loop-rest
invariant-loop-rest l = record {
  front : List ℕ;
  bytes : front ++ l.rest ≡ l.fn.piece;
  few : length l.rest ≤ 65_536;
  before : is_before_gap (stage_due l.self.reader.stage) ≡ true → is_before_gap (stage_due l.initial.self.reader.stage) ≡ true;
  heard : (bytes : List ℕ) → HasHeard (case_view l.case) l.initial.self bytes → HasHeard (case_view l.case) l.self (bytes ++ front);
}

abbrev pub decreases-loop-rest : goal.decreases-loop-rest
decreases-loop-rest l = length l.rest
