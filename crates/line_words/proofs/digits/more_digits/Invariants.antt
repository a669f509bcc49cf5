use Rattle.std.proofs.Common.{◌≡◌, ◌≤◌, ◌-◌, Some, length, take}
use Rattle.line_words.specs.Words.{whole_number}
use Rattle.line_words.proofs.digits.more_digits.Given as goal

abbrev pub invariant-loop-place : goal.invariant-loop-place
invariant-loop-place l = record {
  within : l.place ≤ length l.piece;
  some : 1 ≤ l.number;
  is : whole_number (take l.place l.piece) ≡ Some l.number;
}

abbrev pub decreases-loop-place : goal.decreases-loop-place
decreases-loop-place l = length l.piece - l.place
