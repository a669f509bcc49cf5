use Rattle.std.proofs.Common.{◌≡◌, ◌+◌, count_by, length}
use Rattle.line_words.specs.Words.{is_space}
use Rattle.bound_certificate.proofs.row.count_spaces.Given as goal

abbrev pub invariant-loop-rest : goal.invariant-loop-rest
invariant-loop-rest l = l.spaces + count_by is_space l.rest ≡ count_by is_space l.line

abbrev pub decreases-loop-rest : goal.decreases-loop-rest
decreases-loop-rest l = length l.rest
