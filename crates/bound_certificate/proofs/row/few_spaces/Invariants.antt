use Rattle.std.proofs.Common.{◌≡◌, ◌≤◌, count_by, take}
use Rattle.line_words.specs.Words.{is_space}
use Rattle.bound_certificate.proofs.row.few_spaces.Given as goal

abbrev pub invariant-loop-byte : goal.invariant-loop-byte
invariant-loop-byte l = record {
  few : l.spaces ≤ l.byte-index;
  so_far : l.spaces ≡ count_by is_space (take l.byte-index l.bytes);
}
