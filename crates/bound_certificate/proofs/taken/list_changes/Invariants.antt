use Rattle.std.proofs.Common.{◌≡◌, ◌≤◌, ◌-◌, ◌*◌, ◌++◌, drop, length}
use Rattle.arrayvec.specs.ArrayVec.{array_vec_len}
use Rattle.bound_certificate.specs.Grammar.{ArePlaces, changes_of}
use Rattle.bound_certificate.proofs.taken.list_changes.Given as goal

abbrev pub invariant-loop-place : goal.invariant-loop-place
invariant-loop-place g l = record {
  room : 2 * array_vec_len l.changes ≤ l.place;
  within : l.place ≤ length l.numbers;
  few : ArePlaces 65_535 (changes_of (drop l.place l.numbers));
  so_far : l.changes.items ++ changes_of (drop l.place l.numbers) ≡ changes_of l.numbers;
}

abbrev pub decreases-loop-place : goal.decreases-loop-place
decreases-loop-place g l = length l.numbers - l.place
