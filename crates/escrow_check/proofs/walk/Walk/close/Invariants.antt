use Rattle.std.proofs.Common.{◌≡◌, false, ◌≤◌, vec_capacity, vec_len}
use Rattle.node_ranges.specs.Ranges.{root_of}
use Rattle.escrow_check.specs.Walk.{to_come}
use Rattle.escrow_check.proofs.WalkFacts.{Within}
use Rattle.escrow_check.proofs.walk.Walk.close.Given as goal

abbrev pub invariant-loop-split : goal.invariant-loop-split
invariant-loop-split l = record {
  within : Within l.book l.self.ranges l.self.splits.items;
  come : to_come l.book (root_of l.book) l.self.splits.items ≡ to_come l.book (root_of l.book) l.initial.self.splits.items;
  going : l.self.over ≡ false;
  depth : vec_len l.self.splits ≤ vec_len l.initial.self.splits;
  room : vec_capacity l.initial.self.splits ≤ vec_capacity l.self.splits;
}

abbrev pub decreases-loop-split : goal.decreases-loop-split
decreases-loop-split l = vec_len l.self.splits
