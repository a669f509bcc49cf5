use Rattle.std.proofs.Common.{◌≤◌, ◌<◌, length}
use Rattle.certificate_packing.proofs.packing.nearest.Given as goal

abbrev pub invariant-loop-vector : goal.invariant-loop-vector
invariant-loop-vector l = record {
  there : l.nearest < length l.vectors;
  few : l.fewest ≤ length l.prices;
}
