use Rattle.std.proofs.Common.{◌<◌, length}
use Rattle.certificate_packing.proofs.vector_choice.best_of.Given as goal

abbrev pub invariant-loop-candidate : goal.invariant-loop-candidate
invariant-loop-candidate l = l.best.candidate < length l.candidates
