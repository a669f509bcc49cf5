use Rattle.std.proofs.Common.{length}
use Rattle.worked_certificates.proofs.texts.fault_in_pieces.Given as goal

abbrev pub decreases-loop-rest : goal.decreases-loop-rest
decreases-loop-rest l = length l.rest
