use Rattle.std.proofs.Common.{length}
use Rattle.worked_certificates.proofs.items.hear.Given as goal

abbrev pub decreases-loop-rest : goal.decreases-loop-rest
decreases-loop-rest l = length l.rest
