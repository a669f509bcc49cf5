use Rattle.escrow_check.proofs.OneVerdict.{bytes_have, one_verdict}
use Rattle.escrow_check.proofs.laws.text_verdict_laws.Goals as goal

pub returns : goal.returns
returns c = record { is = bytes_have; one = one_verdict }
