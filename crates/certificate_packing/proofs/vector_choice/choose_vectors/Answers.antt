use Rattle.std.proofs.Common.{ap, arith, length}
use Rattle.certificate_packing.proofs.vector_choice.choose_vectors.Goals as goal

-- leaves have candidates, and there are none
pub returns-then-is_empty-clause-some : goal.returns-then-is_empty-clause-some
returns-then-is_empty-clause-some c off place leaf =
    let some = c.in_ok-candidates.ensures.some (omega (arith, c.in_ok-leaves.ensures.some place leaf, ap length c.as_slice.ensures.value)) in
    absurd (grind (arith, some, c.is_empty.ensures, c.if-is_empty.true))
