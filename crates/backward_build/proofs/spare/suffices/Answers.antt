use Rattle.std.proofs.Common.{arith}
use Rattle.backward_build.proofs.TrimFacts.{some_need}
use Rattle.backward_build.proofs.spare.suffices.Goals as goal

pub returns : goal.returns
returns c = λ d. (
  (λ yes k need within.
      omega (arith, c.covers.ensures.0 yes k (omega (arith, within, c.from.ensures, c.need_count.ensures.value)), c.put_paid.ensures d k need within)),
  (λ cover. c.covers.ensures.1 (λ k within.
      omega (
        arith,
        cover k some_need (omega (arith, within, c.from.ensures, c.need_count.ensures.value)),
        c.put_paid.ensures d k some_need (omega (arith, within, c.from.ensures, c.need_count.ensures.value)),
      ))),
)
