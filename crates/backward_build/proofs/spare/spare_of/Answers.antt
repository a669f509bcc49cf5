use Rattle.std.proofs.Common.{get_or, arith}
use Rattle.cash_table.proofs.DayFacts.{total_by_need}
use Rattle.backward_build.proofs.TrimFacts.{some_need}
use Rattle.backward_build.proofs.spare.spare_of.Goals as goal

pub take_needs-requires-clause-met : goal.take_needs-requires-clause-met
take_needs-requires-clause-met c = rw c.needs.ensures.value (λ k within.
    let day = (get_or c.args.book.now.needs k some_need).day in
    omega (
      arith,
      c.run_up.ensures k (omega (arith, within, c.from.ensures, c.need_count.ensures.value)),
      c.receipts-spare.ensures.receipts k some_need within,
      total_by_need c.args.book.now.needs k some_need c.needs.ensures.limits.needs.rising within,
      c.requires.meets day,
    ))

pub returns : goal.returns
returns c = λ k need within.
    omega (
      arith,
      (rw c.needs.ensures.value at c.take_needs.ensures) k within,
      c.run_up.ensures k (omega (arith, within, c.from.ensures, c.need_count.ensures.value)),
      c.receipts-spare.ensures.receipts k need within,
      total_by_need c.args.book.now.needs k need c.needs.ensures.limits.needs.rising within,
    )
