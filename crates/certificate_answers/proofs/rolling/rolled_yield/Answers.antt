use Rattle.std.proofs.Common.{ap, arith}
use Rattle.escrow_units.specs.Flows.{total}
use Rattle.cash_table.proofs.FlowFacts.{flows_at_most}
use Rattle.certificate_answers.proofs.rolling.rolled_yield.Goals as goal

pub interval-requires-clause-cents : goal.interval-requires-clause-cents
interval-requires-clause-cents c =
    omega (
      arith,
      ap total c.as_slice.ensures.value,
      c.in_ok-moved.ensures.total,
      flows_at_most c.args.case.now.book c.args.plan.now c.line_count.ensures.limits c.requires.permitted,
      c.security_cost-cost.ensures.bound,
    )
