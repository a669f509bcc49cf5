use Rattle.std.proofs.Common.{arith}
use Rattle.cash_table.proofs.BalanceFacts.{same_entry, total_by-parts}
use Rattle.cash_table.proofs.DayFacts.{total_by-at_most}
use Rattle.cash_table.proofs.day_balances.entry_of.Goals as goal

pub overflow_add-result : goal.overflow_add-result
overflow_add-result c =
    omega (
      arith,
      c.on-received.ensures,
      c.requires.before,
      c.requires.room,
      total_by-parts c.args.day c.args.receipts.now.sums,
      total_by-at_most c.args.day c.args.receipts.now.sums,
    )

pub overflow_sub-result : goal.overflow_sub-result
overflow_sub-result c =
    omega (
      arith,
      c.on-received.ensures,
      c.on-needed.ensures,
      c.requires.before,
      c.requires.meets,
      total_by-parts c.args.day c.args.receipts.now.sums,
      total_by-parts c.args.day c.args.needs.now.sums,
    )

pub returns : goal.returns
returns c =
    same_entry c.args.day c.args.receipts.now.sums c.args.needs.now.sums c.on-received.result c.on-needed.result _ c.on-received.ensures c.on-needed.ensures
    (omega (
      arith,
      c.on-received.ensures,
      c.on-needed.ensures,
      c.requires.before,
      total_by-parts c.args.day c.args.receipts.now.sums,
      total_by-parts c.args.day c.args.needs.now.sums,
    ))
