use Rattle.std.proofs.Common.{int_lt, get_or, rules}
use Rattle.std.proofs.lemmas.List.Sorted.{IsPartitionPoint-from_clause}
use Rattle.cash_table.proofs.ReceiptFacts.{days_are_partitioned, lt_from_test, le_from_lt_test}
use Rattle.cash_table.proofs.cash.place_of.Goals as goal

pub returns-clause-before : goal.returns-clause-before
returns-clause-before c =
    let parted = days_are_partitioned c.args.needs.now c.args.day c.requires in
    let point = IsPartitionPoint-from_clause (λ need. int_lt need.day c.args.day) _ _ c.partition_point.ensures.partitioned parted (λ a r q k. search rules) in
    λ k d low high. lt_from_test (get_or c.args.needs.now k d).day c.args.day (point.0 k d low high)

pub returns-clause-from : goal.returns-clause-from
returns-clause-from c =
    let parted = days_are_partitioned c.args.needs.now c.args.day c.requires in
    let point = IsPartitionPoint-from_clause (λ need. int_lt need.day c.args.day) _ _ c.partition_point.ensures.partitioned parted (λ a r q k. search rules) in
    λ k d low high. le_from_lt_test (get_or c.args.needs.now k d).day c.args.day (point.1 k d low high)
