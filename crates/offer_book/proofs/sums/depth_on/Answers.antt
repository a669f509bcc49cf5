use Rattle.std.proofs.Common.{int_lt, rules, arith}
use Rattle.std.proofs.lemmas.List.Sorted.{IsPartitionPoint-from_clause}
use Rattle.offer_book.proofs.SumFacts.{days_are_partitioned, depth-at, depth-past}
use Rattle.offer_book.proofs.sums.depth_on.Goals as goal

pub returns-then-before-needs : goal.returns-then-before-needs
returns-then-before-needs c =
    let parted = days_are_partitioned c.args.needs.now c.args.day c.requires.rising in
    let point = IsPartitionPoint-from_clause (λ need. int_lt need.day c.args.day) _ _ c.partition_point-before.ensures.partitioned parted (λ a r q k. search rules) in
    let there = c.if-before-needs.true in
    let found = depth-at c.args.needs.now c.args.day c.partition_point-before.result there (λ k d less. point.0 k d (omega arith) less) (λ d. point.1 c.partition_point-before.result d (omega arith) there) in
    omega (arith, found)

pub returns-else-before-needs : goal.returns-else-before-needs
returns-else-before-needs c =
    let parted = days_are_partitioned c.args.needs.now c.args.day c.requires.rising in
    let point = IsPartitionPoint-from_clause (λ need. int_lt need.day c.args.day) _ _ c.partition_point-before.ensures.partitioned parted (λ a r q k. search rules) in
    let all = c.if-before-needs.false in
    let past = depth-past c.args.needs.now c.args.day (λ k d less. point.0 k d (omega arith) (omega (arith, all, less))) in
    omega (arith, all, c.partition_point-before.ensures.bound, past)
