use Rattle.std.proofs.Common.{rules}
use Rattle.rate_table.proofs.OverlapFacts.{latest-from_last}
use Rattle.rate_table.proofs.index.latest_by.Goals as goal

pub returns-in-Some : goal.returns-in-Some
returns-in-Some c =
    latest-from_last c.args.by_first.now c.args.day c.range.result c.next_back.new.self c.in-Some.field-0-0.now c.in-Some.range.now (search rules) c.in-Some.ensures.steps
