use Rattle.std.proofs.Common.{rules, ◌≡◌, get_or, arith, ◌≤ℤ◌}
use Rattle.cash_table.proofs.ReceiptFacts.{all-from}
use Rattle.cash_table.proofs.cash.place_near.Goals as goal

pub returns-else-lt-clause-from : goal.returns-else-lt-clause-from
returns-else-lt-clause-from c =
    let later : c.args.day ≤ℤ c.index-needs-place.result.day = search rules in
    let at : c.index-needs-place.result ≡ get_or c.args.needs.now c.loop-place.place c.index-needs-place.result = search rules in
    all-from c.args.needs.now c.args.day c.loop-place.place c.index-needs-place.result c.requires (omega arith) at later
