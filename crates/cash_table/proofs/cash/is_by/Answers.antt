use Rattle.std.proofs.Common.{rules, ◌≡◌, ◌-◌, get_or, arith, ◌<ℤ◌}
use Rattle.cash_table.proofs.ReceiptFacts.{all-before}
use Rattle.cash_table.proofs.cash.is_by.Goals as goal

pub returns-then-place-needs-clause-before : goal.returns-then-place-needs-clause-before
returns-then-place-needs-clause-before c = λ yes.
    let last : c.index-needs-place.result.day <ℤ c.args.day = search rules in
    let at : c.index-needs-place.result ≡ get_or c.args.needs.now (c.args.place - 1) c.index-needs-place.result = search rules in
    all-before c.args.needs.now c.args.day c.args.place c.index-needs-place.result c.requires (omega arith) (omega arith) at last
