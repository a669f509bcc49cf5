use Rattle.std.proofs.Common.{rules, arith}
use Rattle.std.proofs.lemmas.List.{get_or-replicate}
use Rattle.plan_finder.proofs.MakeFacts.{make-ledger}
use Rattle.plan_finder.proofs.account.Account.make.Goals as goal

pub returns : goal.returns
returns c =
    make-ledger c.args.powers.now.yield_units c.args.book.now _ c.needs.ensures.limits c.in_ok-zero.ensures c.in_ok-terms.ensures
    (c.in_ok-held.ensures c.args.powers.now.yield_units (rw c.as_slice.ensures.value c.in_ok-terms.ensures)) (search rules) (λ k within. rw c.in_ok-new-2.ensures.ok (get_or-replicate 480 k 0 0 (omega (arith, within, c.needs.ensures.limits.needs.few)))) (search rules) (search rules)
