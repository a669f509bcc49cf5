use Rattle.std.proofs.Common.{◌≡◌, ◌<◌, get_or, length, rules, subst, sym}
use Rattle.plan_finder.specs.Ledger.{LedgerContents}
use Rattle.plan_finder.proofs.LedgerFacts.{held-little}
use Rattle.plan_finder.proofs.ledger.Ledger.held.Goals as goal

pub returns : goal.returns
returns c =
    let account = c.self.inside.account in
    let within = subst (λ (l : LedgerContents). c.args.line < length l.book.lines) (sym c.self.view_is) c.requires in
    let at : c.index.result.now ≡ get_or account.held.items c.args.line c.index.result.now = search rules in
    held-little c.self.inside.yield_units.0 c.self.inside.book.now account.plan account.held.items c.args.line c.index.result.now c.self.invariant.limits c.self.invariant.permitted c.self.invariant.held within at
