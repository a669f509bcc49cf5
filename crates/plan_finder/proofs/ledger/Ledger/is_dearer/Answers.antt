use Rattle.std.proofs.Common.{◌≡◌, ◌+◌, ◌*◌, ◌/◌, ◌^◌, ◌<◌, ap, arith, nat_lt, rules, subst, IsTrue}
use Rattle.std.specs.Prelude.{◌↔◌}
use Rattle.offer_book.specs.Portfolio.{security_cost}
use Rattle.cash_table.specs.Points.{low_value}
use Rattle.cash_table.proofs.CostFacts.{cost_is}
use Rattle.fixed_powers.specs.DiscountPowers.{one}
use Rattle.plan_finder.specs.Ledger.{LedgerContents}
use Rattle.plan_finder.proofs.WorthFacts.{less_test, plan_worth-low}
use Rattle.plan_finder.proofs.ledger.Ledger.is_dearer.Goals as goal

pub returns : goal.returns
returns c =
    let n = c.self.inside.yield_units.0 in
    let book = c.self.inside.book.now in
    let account = c.self.inside.account in
    let plan = account.plan in
    let cost = c.from-security_cost.result in
    let own : cost ≡ security_cost book plan = omega (arith, c.from-security_cost.ensures, c.get.ensures, c.self.invariant.cost, cost_is book plan c.self.invariant.limits c.self.invariant.permitted) in
    let scale : c.from.result ≡ one = search rules in
    subst (λ (l : LedgerContents). IsTrue (nat_lt (c.from.result * (cost + cost / 10 ^ 8)) account.worth) ↔ (one * (security_cost l.book l.plan + security_cost l.book l.plan / 10 ^ 8) < low_value l.book l.yield_units l.plan)) c.self.view_is
    (less_test c.from.result (cost + cost / 10 ^ 8) account.worth one (security_cost book plan + security_cost book plan / 10 ^ 8) (low_value book n plan) scale
    (ap (λ s. s + s / 10 ^ 8) own) (plan_worth-low n book plan account.worth c.self.invariant.limits c.self.invariant.worth))
