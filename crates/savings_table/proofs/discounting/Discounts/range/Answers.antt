use Rattle.std.proofs.Common.{rules, subst, sym, ◌≡◌}
use Rattle.escrow_units.specs.Flows.{indexed}
use Rattle.savings_table.specs.PresentRange.{LiesInRange, present_range}
use Rattle.savings_table.specs.declared.discounting.PvRange.{PvRange}
use Rattle.savings_table.proofs.RangeFacts.{range-lies}
use Rattle.savings_table.proofs.discounting.Discounts.range.Goals as goal

pub returns-clause-exact : goal.returns-clause-exact
returns-clause-exact c =
    let value : record { lo = c.cents_down.result; hi = c.cents_up.result } ≡ present_range c.args.settle c.args.self.now c.args.flows.now = search rules in
    subst (λ (range : PvRange). LiesInRange c.args.self.now (indexed c.args.settle c.args.flows.now) range) (sym value)
    (range-lies c.args.settle c.args.self.now c.args.flows.now)
