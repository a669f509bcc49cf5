use Rattle.std.proofs.Common.{◌≡◌, subst, sym, rules, IfOk}
use Rattle.std.proofs.lemmas.Result.{IfOk-weaker}
use Rattle.escrow_units.proofs.YearFacts.{years-follow}
use Rattle.day_sums.specs.Summed.{summed}
use Rattle.held_escrow.specs.Holdings.{AreHoldings}
use Rattle.held_escrow.proofs.HoldingFacts.{are-holdings}
use Rattle.held_escrow.proofs.held.summed_by_day.Goals as goal

pub between-requires : goal.between-requires
between-requires c = rw c.years_after.ensures (years-follow c.args.settle c.requires.settlement)

pub returns-clause-kept : goal.returns-clause-kept
returns-clause-kept c =
    let value : IfOk c.into_flows.result (λ held. held.items ≡ summed c.args.receipts.now) = search rules in
    IfOk-weaker c.into_flows.result (λ held. held.items ≡ summed c.args.receipts.now) (λ held. AreHoldings c.args.settle held.items)
    (λ held is. subst (AreHoldings c.args.settle) (sym is) (are-holdings c.args.settle c.args.receipts.now c.requires.within c.requires.small)) value
