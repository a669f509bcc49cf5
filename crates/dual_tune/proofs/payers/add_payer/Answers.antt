use Rattle.std.proofs.Common.{ap, get_or}
use Rattle.std.proofs.lemmas.List.Elements.{All-set}
use Rattle.dual_bound.proofs.TableFacts.{on-ok}
use Rattle.dual_tune.specs.Payers.{IsRisingTo}
use Rattle.dual_tune.specs.declared.payers.Payers.{Payers}
use Rattle.dual_tune.proofs.PayerFacts.{put-kept}
use Rattle.dual_tune.proofs.payers.add_payer.Goals as goal

pub returns-clause-rising : goal.returns-clause-rising
returns-clause-rising c =
    on-ok c.add.result c.add.ensures.rising
    (λ rising. All-set (λ (payers : Payers). IsRisingTo c.args.line payers.lines.items) c.args.by_date.now c.args.place c.add.new.self rising c.requires)

pub returns-clause-kept : goal.returns-clause-kept
returns-clause-kept c =
    let by_date = c.args.by_date.now in
    let place = c.args.place in
    let own = c.index-by_date-place.result in
    on-ok c.add.result c.add.ensures.kept
    (λ kept. put-kept by_date place (get_or by_date place own) c.add.new.self c.if-place-by_date.false (ap (λ (p : Payers). get_or by_date place p) c.index-by_date-place.is) kept)
