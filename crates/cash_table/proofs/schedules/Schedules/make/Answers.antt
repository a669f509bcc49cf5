use Rattle.std.proofs.Common.{◌∙◌, ap, map, refl}
use Rattle.std.proofs.lemmas.List.{take_all}
use Rattle.cash_table.specs.Schedules.{kept_of}
use Rattle.cash_table.proofs.ScheduledFacts.{kept-more}
use Rattle.cash_table.proofs.schedules.Schedules.make.Goals as goal

pub loop-line-init : goal.loop-line-init
loop-line-init c = rw c.in_ok-lines.ensures.items refl

pub loop-line-preserved : goal.loop-line-preserved
loop-line-preserved c =
    kept-more (λ kept. kept.items) c.args.book.now.days c.lines-line-items.result.now c.loop-line.line-index c.line-item.result c.loop-line.lines.items c.push.new.self.items c.in_ok-kept.field-0
    c.loop-line-test.true c.line-item.is c.loop-line.invariant (rw c.payment_days.ensures at c.in_ok-kept.ensures) c.in_ok-push.ensures.items

pub returns : goal.returns
returns c =
    c.loop-line.invariant ∙ ap (map (kept_of c.args.book.now.days)) (take_all c.loop-line.line-index c.lines-line-items.result.now c.loop-line-test.false ∙ c.lines-line-items.ensures.value)
