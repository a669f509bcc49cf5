use Rattle.std.proofs.Common.{◌∙◌, ◌++◌, List, ℕ, ap, sym}
use Rattle.bound_certificate.proofs.WholeFacts.{empty-part, line-ended, line-err, line-ok, short-part}
use Rattle.bound_certificate.proofs.text_reading.TextReading.take_whole.Goals as goal

pub returns-then-is_empty-clause-ok : goal.returns-then-is_empty-clause-ok
returns-then-is_empty-clause-ok c =
    line-ok c.dates_of-dates.result _ c.args.self.now.stage c.args.self.now.vectors _ c.args.front.now c.args.front.now c.args.self.now.part _ _ c.dates_of-dates.ensures
    (λ part is. ap (λ (bs : List ℕ). bs ++ c.args.front.now) (sym (empty-part part c.args.self.now.part is c.if-is_empty.ensures))) c.take_step.ensures.ok

pub returns-then-is_empty-clause-err : goal.returns-then-is_empty-clause-err
returns-then-is_empty-clause-err c =
    line-err c.dates_of-dates.result _ c.args.self.now.stage c.args.self.now.vectors c.args.front.now c.args.front.now c.args.self.now.part _ c.dates_of-dates.ensures
    (λ part is. ap (λ (bs : List ℕ). bs ++ c.args.front.now) (sym (empty-part part c.args.self.now.part is c.if-is_empty.ensures))) c.take_step.ensures.err

pub returns-clause-ok : goal.returns-clause-ok
returns-clause-ok c =
    line-ok c.dates_of-dates.result _ c.args.self.now.stage c.args.self.now.vectors _ c.head-2.result.now c.args.front.now c.args.self.now.part _ _ c.dates_of-dates.ensures
    (λ part is. c.head-2.ensures ∙ short-part (part ++ c.args.front.now) c.add.new.self (c.add.ensures part is) c.if-is_long.ensures) c.take_step-2.ensures.ok

pub returns-clause-err : goal.returns-clause-err
returns-clause-err c =
    line-err c.dates_of-dates.result _ c.args.self.now.stage c.args.self.now.vectors c.head-2.result.now c.args.front.now c.args.self.now.part _ c.dates_of-dates.ensures
    (λ part is. c.head-2.ensures ∙ short-part (part ++ c.args.front.now) c.add.new.self (c.add.ensures part is) c.if-is_long.ensures) c.take_step-2.ensures.err

pub returns-then-is_empty-clause-ended : goal.returns-then-is_empty-clause-ended
returns-then-is_empty-clause-ended c =
    line-ended c.dates_of-dates.result c.args.self.now.stage c.args.self.now.vectors _ c.args.front.now _ _ c.take_step.ensures.ok

pub returns-clause-ended : goal.returns-clause-ended
returns-clause-ended c =
    line-ended c.dates_of-dates.result c.args.self.now.stage c.args.self.now.vectors _ c.head-2.result.now _ _ c.take_step-2.ensures.ok
