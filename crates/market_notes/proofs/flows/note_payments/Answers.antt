use Rattle.std.proofs.Common.{◌∙◌, ap, sym, subst}
use Rattle.escrow_units.specs.Flows.{ComeInOrder, EndsOn, FallOnOpenDays, FallWithin}
use Rattle.escrow_units.specs.OpenDays.{open_day}
use Rattle.market_notes.specs.NoteLaws.{AreAfterSettlement, KeepAmounts, PayFaceOnce, PayNoLessForMore}
use Rattle.market_notes.proofs.FlowFacts.{payments-order, payments-open, payments-after, payments-amounts, payments-end, payments-face, payments-more, payments-term}
use Rattle.escrow_units.specs.declared.security.StepRule.TheVariants as rule
use Rattle.escrow_units.proofs.SeriesAround.{counted}
use Rattle.market_notes.proofs.SeriesFacts.{term}
use Rattle.payment_schedule.proofs.ScheduleFacts.{flows_by}
use Rattle.market_notes.proofs.flows.note_payments.Goals as goal

pub returns-clause-payments : goal.returns-clause-payments
returns-clause-payments c =
    c.scheduled_flows.ensures ∙ ap (flows_by c.args.note.now.coupon.0 c.args.face.0) (c.as_slice.ensures.value ∙ c.note_schedule-schedule.ensures.value)

pub returns-clause-order : goal.returns-clause-order
returns-clause-order c =
    let t = term c.args.note.now c.requires.note in
    let p = counted c.args.note.now.maturity rule.MonthEnd c.args.note.now.settle t c.requires.note.after in
    subst ComeInOrder (sym (returns-clause-payments c)) (payments-order c.args.note.now c.args.closed.now c.args.face.0 p.count t p.has)

pub returns-clause-after_settlement : goal.returns-clause-after_settlement
returns-clause-after_settlement c =
    subst (AreAfterSettlement c.args.note.now c.args.closed.now) (sym (returns-clause-payments c)) (payments-after c.args.note.now c.args.closed.now c.args.face.0 (term c.args.note.now c.requires.note))

pub returns-clause-end_at_maturity : goal.returns-clause-end_at_maturity
returns-clause-end_at_maturity c =
    let t = term c.args.note.now c.requires.note in
    let p = counted c.args.note.now.maturity rule.MonthEnd c.args.note.now.settle t c.requires.note.after in
    subst (EndsOn (open_day c.args.closed.now c.args.note.now.maturity)) (sym (returns-clause-payments c)) (payments-end c.args.note.now c.args.closed.now c.args.face.0 p.count t p.has)

pub returns-clause-face_once : goal.returns-clause-face_once
returns-clause-face_once c =
    let t = term c.args.note.now c.requires.note in
    let p = counted c.args.note.now.maturity rule.MonthEnd c.args.note.now.settle t c.requires.note.after in
    subst (PayFaceOnce c.args.note.now c.args.face.0) (sym (returns-clause-payments c)) (payments-face c.args.note.now c.args.closed.now c.args.face.0 p.count t p.has)

pub returns-clause-more_face : goal.returns-clause-more_face
returns-clause-more_face c =
    subst (PayNoLessForMore c.args.note.now c.args.closed.now c.args.face.0) (sym (returns-clause-payments c)) (payments-more c.args.note.now c.args.closed.now c.args.face.0)

pub returns-clause-open_days : goal.returns-clause-open_days
returns-clause-open_days c =
    subst (FallOnOpenDays c.args.closed.now) (sym (returns-clause-payments c)) (payments-open c.args.note.now c.args.closed.now c.args.face.0)

pub returns-clause-within_term : goal.returns-clause-within_term
returns-clause-within_term c =
    subst (FallWithin c.args.note.now.settle (open_day c.args.closed.now c.args.note.now.maturity)) (sym (returns-clause-payments c))
    (payments-term c.args.note.now c.args.closed.now c.args.face.0 (term c.args.note.now c.requires.note))

pub returns-clause-amounts : goal.returns-clause-amounts
returns-clause-amounts c =
    subst (KeepAmounts c.args.note.now c.args.face.0) (sym (returns-clause-payments c)) (payments-amounts c.args.note.now c.args.closed.now c.args.face.0)
