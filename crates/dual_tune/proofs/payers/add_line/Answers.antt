use Rattle.std.proofs.Common.{◌≡◌, ◌∙◌, get_or, length, subst, arith}
use Rattle.std.specs.List.{Contains}
use Rattle.std.proofs.lemmas.List.{get_or_default}
use Rattle.offer_book.specs.Schedule.{schedule_of}
use Rattle.payment_schedule.specs.declared.schedule.ScheduledPayment.{ScheduledPayment}
use Rattle.dual_tune.specs.Payers.{Serves}
use Rattle.dual_tune.proofs.PayerFacts.{added-all, added-more, added-none}
use Rattle.dual_tune.proofs.payers.add_line.Goals as goal

pub loop-payment-init : goal.loop-payment-init
loop-payment-init c = (
  c.requires.before.every_date,
  λ place e lt.
      added-none c.args.book.now c.args.line place c.as_slice-payment-items.result.now (get_or c.args.by_date.now place e).lines.items (c.requires.before.payers place e lt),
)

pub add_payer-requires : goal.add_payer-requires
add_payer-requires c = λ k d lt. (c.loop-payment.invariant.1 k d (omega (arith, lt, c.loop-payment.invariant.0))).rising

pub loop-payment-preserved : goal.loop-payment-preserved
loop-payment-preserved c =
    let items = c.as_slice-payment-items.result.now in
    let index = c.loop-payment.payment-index in
    let old = c.loop-payment.by_date in
    let new = c.add_payer.new.by_date in
    let count : length old ≡ length c.args.book.now.needs = c.loop-payment.invariant.0 in (
      omega (arith, count, c.add_payer.auto.by_date),
      λ place e lt.
          added-more c.args.book.now c.args.line place items index c.served.result (get_or old place e).lines.items (get_or new place e).lines.items (c.loop-payment.invariant.1 place e lt)
          (c.in_ok-add_payer.ensures.rising place e (omega (arith, lt, count, c.add_payer.auto.by_date)))
          (λ other has. c.in_ok-add_payer.ensures.kept place e other (omega (arith, lt, count)) has)
          (λ is.
          subst (λ k. Contains (get_or new k e).lines.items c.args.line) is (c.in_ok-add_payer.ensures.there e (omega (arith, is, lt, count))))
          (λ d.
          let item : c.payment-item.result ≡ get_or items index d = c.payment-item.is ∙ get_or_default items index c.payment-item.result d c.loop-payment-test.true in
          subst (λ (p : ScheduledPayment). Serves c.args.book.now.needs p.day c.served.result) item
          (subst (λ needs. Serves needs c.payment-item.result.day c.served.result) c.needs-needs.ensures.value c.served.ensures)),
    )

pub returns : goal.returns
returns c =
    let items = c.as_slice-payment-items.result.now in
    let book = c.args.book.now in
    record {
      after = record {
        every_date = c.loop-payment.invariant.0;
        payers = λ place e lt.
            added-all book c.args.line place items c.loop-payment.payment-index (get_or c.loop-payment.by_date place e).lines.items (c.loop-payment.invariant.1 place e lt)
            (omega (arith, c.loop-payment-test.false))
            (λ d.
            let line = c.line.ensures ∙ get_or_default book.lines c.args.line c.line.result.now d c.requires.line in
            c.as_slice-payment-items.ensures.value ∙ c.schedule.ensures.value ∙ (λ i. schedule_of (c.payment_days.ensures i) (line i)));
      };
    }
