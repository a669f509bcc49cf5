use Rattle.std.proofs.Common.{◌≤ℤ◌, ap, arith}
use Rattle.std.proofs.lemmas.Int.{ints}
use Rattle.std.proofs.lemmas.List.Elements.{All-same}
use Rattle.escrow_units.specs.Calendar.{years_after_of}
use Rattle.payment_schedule.specs.declared.schedule.ScheduledPayment.{ScheduledPayment}
use Rattle.dual_bound.specs.Columns.{paying}
use Rattle.dual_bound.proofs.ColumnMade.{extends-on, keeps-on, made, made-small, one-more, paying-within}
use Rattle.dual_bound.proofs.column.Column.put_all.Goals as goal

pub place-requires-clause-from : goal.place-requires-clause-from
place-requires-clause-from c =
    let within = All-same (λ (p : ScheduledPayment). (c.args.book.now.days.settle ≤ℤ p.day) × (p.day ≤ℤ years_after_of c.args.book.now.days.settle 40)) c.args.payments.now (paying c.args.book.now.days c.args.line.now)
    c.requires.payments (paying-within c.args.book.now.days c.args.line.now c.requires.limits.settlement c.requires.line)
    c.loop-payment.payment-index c.payment-item.result c.loop-payment-test.true in
    omega (arith, ints, ap (λ (p : ScheduledPayment). p.day) c.payment-item.is, within.0)

pub place-requires-clause-to : goal.place-requires-clause-to
place-requires-clause-to c =
    let within = All-same (λ (p : ScheduledPayment). (c.args.book.now.days.settle ≤ℤ p.day) × (p.day ≤ℤ years_after_of c.args.book.now.days.settle 40)) c.args.payments.now (paying c.args.book.now.days c.args.line.now)
    c.requires.payments (paying-within c.args.book.now.days c.args.line.now c.requires.limits.settlement c.requires.line)
    c.loop-payment.payment-index c.payment-item.result c.loop-payment-test.true in
    omega (arith, ints, ap (λ (p : ScheduledPayment). p.day) c.payment-item.is, within.1)

pub loop-payment-preserved : goal.loop-payment-preserved
loop-payment-preserved c = record {
  table = c.in_ok-place.ensures.table;
  extends = extends-on c.args.table.now.days.items c.loop-payment.table.days.items c.place.new.self.days.items c.loop-payment.invariant.extends c.in_ok-place.ensures.extends;
  more = omega (arith, c.loop-payment.invariant.more, c.in_ok-place.ensures.more);
  head = keeps-on c.args.self.now c.loop-payment.self c.put.new.self c.loop-payment.invariant.head c.in_ok-put.ensures.head;
  so_far = one-more c.args.powers.now.yield_units c.args.book.now c.loop-payment.table.days.items c.place.new.self.days.items c.args.line.now c.args.payments.now
      c.loop-payment.payment-index c.payment-item.result c.in_ok-place.place c.loop-payment.self c.put.new.self c.loop-payment-test.true c.payment-item.is c.in_ok-place.ensures.extends
      c.loop-payment.invariant.so_far c.in_ok-place.ensures.place c.in_ok-put.ensures.places c.in_ok-put.ensures.others c.in_ok-put.ensures.small;
}

pub returns : goal.returns
returns c =
    record {
      table = c.loop-payment.invariant.table;
      extends = c.loop-payment.invariant.extends;
      more = omega (arith, c.loop-payment.invariant.more, c.requires.few, c.loop-payment.auto.payment-index-end);
      column = made c.args.powers.now.yield_units c.args.book.now c.loop-payment.table.days.items c.args.line.now c.args.payments.now c.loop-payment.payment-index
          c.args.self.now c.loop-payment.self c.requires.payments c.loop-payment-test.false c.requires.head c.loop-payment.invariant.head c.loop-payment.invariant.so_far;
      small = made-small c.args.powers.now.yield_units c.args.book.now c.loop-payment.table.days.items c.args.line.now c.args.payments.now c.loop-payment.payment-index
          c.args.self.now c.loop-payment.self (omega (arith, c.requires.few, c.loop-payment.auto.payment-index-end)) c.requires.head c.loop-payment.invariant.head c.loop-payment.invariant.so_far;
    }
