use Rattle.std.proofs.Common.{◌≡◌, ◌∙◌, ◌==◌, All, true, false, ap, subst, sym, arith}
use Rattle.std.proofs.lemmas.Bool.Decides.{nat_tests}
use Rattle.std.proofs.lemmas.List.Elements.{All-filter}
use Rattle.std.specs.List.{filter}
use Rattle.payment_schedule.specs.Schedule.{IsShort}
use Rattle.payment_schedule.specs.declared.schedule.ScheduledPayment.{ScheduledPayment}
use Rattle.offer_book.specs.Schedule.{kind_rate, schedule_of}
use Rattle.offer_book.specs.declared.payment_days.PaymentDays.{PaymentDays}
use Rattle.offer_book.proofs.ScheduleFacts.{schedule-short}
use Rattle.cash_table.proofs.ScheduledFacts.{kept-all, kept-few}
use Rattle.dual_bound.specs.Columns.{HasHead, is_principal}
use Rattle.dual_bound.proofs.PayingFacts.{all-pay, principal-pays}
use Rattle.dual_bound.proofs.column.Column.make.Goals as goal

pub put_all-requires : goal.put_all-requires
put_all-requires c =
    let days : PaymentDays = c.args.book.now.days in
    let schedule = schedule_of days c.args.line.now in
    let none : (kind_rate c.args.line.now.kind == 0) ≡ true = grind (arith, nat_tests) in
    let principal : c.as_slice.result.now ≡ filter is_principal (schedule_of c.args.book.now.days c.args.line.now) =
    c.as_slice.ensures.value ∙ c.principal_of-principal.ensures ∙ ap (λ (ds : PaymentDays). filter is_principal (schedule_of ds c.args.line.now)) c.payment_days-then-rate-eq0.ensures in
    let P : ScheduledPayment → Type 0 = λ payment. IsShort payment.accrual in
    record {
      limits = c.requires.limits;
      powers = c.requires.powers;
      line = c.requires.line;
      room = c.requires.few;
      table = c.requires.table;
      payments = principal ∙ sym (principal-pays (kind_rate c.args.line.now.kind) schedule none);
      few = c.as_slice.ensures.fits;
      short = subst (All P) (sym principal) (All-filter is_principal P schedule (schedule-short days c.args.line.now c.requires.limits.settlement c.requires.line));
      head = subst (λ (ds : PaymentDays). HasHead ds.settle c.args.line.now c.in_ok-column.column) c.payment_days.ensures c.in_ok-column.ensures.head;
      places = c.in_ok-column.ensures.places;
      others = c.in_ok-column.ensures.others;
    }

pub put_all-requires-2 : goal.put_all-requires-2
put_all-requires-2 c =
    let days : PaymentDays = c.args.book.now.days in
    let schedule = schedule_of days c.args.line.now in
    let some : (kind_rate c.args.line.now.kind == 0) ≡ false = grind (arith, nat_tests) in
    let all : c.args.kept.now ≡ schedule_of c.args.book.now.days c.args.line.now = c.requires.kept ∙ kept-all days c.args.line.now some in
    let P : ScheduledPayment → Type 0 = λ payment. IsShort payment.accrual in
    record {
      limits = c.requires.limits;
      powers = c.requires.powers;
      line = c.requires.line;
      room = c.requires.few;
      table = c.requires.table;
      payments = all ∙ sym (all-pay (kind_rate c.args.line.now.kind) schedule some);
      few = rw c.requires.kept (kept-few days c.args.line.now c.requires.limits.settlement c.requires.line);
      short = subst (All P) (sym all) (schedule-short days c.args.line.now c.requires.limits.settlement c.requires.line);
      head = subst (λ (ds : PaymentDays). HasHead ds.settle c.args.line.now c.in_ok-column.column) c.payment_days.ensures c.in_ok-column.ensures.head;
      places = c.in_ok-column.ensures.places;
      others = c.in_ok-column.ensures.others;
    }
