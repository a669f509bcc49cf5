use Rattle.std.proofs.Common.{◌≡◌, ◌∙◌, sym, ap, arith, Some, None, Ok, Err}
use Rattle.escrow_units.specs.Flows.{total}
use Rattle.escrow_units.specs.declared.security.Flow.{Flow}
use Rattle.cash_table.proofs.PaymentFacts.{payments_at_most}
use Rattle.offer_book.specs.CaseBook.{cash_line}
use Rattle.offer_book.specs.Portfolio.{line_payments}
use Rattle.backward_build.specs.BackwardPlan.{bought, put_or_over, residual_of}
use Rattle.backward_build.specs.OwnOffer.{line_at, need_at, own_offer_of}
use Rattle.backward_build.specs.Residual.{fewest_of}
use Rattle.backward_build.specs.declared.backward.BuildEnd.TheVariants.{NoOwnOffer}
use Rattle.backward_build.proofs.OfferFacts.{line_read, need_read}
use Rattle.backward_build.proofs.PlanFacts.{AreAdded, IsPurchase, left_is, under_way_next, with_own}
use Rattle.backward_build.proofs.backward.buy_own.Goals as goal

pub returns-in_default-clause-ended : goal.returns-in_default-clause-ended
returns-in_default-clause-ended c =
    let none : own_offer_of c.args.book.now (need_at c.args.book.now.needs c.args.place).day ≡ None = sym c.own_offer.ensures.value ∙ c.in_default.is in
    let need = need_read c.args.book.now.needs c.args.place c.need.result c.requires.place c.need.ensures in
    ap (bought c.args.book.now c.args.place c.args.plan.now) none ∙ ap (λ (n : Flow). Err (NoOwnOffer n.day)) (sym need)

pub returns-in_default-fewest-clause-ended : goal.returns-in_default-fewest-clause-ended
returns-in_default-fewest-clause-ended c =
    let own : own_offer_of c.args.book.now (need_at c.args.book.now.needs c.args.place).day ≡ Some c.in-Some.number = sym c.own_offer.ensures.value ∙ c.in-Some.is in
    let left = left_is c.args.book.now c.args.place c.args.plan.now c.args.received.now c.from.result c.left_of-left.result c.needs-needs.ensures.limits.needs.rising c.requires.place c.requires.room c.requires.under_way c.from.ensures c.left_of-left.ensures in
    let line = line_read c.args.book.now.lines c.in-Some.number c.line.result.now c.in-Some.ensures.within c.line.ensures in
    let few : fewest_of c.args.book.now.days (residual_of c.args.book.now c.args.plan.now c.args.place) (line_at c.args.book.now.lines c.in-Some.number) ≡ None =
    rw (c.payment_days.ensures, left, line) at (sym c.fewest.ensures.value ∙ c.in_default-fewest.is) in
    ap (bought c.args.book.now c.args.place c.args.plan.now) own ∙ ap (put_or_over c.args.plan.now c.in-Some.number) few

pub add_receipts-requires-clause-room : goal.add_receipts-requires-clause-room
add_receipts-requires-clause-room c =
    let small = payments_at_most c.args.book.now c.args.plan.now c.needs-needs.ensures.limits c.requires.under_way.permitted in
    let pays = ap total c.as_slice.ensures.value in
    omega (arith, small, pays, c.requires.under_way.little, c.line_payments.ensures.bound)

pub returns-clause-bought : goal.returns-clause-bought
returns-clause-bought c =
    let own : own_offer_of c.args.book.now (need_at c.args.book.now.needs c.args.place).day ≡ Some c.in-Some.number = sym c.own_offer.ensures.value ∙ c.in-Some.is in
    let left = left_is c.args.book.now c.args.place c.args.plan.now c.args.received.now c.from.result c.left_of-left.result c.needs-needs.ensures.limits.needs.rising c.requires.place c.requires.room c.requires.under_way c.from.ensures c.left_of-left.ensures in
    let line = line_read c.args.book.now.lines c.in-Some.number c.line.result.now c.in-Some.ensures.within c.line.ensures in
    let few : fewest_of c.args.book.now.days (residual_of c.args.book.now c.args.plan.now c.args.place) (line_at c.args.book.now.lines c.in-Some.number) ≡ Some c.in-Some-fewest.units =
    rw (c.payment_days.ensures, left, line) at (sym c.fewest.ensures.value ∙ c.in-Some-fewest.is) in
    with_own c.args.book.now c.args.place c.args.plan.now c.in-Some.number c.in-Some-fewest.units own few ∙ ap Ok (sym c.put.ensures)

pub returns-clause-under_way : goal.returns-clause-under_way
returns-clause-under_way c =
    let left = left_is c.args.book.now c.args.place c.args.plan.now c.args.received.now c.from.result c.left_of-left.result c.needs-needs.ensures.limits.needs.rising c.requires.place c.requires.room c.requires.under_way c.from.ensures c.left_of-left.ensures in
    let line = line_read c.args.book.now.lines c.in-Some.number c.line.result.now c.in-Some.ensures.within c.line.ensures in
    let pays : c.as_slice.result.now ≡ line_payments c.args.book.now.days (line_at c.args.book.now.lines c.in-Some.number) c.in-Some-fewest.units = c.as_slice.ensures.value ∙ c.line_payments.ensures.value (cash_line 0) in
    let purchase : IsPurchase c.args.book.now c.args.place c.args.plan.now c.in-Some.number c.in-Some-fewest.units = record {
      within = c.requires.place;
      rising = c.needs-needs.ensures.limits.needs.rising;
      own = c.in-Some.ensures.within;
      due = c.in-Some.ensures.due;
      permitted = rw line at c.in-Some-fewest.ensures.permitted;
      enough = rw (c.payment_days.ensures, left, line) at c.in-Some-fewest.ensures.enough;
    } in
    let added : AreAdded c.args.book.now (line_payments c.args.book.now.days (line_at c.args.book.now.lines c.in-Some.number) c.in-Some-fewest.units) c.args.received.now c.add_receipts.new.receipts = record {
      room = omega (arith, c.requires.room, c.add_receipts.auto.receipts);
      by_day = rw (c.needs-needs.ensures.value, pays) at c.add_receipts.ensures.by_day;
      whole = rw pays at c.add_receipts.ensures.whole;
    } in
    rw c.put.ensures (under_way_next c.args.book.now c.args.place c.args.plan.now c.args.received.now c.add_receipts.new.receipts c.in-Some.number c.in-Some-fewest.units c.requires.room c.requires.under_way purchase added)
