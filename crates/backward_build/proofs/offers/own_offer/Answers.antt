use Rattle.std.proofs.Common.{◌∙◌, sym, subst, ap, arith}
use Rattle.escrow_units.specs.declared.security.Flow.{Flow}
use Rattle.offer_book.specs.Book.{IsLine}
use Rattle.cash_table.proofs.PaymentFacts.{all_lines}
use Rattle.backward_build.specs.OwnOffer.{own_offer_of}
use Rattle.backward_build.proofs.OfferFacts.{fail_more, need_read, own_found, own_none, own_security}
use Rattle.backward_build.proofs.offers.own_offer.Goals as goal

pub ends_on-requires-clause-settlement : goal.ends_on-requires-clause-settlement
ends_on-requires-clause-settlement c = rw c.payment_days.ensures c.line_count-number-end.ensures.limits.settlement

pub ends_on-requires-clause-line : goal.ends_on-requires-clause-line
ends_on-requires-clause-line c =
    rw c.payment_days.ensures (subst (IsLine c.args.book.now.days) (sym c.line.ensures)
    (all_lines c.args.book.now.days c.args.book.now.lines c.line_count-number-end.ensures.limits.lines c.loop-number.number c.line.result.now (omega arith)))

pub returns-then-ends_on-clause-value : goal.returns-then-ends_on-clause-value
returns-then-ends_on-clause-value c =
    let need = need_read c.args.book.now.needs c.args.place c.need-day.result c.requires c.need-day.ensures in
    sym (
    ap (λ (n : Flow). own_offer_of c.args.book.now n.day) (sym need)
    ∙ own_found c.args.book.now c.need-day.result.day c.loop-number.number c.line.result.now (omega arith) c.line.ensures c.loop-number.invariant (sym (rw c.payment_days.ensures at c.ends_on.ensures) ∙ c.if-ends_on.true)
    )

pub returns-then-ends_on-clause-security : goal.returns-then-ends_on-clause-security
returns-then-ends_on-clause-security c =
    own_security c.args.book.now _ c.loop-number.number c.line_count-number-end.ensures.limits.lines (sym (returns-then-ends_on-clause-value c))

pub loop-number-preserved : goal.loop-number-preserved
loop-number-preserved c =
    fail_more c.args.book.now.days c.need-day.result.day c.args.book.now.lines c.loop-number.number c.line.result.now (omega arith) c.line.ensures (sym (rw c.payment_days.ensures at c.ends_on.ensures) ∙ c.if-ends_on.false) c.loop-number.invariant

pub returns-clause-value : goal.returns-clause-value
returns-clause-value c =
    let need = need_read c.args.book.now.needs c.args.place c.need-day.result c.requires c.need-day.ensures in
    sym (
    ap (λ (n : Flow). own_offer_of c.args.book.now n.day) (sym need)
    ∙ own_none c.args.book.now c.need-day.result.day c.loop-number.number (omega arith) c.loop-number.invariant
    )
