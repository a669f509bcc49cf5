use Rattle.std.proofs.Common.{◌≡◌, ◌∙◌, ◌-◌, ℕ, length, true, not, sym, ap, arith, Some, is_none}
use Rattle.escrow_units.specs.declared.security.Flow.{Flow}
use Rattle.backward_build.specs.OwnOffer.{need_at, own_offer_of}
use Rattle.backward_build.proofs.OfferFacts.{need_read}
use Rattle.backward_build.proofs.PlanFacts.{have_more, lacks_offer, latest_found, latest_none}
use Rattle.backward_build.proofs.backward.latest_without_offer.Goals as goal

pub returns-then-is_none : goal.returns-then-is_none
returns-then-is_none c =
    let place : ℕ = length c.args.book.now.needs - 1 - c.loop-later.later in
    let own : c.own_offer.result ≡ own_offer_of c.args.book.now (need_at c.args.book.now.needs place).day = rw c.need_count.ensures.value at c.own_offer.ensures.value in
    let lacks : lacks_offer c.args.book.now (need_at c.args.book.now.needs place).day ≡ true = ap is_none (sym own) ∙ ap not (c.is_none.ensures ∙ ap not c.if-is_none.true) in
    let need : c.need.result ≡ need_at c.args.book.now.needs place = need_read c.args.book.now.needs place c.need.result (omega arith) (rw c.need_count.ensures.value at c.need.ensures) in
    sym (latest_found c.args.book.now c.loop-later.later (omega arith) c.loop-later.invariant lacks ∙ ap (λ (n : Flow). Some n.day) (sym need))

pub loop-later-preserved : goal.loop-later-preserved
loop-later-preserved c =
    let place : ℕ = length c.args.book.now.needs - 1 - c.loop-later.later in
    let own : c.own_offer.result ≡ own_offer_of c.args.book.now (need_at c.args.book.now.needs place).day = rw c.need_count.ensures.value at c.own_offer.ensures.value in
    have_more c.args.book.now c.loop-later.later c.loop-later.invariant (ap is_none (sym own) ∙ ap not (c.is_none.ensures ∙ ap not c.if-is_none.false))

pub returns : goal.returns
returns c = sym (latest_none c.args.book.now c.loop-later.later (omega arith) c.loop-later.invariant)
