use Rattle.std.proofs.Common.{◌≡◌, ◌<◌, ap, get_or, length, subst, arith}
use Rattle.backward_build.proofs.TrimFacts.{some_need}
use Rattle.cash_table.proofs.DayFacts.{met_on_every_day}
use Rattle.offer_book.specs.Portfolio.{Meets, payments}
use Rattle.plan_finder.specs.Ledger.{LedgerContents}
use Rattle.plan_finder.proofs.ledger.Ledger.first_short.Goals as goal

pub returns-clause-none : goal.returns-clause-none
returns-clause-none c =
    let book = c.self.inside.book.now in
    let ledger = c.self.invariant in
    subst (λ (l : LedgerContents). Meets l.book l.plan) c.self.view_is
    (λ t. met_on_every_day book.needs (payments book c.self.inside.account.plan) t (λ k d within _.
    omega (arith, ledger.needed k d within, ledger.received k d within, c.loop-place.invariant k (omega (arith, within, c.need_count-place-end.ensures.value)))))

pub returns-then-deref-from-clause-some : goal.returns-then-deref-from-clause-some
returns-then-deref-from-clause-some c =
    let book = c.self.inside.book.now in
    let account = c.self.inside.account in
    let place = c.loop-place.place in
    let within : place < length book.needs = omega (arith, c.loop-place-test.true, c.loop-place.auto.place-end, c.need_count-place-end.ensures.value) in
    let received : get_or c.deref.result.now c.from.result 0 ≡ get_or account.received.value place 0 = rw c.from.ensures (ap (λ l. get_or l place 0) c.deref.ensures) in
    let needed : get_or c.deref-in-loop-place.result.now c.from-in-loop-place.result 0 ≡ get_or account.needed.value place 0 =
    rw c.from-in-loop-place.ensures (ap (λ l. get_or l place 0) c.deref-in-loop-place.ensures) in
    subst (λ (l : LedgerContents). (place < length l.book.needs) × (Meets l.book l.plan → ⊥)) c.self.view_is (
      within,
      λ meets. omega (
        arith,
        received,
        needed,
        c.if-deref-from.true,
        c.self.invariant.needed place some_need within,
        c.self.invariant.received place some_need within,
        meets (get_or book.needs place some_need).day,
      ),
    )
