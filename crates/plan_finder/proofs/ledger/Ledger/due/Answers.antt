use Rattle.std.proofs.Common.{◌≡◌, ◌∙◌, ◌<◌, ap, get_or, length, inl, inr, rules, arith, subst, sym}
use Rattle.offer_book.specs.Portfolio.{line_payments, payments}
use Rattle.offer_book.specs.declared.line.Line.{Line}
use Rattle.plan_finder.specs.Ledger.{AreDue, LedgerContents}
use Rattle.std.proofs.lemmas.Bool.{cases_eq}
use Rattle.std.proofs.lemmas.List.{get_or-set_other, get_or-set_same, length-set}
use Rattle.plan_finder.proofs.LedgerFacts.{held-little}
use Rattle.plan_finder.proofs.PutFacts.{held-is, purchase-paid, received-part}
use Rattle.plan_finder.proofs.ledger.Ledger.due.Goals as goal

pub paid-due-requires : goal.paid-due-requires
paid-due-requires c =
    let within-lines = subst (λ (l : LedgerContents). c.args.line < length l.book.lines) (sym c.self.view_is) c.requires in
    let at : c.index.result.now ≡ get_or c.self.inside.account.held.items c.args.line c.index.result.now = search rules in
    let ledger = c.self.invariant in
    held-little c.self.inside.yield_units.0 c.self.inside.book.now c.self.inside.account.plan c.self.inside.account.held.items c.args.line c.index.result.now ledger.limits ledger.permitted ledger.held within-lines at

pub overflow_sub-deref : goal.overflow_sub-deref
overflow_sub-deref c =
    let within-lines = subst (λ (l : LedgerContents). c.args.line < length l.book.lines) (sym c.self.view_is) c.requires in
    let at : c.index.result.now ≡ get_or c.self.inside.account.held.items c.args.line c.index.result.now = search rules in
    omega (
      arith,
      received-part c.self.inside.yield_units.0 c.self.inside.book.now c.self.inside.account c.args.line c.index.result.now c.paid-due.result c.self.invariant within-lines at c.paid-due.ensures c.loop-place.place
          (omega arith),
      c.loop-place.invariant.rest c.loop-place.place (omega arith),
      ap (λ l. get_or l c.loop-place.place 0) c.deref-in-loop-place.ensures,
    )

pub returns-clause-value : goal.returns-clause-value
returns-clause-value c =
    let within-lines = subst (λ (l : LedgerContents). c.args.line < length l.book.lines) (sym c.self.view_is) c.requires in
    let book = c.self.inside.book.now in
    let n = c.self.inside.yield_units.0 in
    let account = c.self.inside.account in
    let ledger = c.self.invariant in
    let at : c.index.result.now ≡ get_or account.held.items c.args.line c.index.result.now = search rules in
    subst (λ (l : LedgerContents). (d : Line) → AreDue l.book.needs (payments l.book l.plan) (line_payments l.book.days (get_or l.book.lines c.args.line d) (get_or l.plan c.args.line 0)) c.loop-place.due) c.self.view_is
    (λ d k need within.
    let own = purchase-paid n book (get_or book.lines c.args.line d) (get_or account.plan c.args.line 0) c.index.result.now c.paid-due.result
    (held-is n book account.plan account.held.items c.args.line c.index.result.now ledger.held within-lines at d) c.paid-due.ensures in
    omega (
      arith,
      c.loop-place.invariant.done k (omega (arith, within, c.from-place-end.ensures, c.need_count.ensures.value)),
      ledger.needed k need within,
      ledger.received k need within,
      own k need within,
    ))

pub loop-place-preserved : goal.loop-place-preserved
loop-place-preserved c =
    let place = c.loop-place.place in
    let due = c.loop-place.due in
    let v = c.saturating_sub.result in
    let within : place < length due = omega (arith, c.loop-place.invariant.size, c.loop-place-test.true, c.from-place-end.ensures, c.need_count.ensures.value, c.need_count.ensures.limits.needs.few) in
    record {
      size = length-set due place v ∙ c.loop-place.invariant.size;
      done = λ k below. elim (cases_eq k place) [
        | inl here ↦ rw here (omega (arith, get_or-set_same due place v 0 within, c.saturating_sub.ensures, c.loop-place.invariant.rest place (omega arith), ap (λ l. get_or l place 0) c.deref.ensures, ap (λ l. get_or l place 0) c.deref-in-loop-place.ensures))
        | inr away ↦ get_or-set_other due place k v 0 away ∙ c.loop-place.invariant.done k (omega (arith, below, away))
      ];
      rest = λ k above. elim (cases_eq k place) [
        | inl here ↦ absurd (omega (arith, here, above))
        | inr away ↦ get_or-set_other due place k v 0 away ∙ c.loop-place.invariant.rest k (omega (arith, above))
      ];
    }
