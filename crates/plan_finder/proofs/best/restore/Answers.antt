use Rattle.std.proofs.Common.{◌≡◌, ◌∙◌, ◌<◌, length, inl, inr, sym, arith}
use Rattle.std.proofs.lemmas.Bool.{cases_eq}
use Rattle.std.proofs.lemmas.List.{ext_get_or, get_or-set_other, get_or-set_same, length-set}
use Rattle.backward_build.proofs.UnitFacts.{permitted-at}
use Rattle.plan_finder.proofs.best.restore.Goals as goal

pub put-requires-clause-permitted : goal.put-requires-clause-permitted
put-requires-clause-permitted c =
    rw c.loop-line.invariant.book (λ d. rw c.get.ensures (permitted-at c.args.ledger.now.book c.args.plan.now c.loop-line.line (omega (arith, rw c.book.ensures.value at c.line_count-line-end.ensures.value)) c.requires d))

pub loop-line-preserved : goal.loop-line-preserved
loop-line-preserved c =
    let within : c.loop-line.line < length c.loop-line.ledger.plan = omega (arith, c.loop-line.invariant.count, rw c.book.ensures.value at c.line_count-line-end.ensures.value) in
    rw c.put.ensures (record {
      book = c.loop-line.invariant.book;
      count = length-set c.loop-line.ledger.plan c.loop-line.line c.get.result ∙ c.loop-line.invariant.count;
      plan = λ k below. elim (cases_eq k c.loop-line.line) [
        | inl here ↦ rw here (get_or-set_same c.loop-line.ledger.plan c.loop-line.line c.get.result 0 within ∙ c.get.ensures)
        | inr away ↦ get_or-set_other c.loop-line.ledger.plan c.loop-line.line k c.get.result 0 away ∙ c.loop-line.invariant.plan k (omega (arith, below, away))
      ];
    })

pub returns-clause-plan : goal.returns-clause-plan
returns-clause-plan c =
    let same : length c.loop-line.ledger.plan ≡ length c.args.plan.now = c.loop-line.invariant.count ∙ sym c.requires.same_length in
    ext_get_or 0 c.loop-line.ledger.plan c.args.plan.now same (λ k within. c.loop-line.invariant.plan k (omega (arith, within, c.loop-line.invariant.count, rw c.book.ensures.value at c.line_count-line-end.ensures.value)))
