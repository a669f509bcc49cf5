use Rattle.std.proofs.Common.{◌≡◌, ◌∙◌, ◌+◌, ◌<◌, ℕ, length, get_or, sym, subst, arith, rules}
use Rattle.std.proofs.lemmas.List.{get_or_default}
use Rattle.offer_book.specs.declared.line.Line.{Line}
use Rattle.plan_finder.specs.Ledger.{IsTerms}
use Rattle.plan_finder.specs.declared.terms.LineTerms.{LineTerms}
use Rattle.plan_finder.proofs.LedgerFacts.{line-is, push-each}
use Rattle.plan_finder.proofs.account.terms_of.Goals as goal

pub make-requires-clause-settlement : goal.make-requires-clause-settlement
make-requires-clause-settlement c = rw c.payment_days.ensures c.line_count-line-end.ensures.limits.settlement

pub make-requires-clause-line : goal.make-requires-clause-line
make-requires-clause-line c =
    rw c.payment_days.ensures (line-is c.args.book.now c.loop-line.line c.line.result.now c.line_count-line-end.ensures.limits (omega arith) c.line.ensures)

pub loop-line-preserved : goal.loop-line-preserved
loop-line-preserved c =
    let book = c.args.book.now in
    let n = c.args.powers.now.yield_units in
    let Own : ℕ → LineTerms → Type 0 = λ k own. (line : Line) → IsTerms n book.days (get_or book.lines k line) own in
    let within : c.loop-line.line < length book.lines = omega arith in
    let here : (line : Line) → c.line.result.now ≡ get_or book.lines c.loop-line.line line = λ line. c.line.ensures ∙ get_or_default book.lines c.loop-line.line c.line.result.now line within in
    let made : IsTerms n book.days c.line.result.now c.in_ok-make.field-0 = rw c.payment_days.ensures at c.in_ok-make.ensures in
    record {
      count = search rules;
      each = subst (λ items. (k : ℕ) (own : LineTerms) → k < c.loop-line.line + 1 → (line : Line) → IsTerms n book.days (get_or book.lines k line) (get_or items k own)) (sym c.in_ok-push.ensures.items)
          (push-each Own c.loop-line.terms.items c.loop-line.line c.in_ok-make.field-0 c.loop-line.invariant.count c.loop-line.invariant.each
          (λ line. subst (λ (own : Line). IsTerms n book.days own c.in_ok-make.field-0) (here line) made));
    }

pub returns : goal.returns
returns c = record {
  count = omega (arith, c.loop-line.invariant.count, c.line_count-line-end.ensures.value);
  each = λ k own within line. c.loop-line.invariant.each k own (omega (arith, within, c.line_count-line-end.ensures.value)) line;
}
