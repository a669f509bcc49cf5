use Rattle.std.proofs.Common.{◌≡◌, ◌∙◌, ◌+◌, ◌<◌, ℕ, length, get_or, sym, subst, arith, rules}
use Rattle.std.proofs.lemmas.List.{get_or_default, length-replicate}
use Rattle.offer_book.specs.declared.line.Line.{Line}
use Rattle.plan_finder.specs.Ledger.{IsPurchase}
use Rattle.plan_finder.specs.declared.terms.Purchase.{Purchase}
use Rattle.plan_finder.proofs.LedgerFacts.{line-is, push-each, terms-at}
use Rattle.plan_finder.proofs.MakeFacts.{zeros}
use Rattle.plan_finder.proofs.account.nothing_held.Goals as goal

pub purchase-requires-clause-line : goal.purchase-requires-clause-line
purchase-requires-clause-line c =
    (c.args.book.now.days, line-is c.args.book.now c.loop-line.line c.line.result.now c.line_count-line-end.ensures.limits (omega arith) c.line.ensures)

pub purchase-requires-clause-terms : goal.purchase-requires-clause-terms
purchase-requires-clause-terms c =
    let at : c.index-terms-from.result ≡ get_or c.args.terms.now c.loop-line.line c.index-terms-from.result = search rules in
    (c.args.book.now.days, c.requires.0, terms-at c.requires.0 c.args.book.now c.args.terms.now c.loop-line.line c.line.result.now c.index-terms-from.result c.requires.1 (omega arith) c.line.ensures at)

pub loop-line-preserved : goal.loop-line-preserved
loop-line-preserved c =
    let book = c.args.book.now in
    let bought = c.purchase.result in
    let within : c.loop-line.line < length book.lines = omega arith in
    let limits = c.line_count-line-end.ensures.limits in
    let at : c.index-terms-from.result ≡ get_or c.args.terms.now c.loop-line.line c.index-terms-from.result = search rules in
    let here : (line : Line) → c.line.result.now ≡ get_or book.lines c.loop-line.line line = λ line. c.line.ensures ∙ get_or_default book.lines c.loop-line.line c.line.result.now line within in
    record {
      count = search rules;
      each = λ n are.
          let Own : ℕ → Purchase → Type 0 = λ k own. (line : Line) → IsPurchase n book.days (get_or book.lines k line) 0 own in
          let terms = terms-at n book c.args.terms.now c.loop-line.line c.line.result.now c.index-terms-from.result are within c.line.ensures at in
          let made = c.purchase.ensures book.days n (line-is book c.loop-line.line c.line.result.now limits within c.line.ensures) terms in
          subst (λ items. (k : ℕ) (own : Purchase) → k < c.loop-line.line + 1 → (line : Line) → IsPurchase n book.days (get_or book.lines k line) 0 (get_or items k own)) (sym c.in_ok-push.ensures.items)
          (push-each Own c.loop-line.held.items c.loop-line.line bought c.loop-line.invariant.count (c.loop-line.invariant.each n are)
          (λ line. subst (λ (own : Line). IsPurchase n book.days own 0 bought) (here line) made));
    }

pub returns : goal.returns
returns c = λ n are. record {
  count = omega (arith, c.loop-line.invariant.count, c.line_count-line-end.ensures.value);
  each = λ k own within line.
      let none = zeros (length c.args.book.now.lines) k (omega (arith, within, length-replicate {A = ℕ} (length c.args.book.now.lines) 0)) in
      rw none (c.loop-line.invariant.each n are k own (omega (arith, within, c.line_count-line-end.ensures.value)) line);
}
