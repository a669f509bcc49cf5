use Rattle.std.proofs.Common.{◌≡◌, ◌∙◌, ◌++◌, ap, sym, subst, arith, List}
use Rattle.std.proofs.lemmas.Result.{IfOk-weaker}
use Rattle.escrow_units.specs.Calendar.{years_after_of}
use Rattle.escrow_units.specs.declared.security.Flow.{Flow}
use Rattle.escrow_units.proofs.YearFacts.{years-follow}
use Rattle.day_sums.specs.Summed.{summed}
use Rattle.day_sums.specs.Table.{SpanSums}
use Rattle.day_sums.proofs.Uniqueness.{fall-within, keep-total, keep-total_by}
use Rattle.offer_book.specs.Portfolio.{payments}
use Rattle.cash_table.specs.Balances.{AreBalances, balances_of, entries_of}
use Rattle.cash_table.proofs.BalanceLaws.{are_balances, entries_of_book, payments_within}
use Rattle.cash_table.proofs.PaymentFacts.{all_lines, payments_at_most}
use Rattle.cash_table.proofs.day_balances.balances.Goals as goal

pub between-requires : goal.between-requires
between-requires c = rw (c.years_after-last.ensures, c.settle-settle.ensures) (years-follow c.args.book.now.days.settle c.lines-lines.ensures.limits.settlement)

pub add_bought-requires-clause-room : goal.add_bought-requires-clause-room
add_bought-requires-clause-room c =
    simp (c.settle-settle.ensures, c.payment_days.ensures, c.lines-lines.ensures.value, c.units.ensures) (omega (arith, payments_at_most c.args.book.now c.args.plan.now c.lines-lines.ensures.limits c.requires.permitted))

pub add_bought-requires-clause-lines : goal.add_bought-requires-clause-lines
add_bought-requires-clause-lines c =
    simp (c.settle-settle.ensures, c.payment_days.ensures, c.lines-lines.ensures.value) (all_lines c.args.book.now.days c.args.book.now.lines c.lines-lines.ensures.limits.lines)

pub between-requires-2 : goal.between-requires-2
between-requires-2 c = rw (c.years_after-last.ensures, c.settle-settle.ensures) (years-follow c.args.book.now.days.settle c.lines-lines.ensures.limits.settlement)

pub entries-requires-clause-receipts_within : goal.entries-requires-clause-receipts_within
entries-requires-clause-receipts_within c =
    let receipts : c.add_bought.new.sums.sums ≡ summed (payments c.args.book.now c.args.plan.now) = simp (c.settle-settle.ensures, c.payment_days.ensures, c.lines-lines.ensures.value, c.units.ensures) at (ap (λ (s : SpanSums). s.sums) c.add_bought.ensures) in
    rw (receipts, c.settle-settle.ensures) (fall-within c.args.book.now.days.settle (years_after_of c.args.book.now.days.settle 40) (payments c.args.book.now c.args.plan.now) (payments_within c.args.book.now c.args.plan.now c.lines-lines.ensures.limits))

pub entries-requires-clause-needs_within : goal.entries-requires-clause-needs_within
entries-requires-clause-needs_within c =
    let needs : c.add.new.self.sums ≡ summed c.args.book.now.needs = ap (λ (s : SpanSums). s.sums) c.add.ensures ∙ ap (λ (s : SpanSums). summed (s.sums ++ c.needs.result.now)) (c.in_ok-needs.ensures) ∙ ap (λ (fs : List Flow). summed fs) c.needs.ensures.value in
    rw (needs, c.settle-settle.ensures) (fall-within c.args.book.now.days.settle (years_after_of c.args.book.now.days.settle 40) c.args.book.now.needs c.lines-lines.ensures.limits.needs.within)

pub entries-requires-clause-meets : goal.entries-requires-clause-meets
entries-requires-clause-meets c =
    let receipts : c.add_bought.new.sums.sums ≡ summed (payments c.args.book.now c.args.plan.now) = simp (c.settle-settle.ensures, c.payment_days.ensures, c.lines-lines.ensures.value, c.units.ensures) at (ap (λ (s : SpanSums). s.sums) c.add_bought.ensures) in
    let needs : c.add.new.self.sums ≡ summed c.args.book.now.needs = ap (λ (s : SpanSums). s.sums) c.add.ensures ∙ ap (λ (s : SpanSums). summed (s.sums ++ c.needs.result.now)) (c.in_ok-needs.ensures) ∙ ap (λ (fs : List Flow). summed fs) c.needs.ensures.value in
    λ t. rw (receipts, needs) (omega (arith, keep-total_by t (payments c.args.book.now c.args.plan.now), keep-total_by t c.args.book.now.needs, c.requires.meets t))

pub entries-requires-clause-room : goal.entries-requires-clause-room
entries-requires-clause-room c =
    let receipts : c.add_bought.new.sums.sums ≡ summed (payments c.args.book.now c.args.plan.now) = simp (c.settle-settle.ensures, c.payment_days.ensures, c.lines-lines.ensures.value, c.units.ensures) at (ap (λ (s : SpanSums). s.sums) c.add_bought.ensures) in
    rw receipts (omega (arith, keep-total (payments c.args.book.now c.args.plan.now), payments_at_most c.args.book.now c.args.plan.now c.lines-lines.ensures.limits c.requires.permitted))

pub returns-clause-value : goal.returns-clause-value
returns-clause-value c =
    let receipts : c.add_bought.new.sums.sums ≡ summed (payments c.args.book.now c.args.plan.now) = simp (c.settle-settle.ensures, c.payment_days.ensures, c.lines-lines.ensures.value, c.units.ensures) at (ap (λ (s : SpanSums). s.sums) c.add_bought.ensures) in
    let needs : c.add.new.self.sums ≡ summed c.args.book.now.needs = ap (λ (s : SpanSums). s.sums) c.add.ensures ∙ ap (λ (s : SpanSums). summed (s.sums ++ c.needs.result.now)) (c.in_ok-needs.ensures) ∙ ap (λ (fs : List Flow). summed fs) c.needs.ensures.value in
    IfOk-weaker c.entries.result (λ entries. entries.items ≡ entries_of c.settle-settle.result c.add_bought.new.sums.sums c.add.new.self.sums) (λ entries. entries.items ≡ balances_of c.args.book.now c.args.plan.now)
    (λ entries is. entries_of_book c.settle-settle.result c.add_bought.new.sums.sums c.add.new.self.sums entries.items c.args.book.now c.args.plan.now c.settle-settle.ensures receipts needs is) c.entries.ensures

pub returns-clause-meaning : goal.returns-clause-meaning
returns-clause-meaning c =
    IfOk-weaker c.entries.result (λ entries. entries.items ≡ balances_of c.args.book.now c.args.plan.now) (λ entries. AreBalances c.args.book.now c.args.plan.now entries.items)
    (λ entries is. subst (AreBalances c.args.book.now c.args.plan.now) (sym is) (are_balances c.args.book.now c.args.plan.now c.lines-lines.ensures.limits c.requires.meets)) (returns-clause-value c)
