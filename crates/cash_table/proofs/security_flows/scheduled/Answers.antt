use Rattle.cash_table.proofs.ScheduledFacts.{kept-after-cash}
use Rattle.std.proofs.Common.{◌≡◌, drop, ◌≤◌, ◌*◌, ◌^◌, List, ◌∙◌, sym, ap, subst, arith}
use Rattle.std.proofs.lemmas.List.{take_rest}
use Rattle.std.proofs.lemmas.Result.{IfOk-weaker}
use Rattle.escrow_units.specs.Flows.{total, FallWithinFortyYears}
use Rattle.escrow_units.proofs.YearFacts.{years-follow}
use Rattle.escrow_units.specs.declared.security.Flow.{Flow}
use Rattle.day_sums.specs.Table.{SpanSums}
use Rattle.offer_book.specs.Portfolio.{security_flows}
use Rattle.cash_table.proofs.CostFacts.{drop-zip}
use Rattle.cash_table.proofs.FlowFacts.{lines_after_cash, flows_within, flows_at_most, securities_permitted, securities_at_most}
use Rattle.cash_table.proofs.security_flows.scheduled.Goals as goal

abbrev IsBounded : List Flow → Type 0
IsBounded flows = total flows ≤ 69 * 10 ^ 13

pub add_scheduled-requires-clause-permitted : goal.add_scheduled-requires-clause-permitted
add_scheduled-requires-clause-permitted c =
    simp (take_rest, drop-zip, c.lines-lines.ensures.value, c.units.ensures) (securities_permitted c.args.book.now.lines c.args.plan.now c.requires.permitted.units)

pub add_scheduled-requires-clause-room : goal.add_scheduled-requires-clause-room
add_scheduled-requires-clause-room c =
    simp (take_rest, drop-zip, c.settle-settle.ensures, c.payment_days.ensures, c.lines-lines.ensures.value, c.units.ensures) (omega (arith, securities_at_most c.args.book.now c.args.plan.now c.lines-lines.ensures.limits c.requires.permitted))

pub returns-clause-within : goal.returns-clause-within
returns-clause-within c =
    IfOk-weaker c.into_flows.result (λ flows. flows.items ≡ c.add_scheduled.new.sums.sums) (λ flows. FallWithinFortyYears c.args.book.now.days.settle flows.items)
    (λ flows same. let sums : c.add_scheduled.new.sums.sums ≡ security_flows c.args.book.now c.args.plan.now = simp (take_rest, drop-zip, c.settle-settle.ensures, c.payment_days.ensures, c.lines-lines.ensures.value, c.units.ensures) at (ap (λ (s : SpanSums). s.sums) c.add_scheduled.ensures) in
    subst (FallWithinFortyYears c.args.book.now.days.settle) (sym (same ∙ sums)) (flows_within c.args.book.now c.args.plan.now c.lines-lines.ensures.limits)) c.into_flows.ensures.value

pub returns-clause-bound : goal.returns-clause-bound
returns-clause-bound c =
    IfOk-weaker c.into_flows.result (λ flows. flows.items ≡ c.add_scheduled.new.sums.sums) (λ flows. IsBounded flows.items)
    (λ flows same. let sums : c.add_scheduled.new.sums.sums ≡ security_flows c.args.book.now c.args.plan.now = simp (take_rest, drop-zip, c.settle-settle.ensures, c.payment_days.ensures, c.lines-lines.ensures.value, c.units.ensures) at (ap (λ (s : SpanSums). s.sums) c.add_scheduled.ensures) in
    subst (IsBounded) (sym (same ∙ sums)) (flows_at_most c.args.book.now c.args.plan.now c.lines-lines.ensures.limits c.requires.permitted)) c.into_flows.ensures.value

pub between-requires : goal.between-requires
between-requires c = rw (c.years_after.ensures, c.settle-settle.ensures) (years-follow c.args.book.now.days.settle c.lines-lines.ensures.limits.settlement)

pub add_scheduled-requires-clause-lines : goal.add_scheduled-requires-clause-lines
add_scheduled-requires-clause-lines c =
    simp (take_rest, c.settle-settle.ensures, c.payment_days.ensures, c.lines-lines.ensures.value) (lines_after_cash c.args.book.now.days c.args.book.now.lines c.lines-lines.ensures.limits.lines)

pub returns-clause-value : goal.returns-clause-value
returns-clause-value c =
    IfOk-weaker c.into_flows.result (λ flows. flows.items ≡ c.add_scheduled.new.sums.sums) (λ flows. flows.items ≡ security_flows c.args.book.now c.args.plan.now)
    (λ flows same. let sums : c.add_scheduled.new.sums.sums ≡ security_flows c.args.book.now c.args.plan.now = simp (take_rest, drop-zip, c.settle-settle.ensures, c.payment_days.ensures, c.lines-lines.ensures.value, c.units.ensures) at (ap (λ (s : SpanSums). s.sums) c.add_scheduled.ensures) in
    same ∙ sums) c.into_flows.ensures.value

pub add_scheduled-requires-clause-schedules : goal.add_scheduled-requires-clause-schedules
add_scheduled-requires-clause-schedules c =
    simp (take_rest, c.payment_days.ensures, c.lines-lines.ensures.value) (ap (drop 1) c.requires.schedules ∙ kept-after-cash c.args.book.now.days c.args.book.now.lines)
