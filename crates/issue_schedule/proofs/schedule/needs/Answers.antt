use Rattle.std.proofs.Common.{◌≡◌, ◌∙◌, ◌+◌, ◌≤◌, ap, sym, subst, List}
use Rattle.std.specs.Prelude.{sum_by}
use Rattle.std.proofs.lemmas.Result.{IfOk-weaker}
use Rattle.escrow_units.specs.declared.limits.TheConstants.{AMOUNT_LIMIT}
use Rattle.escrow_units.specs.Calendar.{years_after_of}
use Rattle.escrow_units.specs.Flows.{total, FallWithin}
use Rattle.escrow_units.specs.declared.security.Flow.{Flow}
use Rattle.day_sums.specs.Table.{SpanSums}
use Rattle.issue_schedule.specs.Needs.{bond_needs}
use Rattle.issue_schedule.proofs.NeedFacts.{needs-total, needs-limit, needs-within}
use Rattle.issue_schedule.proofs.schedule.needs.Goals as goal

pub returns-clause-within : goal.returns-clause-within
returns-clause-within c =
    let issue = c.args.issue.now in
    let to = years_after_of issue.settle 40 in
    IfOk-weaker c.into_flows.result (λ needs. needs.items ≡ c.in_ok-needs_by_day.field-0.sums) (λ needs. FallWithin issue.settle to needs.items)
    (λ needs is. subst (λ (flows : List Flow). FallWithin issue.settle to flows) (sym (is ∙ ap (λ (s : SpanSums). s.sums) c.in_ok-needs_by_day.ensures)) (needs-within issue c.requires))
    c.into_flows.ensures.value

pub returns-clause-total : goal.returns-clause-total
returns-clause-total c =
    let issue = c.args.issue.now in
    IfOk-weaker c.into_flows.result (λ needs. needs.items ≡ c.in_ok-needs_by_day.field-0.sums)
    (λ needs. total needs.items ≡ total issue.direct + sum_by (λ bond. total (bond_needs issue.settle issue.call bond)) issue.bonds)
    (λ needs is. ap total (is ∙ ap (λ (s : SpanSums). s.sums) c.in_ok-needs_by_day.ensures) ∙ needs-total issue.settle issue.call issue.direct issue.bonds)
    c.into_flows.ensures.value

pub returns-clause-limit : goal.returns-clause-limit
returns-clause-limit c =
    let issue = c.args.issue.now in
    IfOk-weaker c.into_flows.result (λ needs. needs.items ≡ c.in_ok-needs_by_day.field-0.sums) (λ needs. total needs.items ≤ AMOUNT_LIMIT)
    (λ needs is. rw (is ∙ ap (λ (s : SpanSums). s.sums) c.in_ok-needs_by_day.ensures) (needs-limit issue c.requires))
    c.into_flows.ensures.value
