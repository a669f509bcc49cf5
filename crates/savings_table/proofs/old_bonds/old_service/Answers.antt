use Rattle.std.proofs.Common.{◌≡◌, ◌∙◌, ◌≤◌, ap, sym, subst, List}
use Rattle.std.specs.Prelude.{None, sum_by}
use Rattle.std.proofs.lemmas.Result.{IfOk-weaker}
use Rattle.escrow_units.specs.Calendar.{years_after_of}
use Rattle.escrow_units.specs.Flows.{total, FallWithin}
use Rattle.escrow_units.specs.declared.security.Flow.{Flow}
use Rattle.day_sums.specs.Table.{SpanSums}
use Rattle.issue_schedule.specs.Needs.{bond_needs}
use Rattle.savings_table.proofs.ServiceFacts.{service-limit, service-total, service-within}
use Rattle.savings_table.proofs.old_bonds.old_service.Goals as goal

pub returns-clause-within : goal.returns-clause-within
returns-clause-within c =
    let issue = c.args.issue.now in
    let to = years_after_of issue.settle 40 in
    IfOk-weaker c.into_flows.result (λ flows. flows.items ≡ c.in_ok-service_by_day.field-0.sums) (λ flows. FallWithin issue.settle to flows.items)
    (λ service is. subst (λ (flows : List Flow). FallWithin issue.settle to flows) (sym (is ∙ ap (λ (s : SpanSums). s.sums) c.in_ok-service_by_day.ensures)) (service-within issue.settle issue.bonds c.requires.needs.bonds))
    c.into_flows.ensures.value

pub returns-clause-total : goal.returns-clause-total
returns-clause-total c =
    let issue = c.args.issue.now in
    IfOk-weaker c.into_flows.result (λ flows. flows.items ≡ c.in_ok-service_by_day.field-0.sums)
    (λ flows. total flows.items ≡ sum_by (λ bond. total (bond_needs issue.settle None bond)) issue.bonds)
    (λ service is. ap total (is ∙ ap (λ (s : SpanSums). s.sums) c.in_ok-service_by_day.ensures) ∙ service-total issue.settle issue.bonds)
    c.into_flows.ensures.value

pub returns-clause-limit : goal.returns-clause-limit
returns-clause-limit c =
    let issue = c.args.issue.now in
    IfOk-weaker c.into_flows.result (λ flows. flows.items ≡ c.in_ok-service_by_day.field-0.sums) (λ flows. total flows.items ≤ 2_000_000_000_000_000)
    (λ service is. rw (is ∙ ap (λ (s : SpanSums). s.sums) c.in_ok-service_by_day.ensures) (service-limit issue c.requires.needs c.requires.bonds))
    c.into_flows.ensures.value
