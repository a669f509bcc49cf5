use Rattle.std.proofs.Common.{◌≡◌, ◌∙◌, ◌+◌, ◌<◌, ◌≤◌, [], ◌++◌, arith, rules, refl, ap, sym, subst, length, get_or, List}
use Rattle.std.specs.Prelude.{None}
use Rattle.std.specs.List.{flat_map}
use Rattle.escrow_units.specs.Flows.{FallWithin, total}
use Rattle.escrow_units.proofs.YearFacts.{years-follow}
use Rattle.issue_schedule.specs.IssueTerms.{IsBond}
use Rattle.escrow_units.specs.declared.security.Flow.{Flow}
use Rattle.day_sums.specs.Table.{SpanSums}
use Rattle.day_sums.proofs.TableFacts.{nothing-yet, span_sums}
use Rattle.day_sums.specs.Summed.{summed}
use Rattle.issue_schedule.specs.Needs.{bond_needs}
use Rattle.issue_schedule.proofs.NeedFacts.{all-summed, bond-fits, bond-more, bond-within}
use Rattle.savings_table.proofs.ServiceFacts.{service-fits}
use Rattle.savings_table.proofs.old_bonds.service_by_day.Goals as goal

pub loop-bond-preserved : goal.loop-bond-preserved
loop-bond-preserved c =
    let issue = c.args.issue.now in
    let f = bond_needs issue.settle None in
    let bonds = c.as_slice-bond-items.result.now in
    let short : c.loop-bond.bond-index < length bonds = search rules in
    let pays : c.as_slice.result.now ≡ f (get_or bonds c.loop-bond.bond-index c.bond-item.result) = c.as_slice.ensures.value ∙ (c.held_payments.ensures ∙ search rules) in
    let from = ap (λ (s : SpanSums). s.from) c.loop-bond.invariant in
    let to = ap (λ (s : SpanSums). s.to) c.loop-bond.invariant in
    let before = ap (λ (s : SpanSums). s.sums) c.loop-bond.invariant in
    c.add.ensures ∙ span_sums from to
    (bond-more f [] bonds c.loop-bond.bond-index c.bond-item.result c.loop-bond.sums.sums (summed (c.loop-bond.sums.sums ++ c.as_slice.result.now)) short before
    (ap (λ (flows : List Flow). summed (c.loop-bond.sums.sums ++ flows)) pays))

pub returns : goal.returns
returns c =
    let issue = c.args.issue.now in
    let all : length c.as_slice-bond-items.result.now ≤ c.loop-bond.bond-index = search rules in
    let same : c.as_slice-bond-items.result.now ≡ issue.bonds = search rules in
    let from = ap (λ (s : SpanSums). s.from) c.loop-bond.invariant in
    let to = ap (λ (s : SpanSums). s.to) c.loop-bond.invariant in
    let sums = ap (λ (s : SpanSums). s.sums) c.loop-bond.invariant in
    span_sums from to (all-summed issue.settle None [] issue.bonds c.loop-bond.sums.sums c.loop-bond.bond-index (rw same at all) (rw same at sums))

pub between-requires : goal.between-requires
between-requires c = rw c.years_after.ensures (years-follow c.args.issue.now.settle c.requires.needs.settle)

pub add-requires-clause-span : goal.add-requires-clause-span
add-requires-clause-span c =
    let issue = c.args.issue.now in
    let from = ap (λ (s : SpanSums). s.from) c.loop-bond.invariant in
    let to = ap (λ (s : SpanSums). s.to) c.loop-bond.invariant in
    let bond : IsBond issue.settle c.bond-item.result = search rules in
    subst (λ flows. FallWithin c.loop-bond.sums.from c.loop-bond.sums.to flows) (sym (c.as_slice.ensures.value ∙ c.held_payments.ensures))
    (rw (from, to) (bond-within issue.settle None c.bond-item.result tt bond))

pub add-requires-clause-room : goal.add-requires-clause-room
add-requires-clause-room c =
    let issue = c.args.issue.now in
    let f = bond_needs issue.settle None in
    let bonds = c.as_slice-bond-items.result.now in
    let short : c.loop-bond.bond-index < length bonds = search rules in
    let before = ap (λ (s : SpanSums). s.sums) c.loop-bond.invariant in
    let pays : c.as_slice.result.now ≡ f c.bond-item.result = c.as_slice.ensures.value ∙ c.held_payments.ensures in
    let one : f (get_or bonds c.loop-bond.bond-index c.bond-item.result) ≡ f c.bond-item.result = search rules in
    let all : c.as_slice-bond-items.result.now ≡ issue.bonds = search rules in
    let limit : total ([] ++ flat_map f bonds) ≤ 2_000_000_000_000_000 = rw all (service-fits issue c.requires.needs c.requires.bonds) in
    let fits : total c.loop-bond.sums.sums + total (f (get_or bonds c.loop-bond.bond-index c.bond-item.result)) ≤ 2_000_000_000_000_000 =
    bond-fits f [] bonds c.loop-bond.bond-index c.bond-item.result c.loop-bond.sums.sums 2_000_000_000_000_000 short before limit in
    let same : total c.as_slice.result.now ≡ total (f c.bond-item.result) = ap total pays in
    omega (arith, fits, same, ap total one)

pub loop-bond-init : goal.loop-bond-init
loop-bond-init c = c.in_ok-sums.ensures ∙ span_sums refl c.years_after.ensures nothing-yet
