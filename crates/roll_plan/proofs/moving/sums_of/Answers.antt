use Rattle.std.proofs.Common.{◌≡◌, ◌∙◌, ap, arith, List, [], ◌++◌}
use Rattle.escrow_units.specs.Flows.{total}
use Rattle.escrow_units.specs.declared.security.Flow.{Flow}
use Rattle.escrow_units.proofs.YearFacts.{years-follow}
use Rattle.day_sums.specs.Summed.{summed}
use Rattle.day_sums.specs.Table.{SpanSums}
use Rattle.day_sums.proofs.Uniqueness.{in-steps, keep-total}
use Rattle.roll_plan.proofs.moving.sums_of.Goals as goal

pub between-requires : goal.between-requires
between-requires c = rw c.years_after.ensures (years-follow c.args.settle c.requires.settlement)

first_sums : (start sums flows : List Flow) → start ≡ [] → sums ≡ summed (start ++ flows) → sums ≡ summed flows
first_sums start sums flows none is = is ∙ ap (λ (s : List Flow). summed (s ++ flows)) none

pub add-requires-2-clause-room : goal.add-requires-2-clause-room
add-requires-2-clause-room c =
    let sums = first_sums c.in_ok-sums.sums.sums c.add.new.self.sums c.args.flows.now (ap (λ (s : SpanSums). s.sums) c.in_ok-sums.ensures) (ap (λ (s : SpanSums). s.sums) c.add.ensures) in
    omega (arith, ap total sums, keep-total c.args.flows.now, c.requires.room)

pub returns : goal.returns
returns c =
    let sums = first_sums c.in_ok-sums.sums.sums c.add.new.self.sums c.args.flows.now (ap (λ (s : SpanSums). s.sums) c.in_ok-sums.ensures) (ap (λ (s : SpanSums). s.sums) c.add.ensures) in
    let from = ap (λ (s : SpanSums). s.from) c.add-2.ensures ∙ ap (λ (s : SpanSums). s.from) c.add.ensures ∙ ap (λ (s : SpanSums). s.from) c.in_ok-sums.ensures in
    let to = ap (λ (s : SpanSums). s.to) c.add-2.ensures ∙ ap (λ (s : SpanSums). s.to) c.add.ensures ∙ ap (λ (s : SpanSums). s.to) c.in_ok-sums.ensures ∙ c.years_after.ensures in
    let all = ap (λ (s : SpanSums). s.sums) c.add-2.ensures ∙ ap (λ (s : List Flow). summed (s ++ c.args.more.now)) sums ∙ in-steps c.args.flows.now c.args.more.now in
    λ i. record { from = from i; to = to i; sums = all i }
