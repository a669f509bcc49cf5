use Rattle.std.proofs.Common.{◌∙◌, ap, sym, arith, ℤ, List, ◌++◌}
use Rattle.std.proofs.lemmas.Int.{ints}
use Rattle.escrow_units.specs.declared.security.Flow.{Flow}
use Rattle.escrow_units.specs.Calendar.{years_after_of}
use Rattle.escrow_units.proofs.YearFacts.{years-follow}
use Rattle.day_sums.specs.Summed.{summed}
use Rattle.day_sums.specs.Table.{SpanSums}
use Rattle.day_sums.proofs.SumFacts.{rising-from_pairs}
use Rattle.day_sums.proofs.Uniqueness.{sums-again}
use Rattle.roll_plan.proofs.planning.received.Goals as goal

pub years_after-requires-clause-base : goal.years_after-requires-clause-base
years_after-requires-clause-base c =
    let h = c.line_count.ensures.limits.settlement in
    rw c.settle-settle.ensures (omega (arith, ints, h.0), omega (arith, ints, h.1))

pub between-requires : goal.between-requires
between-requires c = rw (c.years_after.ensures, c.settle-settle.ensures) (years-follow c.args.book.now.days.settle c.line_count.ensures.limits.settlement)

pub returns : goal.returns
returns c =
    let from = ap (λ (s : SpanSums). s.from) c.add.ensures ∙ ap (λ (s : SpanSums). s.from) c.in_ok-sums.ensures ∙ c.settle-settle.ensures in
    let to = ap (λ (s : SpanSums). s.to) c.add.ensures ∙ ap (λ (s : SpanSums). s.to) c.in_ok-sums.ensures ∙ c.years_after.ensures ∙ ap (λ (z : ℤ). years_after_of z 40) c.settle-settle.ensures in
    let flows = c.in_ok-flows.flows.items in
    let all = ap (λ (s : SpanSums). s.sums) c.add.ensures ∙ ap (λ (s : SpanSums). summed (s.sums ++ c.as_slice.result.now)) c.in_ok-sums.ensures ∙ ap (λ (fs : List Flow). summed fs) c.as_slice.ensures.value
    ∙ sym (sums-again flows (rising-from_pairs flows c.in_ok-flows.ensures.rise) c.in_ok-flows.ensures.above) ∙ c.in_ok-flows.ensures.value in
    λ i. record { from = from i; to = to i; sums = all i }
