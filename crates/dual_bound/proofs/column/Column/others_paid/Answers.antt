use mir.Syntax.{w128}
use Rattle.std.proofs.Common.{◌∙◌, ◌*ℤ◌, ap, arith, pos}
use Rattle.std.proofs.lemmas.Int.{ints, to_z-of_z}
use Rattle.dual_bound.specs.Columns.{signed_worth, worth_at}
use Rattle.dual_bound.proofs.ColumnForms.{paid-more}
use Rattle.dual_bound.proofs.column.Column.others_paid.Goals as goal

pub loop-other-preserved : goal.loop-other-preserved
loop-other-preserved c =
    let worth = to_z-of_z w128 c.signed-worth.result (record { sfits = c.signed-worth.type_inv }) ∙ c.signed-worth.ensures ∙ ap (λ place. signed_worth (worth_at c.args.worths.now place)) c.from.ensures in
    let more = paid-more c.args.rate.0 c.args.amount.0 c.args.worths.now c.as_slice-other-items.result.now c.loop-other.other-index c.other-item.result c.weighed-paid.result c.loop-other-test.true c.other-item.is
    (c.weighed-paid.ensures.value ∙ (λ i. worth i *ℤ pos (c.other_cents.ensures.value i))) in (
      omega (arith, ints, c.loop-other.paid-is, c.loop-other.invariant.0, more),
      omega (arith, ints, c.loop-other.paid-is, c.loop-other.invariant.1, c.weighed-paid.ensures.small),
    )
