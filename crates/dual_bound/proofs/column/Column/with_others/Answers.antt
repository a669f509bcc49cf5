use mir.Syntax.{w128}
use Rattle.std.proofs.lemmas.Int.{to_z-of_z}
use Rattle.std.proofs.Common.{◌∙◌, ap, arith, unsigned_abs}
use Rattle.dual_bound.specs.Columns.{form_plus, signed_worth, worth_at}
use Rattle.dual_bound.specs.declared.form.Form.{Form}
use Rattle.dual_bound.proofs.ColumnForms.{others-more}
use Rattle.dual_bound.proofs.Sizes.{abs-sum}
use Rattle.dual_bound.proofs.column.Column.with_others.Goals as goal

pub loop-other-preserved : goal.loop-other-preserved
loop-other-preserved c =
    let value = c.plus-form.ensures ∙ (λ i. form_plus (c.loop-other.invariant.0 i) (c.of_payment.ensures.value i))
    ∙ others-more c.args.start c.args.worths.now c.as_slice-other-items.result.now c.loop-other.other-index c.other-item.result _ c.loop-other-test.true c.other-item.is
    (to_z-of_z w128 c.signed-worth.result (record { sfits = c.signed-worth.type_inv }) ∙ c.signed-worth.ensures ∙ ap (λ place. signed_worth (worth_at c.args.worths.now place)) c.from.ensures) in (
      value,
      omega (arith, ap (λ (f : Form). unsigned_abs f.slope) c.plus-form.ensures, abs-sum c.loop-other.form.slope c.of_payment.result.slope, c.loop-other.invariant.1, c.of_payment.ensures.slope),
      omega (arith, ap (λ (f : Form). f.slack) c.plus-form.ensures, c.loop-other.invariant.2, c.of_payment.ensures.slack),
    )
