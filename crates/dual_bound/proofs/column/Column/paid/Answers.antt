use mir.Syntax.{w128}
use Rattle.std.proofs.Common.{◌∙◌, ◌*ℤ◌, ◌+ℤ◌, ap, pos}
use Rattle.std.proofs.lemmas.Int.{to_z-of_z}
use Rattle.dual_bound.specs.Columns.{signed_worth}
use Rattle.dual_bound.proofs.column.Column.paid.Goals as goal

pub returns-clause-value : goal.returns-clause-value
returns-clause-value c =
    let worth = to_z-of_z w128 c.signed.result (record { sfits = c.signed.type_inv }) ∙ c.signed.ensures ∙ ap signed_worth c.requires.regular in
    let regular = to_z-of_z w128 c.weighed_together-paid.result (record { sfits = c.weighed_together-paid.type_inv }) ∙ c.weighed_together-paid.ensures.value
    ∙ (λ i. worth i *ℤ pos (c.regular_cents.ensures.value i)) in
    let others = to_z-of_z w128 c.others_paid.result (record { sfits = c.others_paid.type_inv }) ∙ c.others_paid.ensures.value in
    to_z-of_z w128 c.paid_in_all.result (record { sfits = c.paid_in_all.type_inv }) ∙ c.paid_in_all.ensures.value ∙ (λ i. regular i +ℤ others i)
