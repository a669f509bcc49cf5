use mir.Syntax.{w128}
use Rattle.std.proofs.Common.{◌∙◌, ◌*◌, ◌+◌, ◌-ℤ◌, pos}
use Rattle.std.proofs.lemmas.Int.{to_z-of_z}
use Rattle.dual_bound.proofs.column.Column.regular_form.Goals as goal

pub returns-clause-value : goal.returns-clause-value
returns-clause-value c =
    λ worths together.
    let column = c.args.self.now in
    let slope = to_z-of_z w128 c.least_together.result (record { sfits = c.least_together.type_inv }) ∙ c.least_together.ensures.value
    ∙ (λ i. pos (column.regular.low * (together i).below) -ℤ pos (column.regular.high * (together i).above)) in
    let slack = c.slack_together.ensures.value ∙ (λ i. column.regular.slack * ((together i).above + (together i).below)) in
    (λ i. record { slope = slope i; slack = slack i })
