use Rattle.std.proofs.Common.{◌∙◌, ◌++◌, [], ◌∷◌, sym}
use Rattle.dual_bound.proofs.PayingFacts.{late-principal, maturity-by}
use Rattle.dual_bound.proofs.column.late_principal.Goals as goal

pub due-requires : goal.due-requires
due-requires c = maturity-by c.args.slgs.now c.requires.settlement c.requires.terms

pub returns : goal.returns
returns c =
    c.push.ensures.items ∙ (λ i. c.new-payments.ensures i ++ c.due.ensures i ∷ [])
    ∙ sym (late-principal c.args.slgs.now c.args.days.now.closed c.requires.settlement c.requires.terms c.requires.late)
