use Rattle.std.proofs.Common.{◌∙◌, ap, subst, sym}
use Rattle.escrow_units.specs.Flows.{ComeInOrder}
use Rattle.held_escrow.specs.Residual.{residual_of}
use Rattle.held_escrow.proofs.CaseFacts.{kept-itself, ordered, parts-are, parts-keep}
use Rattle.held_escrow.proofs.case.held_book.Goals as goal

pub residual-requires-clause-needs_order : goal.residual-requires-clause-needs_order
residual-requires-clause-needs_order c = subst ComeInOrder (sym c.needs.ensures.value) (ordered c.args.book.now c.needs.ensures.limits)

pub make-requires : goal.make-requires
make-requires c = record {
  limits = parts-keep c.args.held.now c.args.book.now c.settle.result c.in_ok-closed.closed c.in_ok-needs.needs.items c.in_ok-lines.lines.items c.needs.ensures.limits
      c.settle.ensures
      (c.in_ok-closed.ensures ∙ c.closed.ensures)
      (c.in_ok-needs.ensures.value ∙ ap (λ needs. residual_of needs c.args.held.now) c.needs.ensures.value)
      (c.in_ok-lines.ensures.items ∙ c.lines.ensures.value);
}

pub returns-clause-itself : goal.returns-clause-itself
returns-clause-itself c =
    kept-itself c.args.held.now c.args.book.now c.make.result c.needs.ensures.limits
    (c.make.ensures
    ∙ parts-are c.args.held.now c.args.book.now c.settle.result c.in_ok-closed.closed c.in_ok-needs.needs.items c.in_ok-lines.lines.items c.settle.ensures
    (c.in_ok-closed.ensures ∙ c.closed.ensures)
    (c.in_ok-needs.ensures.value ∙ ap (λ needs. residual_of needs c.args.held.now) c.needs.ensures.value)
    (c.in_ok-lines.ensures.items ∙ c.lines.ensures.value))
