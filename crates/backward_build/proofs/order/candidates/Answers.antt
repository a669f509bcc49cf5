use mir.Syntax.{w128}
use Rattle.std.proofs.Common.{◌≡◌, ◌∙◌, get_or, refl, subst, sym}
use Rattle.std.specs.List.{All}
use Rattle.std.specs.Option.{option_copied}
use Rattle.std.proofs.lemmas.Int.{to_z-of_z}
use Rattle.std.proofs.lemmas.List.Elements.{All-push}
use Rattle.offer_book.specs.declared.line.Line.{Line}
use Rattle.backward_build.specs.Order.{saving_of}
use Rattle.backward_build.specs.declared.order.Candidate.{Candidate}
use Rattle.backward_build.proofs.OrderFacts.{lines_more}
use Rattle.backward_build.proofs.order.candidates.Goals as goal

pub loop-line-preserved : goal.loop-line-preserved
loop-line-preserved c =
    let pushed = rw (c.is_err.ensures.negation, c.if-is_err.false) at c.push.ensures.items in
    let IsSaving : Candidate → Type 0 = λ candidate. (d : Line) → candidate.saving ≡ saving_of c.args.book.now (option_copied c.args.prices) (get_or c.args.book.now.lines candidate.line d) in
    record {
      lines = lines_more c.loop-line.candidates.items c.push.new.self.items _ c.loop-line.line refl c.loop-line.invariant.lines pushed;
      savings = subst (All IsSaving) (sym pushed)
          (All-push IsSaving c.loop-line.candidates.items _ c.loop-line.invariant.savings (λ d. to_z-of_z w128 c.saving-saving.result (record { sfits = c.saving-saving.type_inv }) ∙ c.saving-saving.ensures d));
    }
