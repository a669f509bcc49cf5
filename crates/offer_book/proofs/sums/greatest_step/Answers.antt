use Rattle.std.proofs.Common.{◌≡◌, ◌∙◌, ◌∷◌, ℕ, ◌+◌, max, drop, sym, ap, List}
use Rattle.std.proofs.lemmas.List.{drop_all, drop_more}
use Rattle.offer_book.specs.Sums.{greatest_step}
use Rattle.offer_book.specs.declared.line.Line.{Line}
use Rattle.offer_book.proofs.SumFacts.{greatest-taken, max-none, max-none-right, max-stays, max-up}
use Rattle.offer_book.proofs.sums.greatest_step.Goals.{then-step-line, else-step-line}
use Rattle.offer_book.proofs.sums.greatest_step.Goals as goal

pub loop-line-init : goal.loop-line-init
loop-line-init c = max-none (greatest_step c.args.lines.now)

pub loop-line-preserved : goal.loop-line-preserved
loop-line-preserved c =
    let left = drop_more c.args.lines.now c.loop-line.line-index c.line-item.result c.loop-line-test.true in
    let here : drop c.loop-line.line-index c.args.lines.now ≡ c.line-item.result ∷ drop (c.loop-line.line-index + 1) c.args.lines.now =
    left ∙ ap (λ (line : Line). line ∷ drop (c.loop-line.line-index + 1) c.args.lines.now) (sym c.line-item.is) in
    let taken : max (max c.loop-line.step c.line-item.result.step) (greatest_step (drop (c.loop-line.line-index + 1) c.args.lines.now)) ≡ greatest_step c.args.lines.now =
    greatest-taken c.loop-line.step c.line-item.result (drop (c.loop-line.line-index + 1) c.args.lines.now)
    ∙ sym (ap (λ (lines : List Line). max c.loop-line.step (greatest_step lines)) here) ∙ c.loop-line.invariant in
    ap (λ (step : ℕ). max step (greatest_step (drop (c.loop-line.line-index + 1) c.args.lines.now)))
    (elim c.if-step-line.branch [
      | then-step-line w ↦ w.step-is ∙ sym (max-up c.loop-line.step c.line-item.result.step w.if-step-line.true)
      | else-step-line w ↦ w.step-is ∙ sym (max-stays c.loop-line.step c.line-item.result.step w.if-step-line.false)
    ]) ∙ taken

pub returns : goal.returns
returns c =
    sym (max-none-right c.loop-line.step) ∙ ap (λ (lines : List Line). max c.loop-line.step (greatest_step lines)) (sym (drop_all c.loop-line.line-index c.args.lines.now c.loop-line-test.false)) ∙ c.loop-line.invariant
