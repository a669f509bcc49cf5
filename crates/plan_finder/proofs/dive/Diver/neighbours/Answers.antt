use Rattle.std.proofs.Common.{◌<◌, get_or, length, subst, sym}
use Rattle.offer_book.specs.Book.{BookContents}
use Rattle.offer_book.specs.Portfolio.{IsPermittedUnits}
use Rattle.offer_book.specs.declared.line.Line.{Line}
use Rattle.plan_finder.proofs.LedgerFacts.{by-place}
use Rattle.plan_finder.proofs.dive.Diver.neighbours.Goals as goal

pub returns-clause-below : goal.returns-clause-below
returns-clause-below c =
    let within = subst (λ (b : BookContents). c.args.line < length b.lines) (sym c.self.view_is) c.requires.line in
    subst (λ (b : BookContents). (d : Line) → IsPermittedUnits (get_or b.lines c.args.line d) c.next_to.result.below) c.self.view_is
    (by-place (λ line. IsPermittedUnits line c.next_to.result.below) c.self.inside.book.now c.args.line c.line.result.now within c.line.ensures c.next_to.ensures.below)

pub returns-clause-above : goal.returns-clause-above
returns-clause-above c =
    let within = subst (λ (b : BookContents). c.args.line < length b.lines) (sym c.self.view_is) c.requires.line in
    subst (λ (b : BookContents). (d : Line) → IsPermittedUnits (get_or b.lines c.args.line d) c.next_to.result.above) c.self.view_is
    (by-place (λ line. IsPermittedUnits line c.next_to.result.above) c.self.inside.book.now c.args.line c.line.result.now within c.line.ensures c.next_to.ensures.above)
