use Rattle.std.proofs.Common.{◌∙◌, ◌<◌, None, get_or, length, sym, ap, arith}
use Rattle.std.proofs.lemmas.List.{get_or_default}
use Rattle.dual_bound.proofs.TableauFacts.{runs-long}
use Rattle.dual_bound.proofs.tableau.Tableau.regular_worth.Goals as goal

pub index-requires : goal.index-requires
index-requires c = omega (arith, c.from.ensures, c.requires.line, runs-long c.args.book.now c.args.self.now c.requires.tableau)

pub run_worth-requires-clause-run : goal.run_worth-requires-clause-run
run_worth-requires-clause-run c =
    let there : c.args.line < length c.args.self.now.series.runs.items = omega (arith, c.requires.line, runs-long c.args.book.now c.args.self.now c.requires.tableau) in
    get_or_default c.args.self.now.series.runs.items c.args.line None c.index.result.now there
    ∙ ap (λ k. get_or c.args.self.now.series.runs.items k c.index.result.now) (sym c.from.ensures) ∙ sym c.index.ensures ∙ c.in-Some.is
