use Rattle.std.proofs.Common.{◌∙◌, sym, arith}
use Rattle.backward_build.proofs.CoverFacts.{fewest-found, fewest-none, fewest-zero}
use Rattle.backward_build.proofs.residual.fewest.Goals as goal

pub returns-then-residual-eq0-clause-value : goal.returns-then-residual-eq0-clause-value
returns-then-residual-eq0-clause-value c = sym (fewest-zero c.args.days.now c.args.residual.now c.args.line.now (omega arith))

pub returns-then-covers-clause-value : goal.returns-then-covers-clause-value
returns-then-covers-clause-value c =
    sym (fewest-found c.args.days.now c.args.residual.now c.args.line.now c.fewest_by_halves.result (omega arith) c.fewest_by_halves.ensures.least c.fewest_by_halves.ensures.most c.fewest_by_halves.ensures.enough c.fewest_by_halves.ensures.fewest)

pub returns-else-covers-clause-value : goal.returns-else-covers-clause-value
returns-else-covers-clause-value c = sym (fewest-none c.args.days.now c.args.residual.now c.args.line.now (omega arith) (sym c.covers.ensures ∙ c.if-covers.false))
