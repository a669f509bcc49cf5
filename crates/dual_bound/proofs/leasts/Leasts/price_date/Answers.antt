use Rattle.std.proofs.Common.{◌∙◌, arith}
use Rattle.std.proofs.lemmas.List.{length-set}
use Rattle.proof_tree.specs.Tree.{with_price}
use Rattle.dual_bound.proofs.LeastFacts.{agree-without, all-stay, still-apart}
use Rattle.dual_bound.proofs.leasts.Leasts.price_date.Goals as goal

pub returns : goal.returns
returns c =
    λ n book leaf price long h.
    let changed = c.args.self.now.changed in
    all-stay n book leaf (with_price leaf c.args.place price) changed c.with-self.result c.args.self.now.lines.items long (length-set leaf.prices c.args.place price ∙ long)
    (λ span start apart. (
      still-apart span changed c.with-self.result c.with-self.ensures.first.0 c.with-self.ensures.last.0 apart,
      agree-without span c.with-self.result leaf c.args.place price (omega (arith, c.with-self.ensures.first.1, c.from.ensures)) (omega (arith, c.with-self.ensures.last.1, c.from.ensures)) apart,
    ))
    h
