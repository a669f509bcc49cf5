use Rattle.std.proofs.Common.{◌∙◌, sym}
use Rattle.dual_bound.proofs.LeastFacts.{all-stay, still-apart}
use Rattle.dual_bound.proofs.leasts.Leasts.price.Goals as goal

pub returns : goal.returns
returns c =
    λ n book old_long h.
    let changed = c.args.self.now.changed in
    all-stay n book c.args.old.now c.args.new.now changed c.together-self.result c.args.self.now.lines.items old_long (sym c.requires.long ∙ old_long)
    (λ span start apart. (
      still-apart span changed c.together-self.result c.together-self.ensures.first.0 c.together-self.ensures.last.0 apart,
      c.changes.ensures span start (still-apart span c.changes.result c.together-self.result c.together-self.ensures.first.1 c.together-self.ensures.last.1 apart),
    ))
    h
