use Rattle.dual_bound.proofs.LeastFacts.{all-stay, never-apart}
use Rattle.dual_bound.proofs.leasts.Leasts.price_all.Goals as goal

pub returns : goal.returns
returns c =
    λ n book old new old_long new_long h.
    all-stay n book old new c.args.self.now.changed c.all-self.result c.args.self.now.lines.items old_long new_long
    (λ span start apart. absurd (never-apart span c.all-self.result c.all-self.ensures start apart)) h
