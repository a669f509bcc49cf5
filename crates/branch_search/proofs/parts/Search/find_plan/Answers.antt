use Rattle.std.proofs.Common.{subst}
use Rattle.search_tree.specs.Best.{IsNoDearer}
use Rattle.branch_search.proofs.PartFacts.{dearer-kept}
use Rattle.branch_search.specs.Parts.{SearchContents, best_cents}
use Rattle.branch_search.proofs.parts.Search.find_plan.Goals as goal

pub returns-clause-backward : goal.returns-clause-backward
returns-clause-backward c =
    let own = c.args.self.now.case in
    let first = c.take_cheapest.new.self in
    let last = c.find_cheaper.new.self in
    dearer-kept own.limit own.book (best_cents first.best) (best_cents last.best)
    (subst (λ (s : SearchContents). IsNoDearer (best_cents s.best) (best_cents last.best)) c.in_ok-is_settled.ensures c.in_ok-find_cheaper.ensures.no_dearer)
    c.in_ok-take_cheapest.ensures.backward
