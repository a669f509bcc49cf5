use Rattle.std.proofs.Common.{◌≡◌, ◌∙◌, true, sym, subst}
use Rattle.node_ranges.specs.Ranges.{is_single}
use Rattle.node_ranges.specs.Claims.{low_ends}
use Rattle.search_tree.specs.Growing.{IsLostPoint}
use Rattle.branch_search.proofs.PartFacts.{point-lost}
use Rattle.branch_search.specs.Parts.{IsCounted, SearchContents, best_cents}
use Rattle.branch_search.specs.Search.{searched}
use Rattle.branch_search.proofs.parts.Search.closed_by.Goals as goal

pub returns-then-single-clause-tried : goal.returns-then-single-clause-tried
returns-then-single-clause-tried c =
    let own = searched c.self.inside.book.now c.self.inside.limit c.self.inside.allowance.0 c.self.inside.budget in
    let single : is_single c.self.inside.ranges ≡ true = sym c.single.ensures ∙ c.if-single.true in
    let counted : IsCounted own (low_ends c.self.inside.ranges) (best_cents c.take_plan.new.self.best) =
    subst (λ (s : SearchContents). IsCounted s.case (low_ends s.ranges) (best_cents c.take_plan.new.self.best)) (sym c.self.view_is) c.in_ok-take_plan.ensures.taken in
    subst (λ (s : SearchContents). IsLostPoint s.case (best_cents c.take_plan.new.self.best) s.ranges) (c.self.view_is ∙ c.unreached.ensures.search)
    (point-lost own c.self.inside.ranges (best_cents c.take_plan.new.self.best) c.line_count.ensures.limits c.self.invariant.limits.limit_from c.self.invariant.limits.limit_to single counted)
