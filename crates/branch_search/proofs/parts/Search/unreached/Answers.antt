use Rattle.std.proofs.Common.{◌≡◌, ◌∙◌, false, sym, subst}
use Rattle.halving_tree.specs.Halving.{is_unreached}
use Rattle.offer_book.specs.Portfolio.{Meets}
use Rattle.plan_finder.specs.Dive.{SearchContents as FinderContents}
use Rattle.branch_search.proofs.PartFacts.{met-reaches, reached-is}
use Rattle.branch_search.specs.Parts.{SearchContents}
use Rattle.branch_search.specs.Search.{searched}
use Rattle.branch_search.proofs.parts.Search.unreached.Goals as goal

pub returns-else-is_short_by-clause-none : goal.returns-else-is_short_by-clause-none
returns-else-is_short_by-clause-none c =
    let own = searched c.self.inside.book.now c.self.inside.limit c.self.inside.allowance.0 c.self.inside.budget in
    λ none. subst (λ (s : SearchContents). is_unreached s.case s.ranges ≡ false) c.self.view_is
    (reached-is own c.self.inside.ranges c.put_high_ends.new.plan c.in_ok-day.day c.put_high_ends.ensures.value (sym c.in_ok-day.was ∙ c.first_short.ensures.value) (c.is_short_by.ensures.no c.if-is_short_by.false))

pub returns-then-meets-clause-none : goal.returns-then-meets-clause-none
returns-then-meets-clause-none c =
    let own = searched c.self.inside.book.now c.self.inside.limit c.self.inside.allowance.0 c.self.inside.budget in
    let plan = c.put_high_ends.new.plan in
    let met : Meets own.book plan = subst (λ (f : FinderContents). Meets f.book plan) c.self.invariant.finds (c.meets.ensures.met.0 c.if-meets.true) in
    λ none. subst (λ (s : SearchContents). is_unreached s.case s.ranges ≡ false) c.self.view_is
    (met-reaches own c.self.inside.ranges plan c.line_count.ensures.limits c.put_high_ends.ensures.value met)
