use mir.Syntax.{w128}
use Rattle.std.proofs.Common.{◌≡◌, ◌∙◌, ℤ, sym, ap, subst, arith, to_z, of_z}
use Rattle.std.proofs.lemmas.Int.{ints, to_z-of_z}
use Rattle.case_file.specs.Case.{CaseContents}
use Rattle.offer_book.specs.Book.{IsBook}
use Rattle.search_tree.specs.Growing.{HasGrown, obeys}
use Rattle.search_tree.specs.Tree.{TreeContents}
use Rattle.branch_search.proofs.EndFacts.{IsStuckBound, start-grown, stuck-small}
use Rattle.branch_search.proofs.PartFacts.{covers-backward, dearer-kept}
use Rattle.branch_search.specs.Growth.{IsClosedTree, IsFullTree, IsGrowth}
use Rattle.branch_search.specs.Parts.{SearchContents, best_cents}
use Rattle.branch_search.specs.Search.{IsNoDearerThanBackward}
use Rattle.branch_search.specs.declared.growing.Growth.{Growth}
use Rattle.branch_search.proofs.parts.Search.grow_by.Goals as goal

pub grow-requires-clause-grown : goal.grow-requires-clause-grown
grow-requires-clause-grown g c =
    let now = c.args.self.now in
    subst (λ (t : TreeContents). HasGrown now.case (obeys now.case c.args.rule) (best_cents now.best) t.pool.states t.nodes) (sym c.requires.tree.alone)
    (start-grown now.case (obeys now.case c.args.rule) (best_cents now.best) now.case.budget c.requires.tree.root c.requires.tree.priced)

pub grow-requires-clause-capacity : goal.grow-requires-clause-capacity
grow-requires-clause-capacity g c = ap (λ (t : TreeContents). t.pool.capacity) c.requires.tree.alone

pub grow-requires-clause-backward : goal.grow-requires-clause-backward
grow-requires-clause-backward g c = covers-backward c.args.self.now.case (best_cents c.args.self.now.best) c.requires.backward

pub closed-requires-clause-tree : goal.closed-requires-clause-tree
closed-requires-clause-tree g c =
    let now = c.args.self.now in
    let last = c.grow.new.self in
    let best = best_cents last.best in
    subst (λ (k : CaseContents). IsClosedTree k (obeys k c.args.rule) best c.grow.new.tree) (sym c.in_ok-growth.ensures.case)
    (subst (λ (g : Growth). IsGrowth now.case (obeys now.case c.args.rule) best c.grow.new.tree g) c.in-Closed.is c.in_ok-growth.ensures.growth)

pub closed-requires-clause-backward : goal.closed-requires-clause-backward
closed-requires-clause-backward g c =
    let now = c.args.self.now in
    let last = c.grow.new.self in
    subst (λ (k : CaseContents). IsNoDearerThanBackward k.limit k.book (best_cents last.best)) (sym c.in_ok-growth.ensures.case)
    (dearer-kept now.case.limit now.case.book (best_cents now.best) (best_cents last.best) c.in_ok-growth.ensures.no_dearer c.requires.backward)

pub shown-requires-clause-tree : goal.shown-requires-clause-tree
shown-requires-clause-tree g c =
    let now = c.args.self.now in
    let last = c.grow.new.self in
    let best = best_cents last.best in
    let bound = c.in-Spent.bound in
    let tree = c.grow.new.tree in
    let limits : IsBook last.case.book = subst (λ (s : SearchContents). IsBook s.case.book) c.self.view_is c.line_count.ensures.limits in
    let is : IsFullTree last.case (obeys last.case c.args.rule) best bound tree =
    subst (λ (k : CaseContents). IsFullTree k (obeys k c.args.rule) best bound tree) (sym c.in_ok-growth.ensures.case)
    (subst (λ (g : Growth). IsGrowth now.case (obeys now.case c.args.rule) best tree g) c.in-Spent.is c.in_ok-growth.ensures.growth) in
    let small : IsStuckBound last.case bound = stuck-small last.case (obeys last.case c.args.rule) best bound tree.pool.states tree.nodes limits c.count.ensures.one is.stuck in
    let same : to_z w128 (of_z w128 bound) ≡ bound = to_z-of_z w128 bound (record { sfits = omega (arith, ints, small.small) }) in
    subst (λ (b : ℤ). IsFullTree last.case (obeys last.case c.args.rule) best b tree) (sym same) is

pub returns-in_ok-shown-in-Spent-clause-capacity : goal.returns-in_ok-shown-in-Spent-clause-capacity
returns-in_ok-shown-in-Spent-clause-capacity g c = c.in_ok-shown-in-Spent.ensures.capacity ∙ c.in_ok-growth.ensures.capacity
