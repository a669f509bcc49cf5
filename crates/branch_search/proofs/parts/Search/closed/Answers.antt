use Rattle.std.proofs.Common.{◌≡◌, ◌∙◌, ◌≤◌, ℕ, length, sym, ap, subst, arith, Option, Some, None}
use Rattle.std.specs.Prelude.{IfSome}
use Rattle.cash_table.proofs.CostFacts.{cost_at_most}
use Rattle.escrow_units.specs.declared.limits.TheConstants.{AMOUNT_LIMIT}
use Rattle.bound_certificate.specs.declared.limits.TheConstants.{MOST_NODES}
use Rattle.offer_book.specs.Book.{IsBook}
use Rattle.search_tree.specs.Growing.{IsBought, obeys}
use Rattle.search_tree.specs.Laws.{IsClosedTree}
use Rattle.search_tree.specs.Tree.{AreNodesOf, IsLeastGap}
use Rattle.branch_search.proofs.EndFacts.{closed-is, none-by}
use Rattle.branch_search.proofs.GrowthFacts.{bounds-small, own-numbers}
use Rattle.branch_search.proofs.NoneFacts.{none-is}
use Rattle.branch_search.proofs.ResultFacts.{found-by, found-closed}
use Rattle.branch_search.specs.Parts.{SearchContents, best_cents}
use Rattle.branch_search.specs.Search.{IsNoDearerThanBackward}
use Rattle.branch_search.specs.declared.found.Best.{Best}
use Rattle.branch_search.proofs.parts.Search.closed.Goals as goal

pub nodes-requires-clause-own : goal.nodes-requires-clause-own
nodes-requires-clause-own c =
    let now = c.args.self.now in
    let tree = c.args.tree.now in
    own-numbers now.case (obeys now.case c.args.rule) (best_cents now.best) c.requires.tree.grown.0 tree.pool.states tree.nodes c.count.ensures.one c.requires.tree.grown.1.grown

pub returns-in_default-clause-ended : goal.returns-in_default-clause-ended
returns-in_default-clause-ended c =
    let now = c.args.self.now in
    let tree = c.args.tree.now in
    let rule = c.args.rule in
    let popped = c.requires.tree.grown.0 in
    let limits : IsBook now.case.book = subst (λ (s : SearchContents). IsBook s.case.book) c.self.view_is c.line_count.ensures.limits in
    let written : AreNodesOf now.case.book.needs tree c.in_ok-nodes.nodes = subst (λ (s : SearchContents). AreNodesOf s.case.book.needs tree c.in_ok-nodes.nodes) c.self.view_is c.in_ok-nodes.ensures in
    let none : now.best ≡ None = sym (ap (λ (s : SearchContents). s.best) c.self.view_is) ∙ sym c.take.ensures.value ∙ none-by c.take.result c.in_default.not-Some in
    let cents : best_cents now.best ≡ None = ap best_cents none in
    let is : IsClosedTree now.case (obeys now.case rule) None popped tree c.in_ok-nodes.nodes =
    subst (λ (b : Option ℕ). IsClosedTree now.case (obeys now.case rule) b popped tree c.in_ok-nodes.nodes) cents
    (closed-is now.case (obeys now.case rule) (best_cents now.best) tree c.in_ok-nodes.nodes limits c.count.ensures.one c.count.ensures.whole c.requires.tree written) in
    none-is now.case rule popped tree c.in_ok-nodes.nodes is c.requires.reach
    (omega (arith, c.count.ensures.value, c.count.ensures.few, c.requires.capacity, subst (λ (s : SearchContents). s.case.budget ≤ MOST_NODES) c.self.view_is c.self.invariant.limits.budget_to))
    (omega (arith, c.count.ensures.value, c.count.ensures.few, c.requires.capacity))
    (subst (IsNoDearerThanBackward now.case.limit now.case.book) cents c.requires.backward)

pub tree_gap-gap-requires-clause-cost : goal.tree_gap-gap-requires-clause-cost
tree_gap-gap-requires-clause-cost c =
    let own : IsBought c.self.inside.limit c.self.inside.book.now c.in-Some.best.plan c.in-Some.best.cost.0 =
    subst (λ (b : Option Best). IfSome b (λ own. IsBought c.self.inside.limit c.self.inside.book.now own.plan own.cost.0)) (sym c.take.ensures.value ∙ c.in-Some.is) c.self.invariant.bought in
    omega (arith, own.priced, cost_at_most c.self.inside.book.now c.in-Some.best.plan c.line_count.ensures.limits own.permitted)

pub tree_gap-gap-requires-clause-bounds : goal.tree_gap-gap-requires-clause-bounds
tree_gap-gap-requires-clause-bounds c =
    let now = c.args.self.now in
    let tree = c.args.tree.now in
    let limits : IsBook now.case.book = subst (λ (s : SearchContents). IsBook s.case.book) c.self.view_is c.line_count.ensures.limits in
    bounds-small now.case (obeys now.case c.args.rule) (best_cents now.best) c.requires.tree.grown.0 tree.pool.states tree.nodes limits c.count.ensures.one c.requires.tree.grown.1.grown

pub returns-clause-ended : goal.returns-clause-ended
returns-clause-ended c =
    let now = c.args.self.now in
    let tree = c.args.tree.now in
    let rule = c.args.rule in
    let popped = c.requires.tree.grown.0 in
    let best = c.in-Some.best in
    let limits : IsBook now.case.book = subst (λ (s : SearchContents). IsBook s.case.book) c.self.view_is c.line_count.ensures.limits in
    let written : AreNodesOf now.case.book.needs tree c.in_ok-nodes.nodes = subst (λ (s : SearchContents). AreNodesOf s.case.book.needs tree c.in_ok-nodes.nodes) c.self.view_is c.in_ok-nodes.ensures in
    let some : c.self.inside.best ≡ Some best = sym c.take.ensures.value ∙ c.in-Some.is in
    let cents : best_cents now.best ≡ Some best.cost.0 = ap best_cents (sym (ap (λ (s : SearchContents). s.best) c.self.view_is) ∙ some) in
    let own : IsBought c.self.inside.limit c.self.inside.book.now best.plan best.cost.0 =
    subst (λ (b : Option Best). IfSome b (λ own. IsBought c.self.inside.limit c.self.inside.book.now own.plan own.cost.0)) some c.self.invariant.bought in
    let is : IsClosedTree now.case (obeys now.case rule) (Some best.cost.0) popped tree c.in_ok-nodes.nodes =
    subst (λ (b : Option ℕ). IsClosedTree now.case (obeys now.case rule) b popped tree c.in_ok-nodes.nodes) cents
    (closed-is now.case (obeys now.case rule) (best_cents now.best) tree c.in_ok-nodes.nodes limits c.count.ensures.one c.count.ensures.whole c.requires.tree written) in
    let least : IsLeastGap tree.nodes (length tree.nodes) best.cost.0 c.tree_gap-gap.result = record { borne = c.tree_gap-gap.ensures.borne; least = c.tree_gap-gap.ensures.least } in (
      found-closed now.case rule best.plan best.cost.0 c.tree_gap-gap.result popped tree c.in_ok-nodes.nodes is
          (subst (λ (s : SearchContents). s.case.allowance ≤ AMOUNT_LIMIT) c.self.view_is c.self.invariant.limits.allowed)
          (subst (λ (s : SearchContents). IsBought s.case.limit s.case.book best.plan best.cost.0) c.self.view_is own)
          (omega (arith, c.count.ensures.value, c.count.ensures.few, c.requires.capacity, subst (λ (s : SearchContents). s.case.budget ≤ MOST_NODES) c.self.view_is c.self.invariant.limits.budget_to)) least,
      found-by now.case rule best.plan best.cost.0 c.tree_gap-gap.result popped tree c.in_ok-nodes.nodes is c.requires.reach
          (subst (λ (s : SearchContents). IsBought s.case.limit s.case.book best.plan best.cost.0) c.self.view_is own)
          (omega (arith, c.count.ensures.value, c.count.ensures.few, c.requires.capacity)) least
          (subst (IsNoDearerThanBackward now.case.limit now.case.book) cents c.requires.backward),
    )
