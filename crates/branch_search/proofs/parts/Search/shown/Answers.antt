use mir.Syntax.{w128}
use Rattle.std.proofs.Common.{◌≡◌, ◌^◌, ◌<◌, ◌≤ℤ◌, ℤ, pos, sym, subst, arith, to_z, of_z, unsigned_abs}
use Rattle.std.proofs.lemmas.Int.{ints, to_z-of_z}
use Rattle.offer_book.specs.Book.{IsBook}
use Rattle.search_tree.proofs.SpentFacts.{bound-of}
use Rattle.search_tree.specs.Growing.{obeys}
use Rattle.search_tree.specs.Laws.{IsFull}
use Rattle.search_tree.specs.Shows.{IsBoundOf}
use Rattle.search_tree.specs.Tree.{AreNodesOf}
use Rattle.branch_search.proofs.EndFacts.{IsStuckBound, full-is, stuck-small}
use Rattle.branch_search.proofs.GrowthFacts.{drained-numbers, own-numbers}
use Rattle.branch_search.proofs.SpentFacts.{spent-run}
use Rattle.branch_search.specs.Parts.{SearchContents, best_cents}
use Rattle.branch_search.proofs.parts.Search.shown.Goals as goal

pub nodes-requires-clause-own : goal.nodes-requires-clause-own
nodes-requires-clause-own c =
    let now = c.args.self.now in
    let tree = c.args.tree.now in
    drained-numbers tree c.close_waiting.new.self
    (own-numbers now.case (obeys now.case c.args.rule) (best_cents now.best) c.args.bound tree.pool.states tree.nodes c.count.ensures.one c.requires.tree.stuck.kept.grown) c.close_waiting.ensures.drained

pub greatest_cost-requires-clause-bound : goal.greatest_cost-requires-clause-bound
greatest_cost-requires-clause-bound c =
    let now = c.args.self.now in
    let tree = c.args.tree.now in
    let limits : IsBook now.case.book = subst (λ (s : SearchContents). IsBook s.case.book) c.self.view_is c.line_count.ensures.limits in
    let small : IsStuckBound now.case c.args.bound = stuck-small now.case (obeys now.case c.args.rule) (best_cents now.best) c.args.bound tree.pool.states tree.nodes limits c.count.ensures.one c.requires.tree.stuck in
    let same : to_z w128 (of_z w128 c.args.bound) ≡ c.args.bound = to_z-of_z w128 c.args.bound (record { sfits = omega (arith, ints, small.small) }) in
    subst (λ (b : ℤ). unsigned_abs b < 10 ^ 28) (sym same) small.small

pub returns-clause-shown : goal.returns-clause-shown
returns-clause-shown c =
    let now = c.args.self.now in
    let tree = c.args.tree.now in
    let after = c.close_waiting.new.self in
    let Obeys = obeys now.case c.args.rule in
    let cents = c.greatest_cost.result.0 in
    let limits : IsBook now.case.book = subst (λ (s : SearchContents). IsBook s.case.book) c.self.view_is c.line_count.ensures.limits in
    let written : AreNodesOf now.case.book.needs after c.in_ok-tree.tree = subst (λ (s : SearchContents). AreNodesOf s.case.book.needs after c.in_ok-tree.tree) c.self.view_is c.in_ok-tree.ensures in
    let small : IsStuckBound now.case c.args.bound = stuck-small now.case Obeys (best_cents now.best) c.args.bound tree.pool.states tree.nodes limits c.count.ensures.one c.requires.tree.stuck in
    let same : to_z w128 (of_z w128 c.args.bound) ≡ c.args.bound = to_z-of_z w128 c.args.bound (record { sfits = omega (arith, ints, small.small) }) in
    let is_bound : IsBoundOf c.args.bound cents =
    subst (λ (b : ℤ). IsBoundOf b cents) same
    (bound-of (to_z w128 (of_z w128 c.args.bound)) cents (subst (λ (b : ℤ). pos 0 ≤ℤ b) (sym same) small.some) c.greatest_cost.ensures.supported c.greatest_cost.ensures.greatest) in
    let full : IsFull now.case Obeys (best_cents now.best) c.args.bound tree after =
    full-is now.case Obeys (best_cents now.best) c.args.bound tree after limits c.count.ensures.one c.requires.tree c.close_waiting.ensures.drained c.count-2.ensures.one c.count-2.ensures.whole in
    spent-run now.case c.args.rule (best_cents now.best) c.args.bound cents tree after c.in_ok-tree.tree full written is_bound
    (omega (arith, c.count.ensures.value, c.count.ensures.few, c.requires.capacity))
