use mir.Syntax.{w128}
use Rattle.std.proofs.Common.{◌≡◌, [], ◌∙◌, ◌^◌, ◌<◌, ◌≤◌, ◌+◌, ℤ, true, false, length, sym, ap, subst, arith, to_z, of_z, unsigned_abs}
use Rattle.std.proofs.lemmas.Int.{ints, to_z-of_z}
use Rattle.node_ranges.specs.Ranges.{AreTight, is_proper}
use Rattle.price_lp.specs.declared.proposing.TheConstants.{LEAST_WEIGHT}
use Rattle.proof_tree.specs.Tree.{IsLeaf}
use Rattle.proof_tree.specs.declared.tree.Part.TheVariants as part
use Rattle.halving_tree.specs.Halving.{IsHalved}
use Rattle.offer_book.specs.Book.{IsBook}
use Rattle.search_tree.specs.Growing.{HasGrown, IsPriced, node_of, obeys}
use Rattle.search_tree.specs.Tree.{TreeContents}
use Rattle.search_tree.specs.declared.node.SearchNode.{SearchNode}
use Rattle.branch_search.proofs.EndFacts.{priced-small}
use Rattle.branch_search.proofs.GrowthFacts.{held-priced, rule-obeyed, split-next, stuck-next}
use Rattle.branch_search.specs.Growth.{IsFullTree, IsSide}
use Rattle.branch_search.specs.Parts.{SearchContents, best_cents}
use Rattle.branch_search.proofs.parts.Search.go_on.Goals as goal

pub returns-then-self-count-lt2-clause-taken : goal.returns-then-self-count-lt2-clause-taken
returns-then-self-count-lt2-clause-taken c =
    let now = c.args.self.now in
    let tree = c.args.tree.now in
    let own = node_of tree.nodes c.args.node.0 in
    let Obeys = obeys now.case c.args.rule in
    let line = c.split-split.result.line in
    let at = c.split-split.result.at in
    let limits : IsBook now.case.book = subst (λ (s : SearchContents). IsBook s.case.book) c.self.view_is c.line_count.ensures.limits in
    let tight : AreTight now.case.book now.ranges = subst (λ (s : SearchContents). AreTight s.case.book s.ranges) c.self.view_is c.self.invariant.tight in
    let priced : IsPriced now.case now.ranges own.priced = held-priced now.case Obeys (best_cents now.best) tree.pool.states tree.nodes c.args.node.0 now.ranges c.count.ensures.one c.requires.held in
    let obeyed : Obeys now.ranges line at =
    rule-obeyed now.case c.args.rule (best_cents now.best) now.ranges own.priced line at c.requires.backward priced c.requires.several
    (λ is. subst (λ (s : SearchContents). IsHalved s.case.book.lines s.ranges.lines line at) (c.self-2.view_is ∙ c.pointed-pointed.ensures) (c.split-split.ensures.halved is)) in
    let full : now.case.budget < length tree.pool.states + 2 = omega (arith, c.if-self-count-lt2.true, c.count.ensures.value, c.count.ensures.few, c.requires.capacity, ap (λ (s : SearchContents). s.case.budget) (c.self-2.view_is ∙ c.pointed-pointed.ensures)) in
    let read : c.node.result.now.priced.bound ≡ own.priced.bound = ap (λ (n : SearchNode). n.priced.bound) c.node.ensures in
    let small : unsigned_abs c.node.result.now.priced.bound < 10 ^ 28 = subst (λ (b : ℤ). unsigned_abs b < 10 ^ 28) (sym read) (priced-small now.case now.ranges own.priced limits tight priced) in
    let same : to_z w128 (of_z w128 c.node.result.now.priced.bound) ≡ own.priced.bound = to_z-of_z w128 c.node.result.now.priced.bound (record { sfits = omega (arith, ints, small) }) ∙ read in
    subst (λ (b : ℤ). IsFullTree now.case Obeys (best_cents now.best) b c.put_back.new.self) (sym same)
    (subst (λ (t : TreeContents). IsFullTree now.case Obeys (best_cents now.best) own.priced.bound t) (sym c.put_back.ensures)
    (stuck-next now.case Obeys (best_cents now.best) tree c.args.node.0 line at now.ranges c.count.ensures.one c.requires.held c.requires.several obeyed full))

pub price_sides-requires-clause-parent : goal.price_sides-requires-clause-parent
price_sides-requires-clause-parent c =
    let now = c.args.self.now in
    let tree = c.args.tree.now in
    subst (λ (s : SearchContents). IsLeaf (length s.case.book.needs) c.node-2.result.now.priced.leaf) (sym c.pointed-pointed.ensures)
    (subst (λ (n : SearchNode). IsLeaf (length now.case.book.needs) n.priced.leaf) (sym c.node-2.ensures)
    (held-priced now.case (obeys now.case c.args.rule) (best_cents now.best) tree.pool.states tree.nodes c.args.node.0 now.ranges c.count.ensures.one c.requires.held).improved.well_formed)

pub price_sides-requires-clause-unweighted : goal.price_sides-requires-clause-unweighted
price_sides-requires-clause-unweighted c =
    let now = c.args.self.now in
    let tree = c.args.tree.now in
    subst (λ (n : SearchNode). n.priced.leaf.weights ≡ []) (sym c.node-2.ensures)
    (held-priced now.case (obeys now.case c.args.rule) (best_cents now.best) tree.pool.states tree.nodes c.args.node.0 now.ranges c.count.ensures.one c.requires.held).improved.unweighted

pub price_sides-requires-clause-weight : goal.price_sides-requires-clause-weight
price_sides-requires-clause-weight c =
    let now = c.args.self.now in
    let tree = c.args.tree.now in
    subst (λ (n : SearchNode). LEAST_WEIGHT ≤ n.priced.leaf.rho) (sym c.node-2.ensures)
    (held-priced now.case (obeys now.case c.args.rule) (best_cents now.best) tree.pool.states tree.nodes c.args.node.0 now.ranges c.count.ensures.one c.requires.held).weighs

pub returns-clause-taken : goal.returns-clause-taken
returns-clause-taken c =
    let now = c.args.self.now in
    let tree = c.args.tree.now in
    let own = node_of tree.nodes c.args.node.0 in
    let Obeys = obeys now.case c.args.rule in
    let line = c.split-split.result.line in
    let at = c.split-split.result.at in
    let left = c.in_ok-sides.sides.left in
    let right = c.in_ok-sides.sides.right in
    let limits : IsBook now.case.book = subst (λ (s : SearchContents). IsBook s.case.book) c.self.view_is c.line_count.ensures.limits in
    let tight : AreTight now.case.book now.ranges = subst (λ (s : SearchContents). AreTight s.case.book s.ranges) c.self.view_is c.self.invariant.tight in
    let priced : IsPriced now.case now.ranges own.priced = held-priced now.case Obeys (best_cents now.best) tree.pool.states tree.nodes c.args.node.0 now.ranges c.count.ensures.one c.requires.held in
    let obeyed : Obeys now.ranges line at =
    rule-obeyed now.case c.args.rule (best_cents now.best) now.ranges own.priced line at c.requires.backward priced c.requires.several
    (λ is. subst (λ (s : SearchContents). IsHalved s.case.book.lines s.ranges.lines line at) (c.self-2.view_is ∙ c.pointed-pointed.ensures) (c.split-split.ensures.halved is)) in
    let proper : is_proper now.ranges (part.Line line) at ≡ true = subst (λ (s : SearchContents). is_proper s.ranges (part.Line line) at ≡ true) (c.self-2.view_is ∙ c.pointed-pointed.ensures) c.split-split.ensures.proper in
    let few : line < length now.case.book.lines = subst (λ (s : SearchContents). line < length s.case.book.lines) (c.self-2.view_is ∙ c.pointed-pointed.ensures) c.split-split.ensures.there in
    subst (λ (t : TreeContents). HasGrown now.case Obeys (best_cents now.best) t.pool.states t.nodes) (sym c.split.ensures)
    (split-next now.case Obeys (best_cents now.best) tree c.args.node.0 line at now.ranges left right limits tight c.count.ensures.one c.count.ensures.whole c.requires.held proper few obeyed
    (subst (λ (n : SearchNode). IsSide now.case now.ranges line at false n.priced.leaf left) c.node-2.ensures
    (subst (λ (s : SearchContents). IsSide s.case s.ranges line at false c.node-2.result.now.priced.leaf left) c.pointed-pointed.ensures c.in_ok-sides.ensures.left))
    (subst (λ (n : SearchNode). IsSide now.case now.ranges line at true n.priced.leaf right) c.node-2.ensures
    (subst (λ (s : SearchContents). IsSide s.case s.ranges line at true c.node-2.result.now.priced.leaf right) c.pointed-pointed.ensures c.in_ok-sides.ensures.right)))
