use mir.Syntax.{w128}
use Rattle.std.proofs.Common.{◌≡◌, ◌∙◌, ◌^◌, ◌<◌, ℤ, List, sym, ap, subst, arith, to_z, of_z, unsigned_abs, Option}
use Rattle.std.proofs.lemmas.Int.{ints, to_z-of_z}
use Rattle.case_file.specs.Case.{CaseContents}
use Rattle.node_ranges.specs.Ranges.{AreTight}
use Rattle.node_pool.specs.Way.{AreProper, IsWay, Step, ranges_at}
use Rattle.offer_book.specs.Book.{IsBook}
use Rattle.search_tree.specs.Best.{IsNoDearer}
use Rattle.search_tree.specs.Growing.{HasGrown, IsHeld, IsPriced, IsTried, node_of, obeys}
use Rattle.search_tree.specs.Tree.{TreeContents}
use Rattle.search_tree.specs.declared.node.SearchNode.{SearchNode}
use Rattle.branch_search.proofs.EndFacts.{priced-small}
use Rattle.branch_search.proofs.GrowthFacts.{closed-next, held-cheaper, held-priced, popped-way, same-closed}
use Rattle.branch_search.proofs.PartFacts.{as-many_lines, as-many_sums, on-ok-map}
use Rattle.branch_search.proofs.TakeFacts.{held-after, held-before}
use Rattle.branch_search.specs.Growth.{IsTakenTo, left_to_do}
use Rattle.branch_search.specs.Parts.{AreSameBut, SearchContents, best_cents}
use Rattle.branch_search.specs.Search.{searched}
use Rattle.branch_search.specs.declared.found.Best.{Best}
use Rattle.branch_search.proofs.parts.Search.take.Goals as goal

pub ranges_of-requires-clause-way : goal.ranges_of-requires-clause-way
ranges_of-requires-clause-way c =
    let now = c.args.self.now in
    let tree = c.args.tree.now in
    let way = popped-way now.case (obeys now.case c.args.rule) (best_cents now.best) tree.pool.states tree.nodes c.args.node.0 c.count.ensures.one c.requires.held in
    (way.0, way.1, subst (λ (s : SearchContents). AreProper s.case.book way.0) (sym c.self.view_is) way.2)

pub ranges_of-requires-clause-lines : goal.ranges_of-requires-clause-lines
ranges_of-requires-clause-lines c = as-many_lines c.self.inside.book.now c.self.inside.root c.self.inside.ranges c.self.invariant.rooted c.self.invariant.tight

pub ranges_of-requires-clause-sums : goal.ranges_of-requires-clause-sums
ranges_of-requires-clause-sums c = as-many_sums c.self.inside.book.now c.self.inside.root c.self.inside.ranges c.self.invariant.rooted c.self.invariant.tight

pub closing-requires : goal.closing-requires
closing-requires c =
    let now = c.args.self.now in
    let tree = c.args.tree.now in
    let ranges = c.ranges_of.new.into in
    let read : c.node.result.now.priced.bound ≡ (node_of tree.nodes c.args.node.0).priced.bound = ap (λ (n : SearchNode). n.priced.bound) c.node.ensures in
    let limits : IsBook now.case.book = subst (λ (s : SearchContents). IsBook s.case.book) c.self.view_is c.line_count.ensures.limits in
    let tight : AreTight now.case.book ranges = subst (λ (s : SearchContents). AreTight s.case.book ranges) c.self.view_is c.ranges_of.ensures.tight in
    let held = held-before now c.args.rule tree.pool.states tree.nodes c.args.node.0 ranges c.requires.held
    (subst (λ (s : SearchContents). (way : List Step) → IsWay tree.pool.states c.args.node.0 way → AreProper s.case.book way → ranges ≡ ranges_at s.case.book way) c.self.view_is c.ranges_of.ensures.value) in
    let priced : IsPriced now.case ranges (node_of tree.nodes c.args.node.0).priced = held-priced now.case (obeys now.case c.args.rule) (best_cents now.best) tree.pool.states tree.nodes c.args.node.0 ranges c.count.ensures.one held in
    let small : unsigned_abs c.node.result.now.priced.bound < 10 ^ 28 = subst (λ (b : ℤ). unsigned_abs b < 10 ^ 28) (sym read) (priced-small now.case ranges (node_of tree.nodes c.args.node.0).priced limits tight priced) in
    let same : to_z w128 (of_z w128 c.node.result.now.priced.bound) ≡ c.node.result.now.priced.bound = to_z-of_z w128 c.node.result.now.priced.bound (record { sfits = omega (arith, ints, small) }) in
    subst (λ (b : ℤ). unsigned_abs b < 10 ^ 28) (sym same) small

pub go_on-requires-clause-held : goal.go_on-requires-clause-held
go_on-requires-clause-held c =
    let now = c.args.self.now in
    let tree = c.args.tree.now in
    let ranges = c.ranges_of.new.into in
    let held = held-before now c.args.rule tree.pool.states tree.nodes c.args.node.0 ranges c.requires.held
    (subst (λ (s : SearchContents). (way : List Step) → IsWay tree.pool.states c.args.node.0 way → AreProper s.case.book way → ranges ≡ ranges_at s.case.book way) c.self.view_is c.ranges_of.ensures.value) in
    held-after now c.closing.new.self c.args.rule tree.pool.states tree.nodes c.args.node.0 ranges held
    (subst (λ (s : SearchContents). AreSameBut (record s { ranges = ranges }) c.closing.new.self) c.self.view_is c.in_ok-closing.ensures.kept)
    (subst (λ (s : SearchContents). IsNoDearer (best_cents s.best) (best_cents c.closing.new.self.best)) c.self.view_is c.in_ok-closing.ensures.no_dearer)

pub returns-in-Open-clause-taken : goal.returns-in-Open-clause-taken
returns-in-Open-clause-taken c =
    let now = c.args.self.now in
    let closing = c.closing.new.self in
    let same : closing.case ≡ now.case = c.in_ok-closing.ensures.kept.case ∙ ap (λ (s : SearchContents). s.case) c.self.view_is in
    on-ok-map c.go_on.result (IsTakenTo closing.case (obeys closing.case c.args.rule) (best_cents closing.best) c.go_on.new.tree) (IsTakenTo now.case (obeys now.case c.args.rule) (best_cents c.go_on.new.self.best) c.go_on.new.tree)
    (c.go_on.new.self ≡ closing)
    (λ kept ended is. subst (λ (b : Option Best). IsTakenTo now.case (obeys now.case c.args.rule) (best_cents b) c.go_on.new.tree ended) (sym (ap (λ (s : SearchContents). s.best) kept))
    (subst (λ (k : CaseContents). IsTakenTo k (obeys k c.args.rule) (best_cents closing.best) c.go_on.new.tree ended) same is))
    c.go_on.ensures.search c.go_on.ensures.taken

pub returns-in_default : goal.returns-in_default
returns-in_default c =
    let now = c.args.self.now in
    let tree = c.args.tree.now in
    let ranges = c.ranges_of.new.into in
    let Obeys = obeys now.case c.args.rule in
    let after = best_cents c.closing.new.self.best in
    let how = c.in_ok-closing.closing in
    let own = node_of tree.nodes c.args.node.0 in
    let held = held-before now c.args.rule tree.pool.states tree.nodes c.args.node.0 ranges c.requires.held
    (subst (λ (s : SearchContents). (way : List Step) → IsWay tree.pool.states c.args.node.0 way → AreProper s.case.book way → ranges ≡ ranges_at s.case.book way) c.self.view_is c.ranges_of.ensures.value) in
    let cheaper : IsNoDearer (best_cents now.best) after = subst (λ (s : SearchContents). IsNoDearer (best_cents s.best) after) c.self.view_is c.in_ok-closing.ensures.no_dearer in
    let next : IsHeld now.case Obeys after tree.pool.states tree.nodes c.args.node.0 ranges = held-cheaper now.case Obeys (best_cents now.best) after tree.pool.states tree.nodes c.args.node.0 ranges cheaper held in
    let read : c.node.result.now.priced.bound ≡ own.priced.bound = ap (λ (n : SearchNode). n.priced.bound) c.node.ensures in
    let limits : IsBook now.case.book = subst (λ (s : SearchContents). IsBook s.case.book) c.self.view_is c.line_count.ensures.limits in
    let tight : AreTight now.case.book ranges = subst (λ (s : SearchContents). AreTight s.case.book ranges) c.self.view_is c.ranges_of.ensures.tight in
    let priced : IsPriced now.case ranges own.priced = held-priced now.case Obeys (best_cents now.best) tree.pool.states tree.nodes c.args.node.0 ranges c.count.ensures.one held in
    let small : unsigned_abs c.node.result.now.priced.bound < 10 ^ 28 = subst (λ (b : ℤ). unsigned_abs b < 10 ^ 28) (sym read) (priced-small now.case ranges own.priced limits tight priced) in
    let same : to_z w128 (of_z w128 c.node.result.now.priced.bound) ≡ own.priced.bound = to_z-of_z w128 c.node.result.now.priced.bound (record { sfits = omega (arith, ints, small) }) ∙ read in
    let tried : IsTried now.case after ranges own.priced.bound how =
    subst (λ (s : SearchContents). IsTried s.case after ranges own.priced.bound how) c.self.view_is
    (subst (λ (b : ℤ). IsTried (searched c.self.inside.book.now c.self.inside.limit c.self.inside.allowance.0 c.self.inside.budget) after ranges b how) same c.in_ok-closing.ensures.tried) in
    record {
      case = c.in_ok-closing.ensures.kept.case ∙ ap (λ (s : SearchContents). s.case) c.self.view_is;
      no_dearer = cheaper;
      taken = subst (λ (t : TreeContents). HasGrown now.case Obeys after t.pool.states t.nodes) (sym c.close.ensures) (closed-next now.case Obeys after tree c.args.node.0 ranges how next c.in_default.not-Open tried);
      capacity = ap (λ (t : TreeContents). t.pool.capacity) c.close.ensures;
      goes_on = λ none. omega (arith, ap (λ (t : TreeContents). left_to_do t.pool) c.close.ensures, same-closed tree c.args.node.0 how c.requires.held.held);
    }
