use mir.Syntax.{w128}
use Rattle.std.proofs.Common.{◌≡◌, ◌≤◌, ℤ, sym, ap, subst, arith, to_z, of_z}
use Rattle.std.proofs.lemmas.Int.{ints, to_z-of_z}
use Rattle.case_file.specs.Case.{CaseContents}
use Rattle.node_ranges.proofs.RangeFacts.{tight-of}
use Rattle.price_lp.specs.declared.proposing.TheConstants.{LEAST_WEIGHT}
use Rattle.proof_tree.specs.declared.tree.Leaf.{Leaf}
use Rattle.search_tree.specs.Growing.{IsPriced}
use Rattle.branch_search.proofs.PartFacts.{priced-is}
use Rattle.branch_search.specs.Parts.{SearchContents}
use Rattle.branch_search.specs.Search.{searched}
use Rattle.branch_search.proofs.parts.Search.price.Goals as goal

pub tune-bound-requires-clause-ranges : goal.tune-bound-requires-clause-ranges
tune-bound-requires-clause-ranges c = rw c.self.invariant.tuned (tight-of c.self.inside.book.now c.self.inside.ranges c.self.invariant.tight)

pub tune-bound-requires-clause-unweighted : goal.tune-bound-requires-clause-unweighted
tune-bound-requires-clause-unweighted c = ap (λ (l : Leaf). l.weights) c.self.invariant.based

pub returns-clause-priced : goal.returns-clause-priced
returns-clause-priced c =
    let own : CaseContents = searched c.self.inside.book.now c.self.inside.limit c.self.inside.allowance.0 c.self.inside.budget in
    let same : to_z w128 (of_z w128 c.tune-bound.result) ≡ c.tune-bound.result = to_z-of_z w128 c.tune-bound.result (record { sfits = omega (arith, ints, c.tune-bound.type_inv) }) in
    subst (λ (s : SearchContents). IsPriced s.case s.ranges (record { leaf = c.tune-bound.new.into; bound = to_z w128 (of_z w128 c.tune-bound.result) })) c.self.view_is
    (subst (λ (b : ℤ). IsPriced own c.self.inside.ranges (record { leaf = c.tune-bound.new.into; bound = b })) (sym same)
    (priced-is own c.self.inside.tuner c.self.inside.base c.tune-bound.new.into c.self.inside.ranges c.tune-bound.result c.self.invariant.tuned c.self.invariant.based c.need_count.ensures.limits c.self.invariant.tight
    c.tune-bound.ensures.improved c.tune-bound.ensures.zeros (c.tune-bound.ensures.weight base c.requires.weight) c.tune-bound.ensures.shown))
  where
    base : LEAST_WEIGHT ≤ c.self.inside.base.rho
    base = let same = ap (λ (l : Leaf). l.rho) c.self.invariant.based in omega (arith, same)
