use mir.Syntax.{w128}
use Rattle.std.proofs.Common.{◌≡◌, ℤ, Option, Some, sym, subst, arith, to_z, of_z}
use Rattle.std.proofs.lemmas.Int.{ints, to_z-of_z}
use Rattle.std.specs.Prelude.{IfSome, nat_le}
use Rattle.cash_table.proofs.CostFacts.{cost_at_most}
use Rattle.node_ranges.specs.Claims.{bears_out}
use Rattle.search_tree.specs.Growing.{IsBought, claim_of_best}
use Rattle.branch_search.proofs.GapFacts.{gap-decides}
use Rattle.branch_search.specs.Parts.{SearchContents, best_cents}
use Rattle.branch_search.specs.Search.{searched}
use Rattle.branch_search.specs.declared.found.Best.{Best}
use Rattle.branch_search.proofs.parts.Search.is_borne.Goals as goal

pub least_gap-requires-clause-cost : goal.least_gap-requires-clause-cost
least_gap-requires-clause-cost c =
    let own : IsBought c.self.inside.limit c.self.inside.book.now c.in-Some.best.plan c.in-Some.best.cost.0 =
    subst (λ (b : Option Best). IfSome b (λ own. IsBought c.self.inside.limit c.self.inside.book.now own.plan own.cost.0)) c.in-Some.is c.self.invariant.bought in
    omega (arith, own.priced, cost_at_most c.self.inside.book.now c.in-Some.best.plan c.line_count.ensures.limits own.permitted)

pub returns-in-Some : goal.returns-in-Some
returns-in-Some c =
    let same : to_z w128 (of_z w128 c.args.bound) ≡ c.args.bound = to_z-of_z w128 c.args.bound (record { sfits = omega (arith, ints, c.requires) }) in
    let own = searched c.self.inside.book.now c.self.inside.limit c.self.inside.allowance.0 c.self.inside.budget in
    subst (λ (s : SearchContents). nat_le c.least_gap.result c.self.inside.allowance.0 ≡ bears_out c.args.bound (claim_of_best s.case (best_cents s.best))) c.self.view_is
    (subst (λ (b : Option Best). nat_le c.least_gap.result c.self.inside.allowance.0 ≡ bears_out c.args.bound (claim_of_best own (best_cents b))) (sym c.in-Some.is)
    (subst (λ (b : ℤ). nat_le c.least_gap.result c.self.inside.allowance.0 ≡ bears_out b (claim_of_best own (best_cents (Some c.in-Some.best)))) same
    (gap-decides (to_z w128 (of_z w128 c.args.bound)) c.in-Some.best.cost.0 c.least_gap.result c.self.inside.allowance.0 c.least_gap.ensures.supported c.least_gap.ensures.least)))
