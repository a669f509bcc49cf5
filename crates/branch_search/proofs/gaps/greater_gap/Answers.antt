use mir.Syntax.{w128}
use Rattle.std.proofs.Common.{◌≡◌, ℤ, true, Some, pos, ◌-ℤ◌, subst, arith, to_z, of_z}
use Rattle.std.proofs.lemmas.Int.{ints, to_z-of_z}
use Rattle.branch_search.proofs.GapFacts.{bears-wider}
use Rattle.branch_search.proofs.gaps.greater_gap.Goals as goal
use Rattle.node_ranges.specs.Claims.{bears_out}

pub returns-else-gap-own-clause-borne : goal.returns-else-gap-own-clause-borne
returns-else-gap-own-clause-borne c =
    let same : to_z w128 (of_z w128 c.args.node.now.priced.bound) ≡ c.args.node.now.priced.bound = to_z-of_z w128 c.args.node.now.priced.bound (record { sfits = omega (arith, ints, c.requires.bound) }) in
    let supported : bears_out c.args.node.now.priced.bound (Some (pos c.args.cost.0 -ℤ pos c.least_gap-own.result)) ≡ true =
    subst (λ (b : ℤ). bears_out b (Some (pos c.args.cost.0 -ℤ pos c.least_gap-own.result)) ≡ true) same c.least_gap-own.ensures.supported in
    λ borne. bears-wider c.args.node.now.priced.bound c.args.cost.0 c.least_gap-own.result c.args.gap c.if-gap-own.false supported
