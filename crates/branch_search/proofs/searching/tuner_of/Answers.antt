use Rattle.std.proofs.Common.{◌≡◌, ◌-◌, ℕ, arith, subst}
use Rattle.std.specs.Prelude.{IfOk}
use Rattle.branch_search.proofs.searching.tuner_of.Goals as goal

pub returns : goal.returns
returns c =
    let below : c.powers.result.now.yield_units ≡ c.args.limit.now - 1 = omega (arith, c.powers.ensures.below) in
    subst (λ (n : ℕ). IfOk c.make.result (λ tuner. tuner ≡ record { book = c.args.book.now; yield_units = n })) below c.make.ensures
