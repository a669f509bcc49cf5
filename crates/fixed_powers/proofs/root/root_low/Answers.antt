use Rattle.std.proofs.Common.{◌<◌, ◌≤◌, ◌+◌, ◌*◌, ℕ, arith}
use Rattle.fixed_powers.proofs.WholeNumbers.{pow-one}
use Rattle.escrow_units.specs.PresentValue.{half_year, two_hundred_percent}
use Rattle.fixed_powers.specs.DiscountPowers.{one, up}
use Rattle.fixed_powers.proofs.RootFacts.{nothing_low, low_enough-lt, root_low-only, root_low-below}
use Rattle.fixed_powers.proofs.root.root_low.Goals as goal

pub loop-enough-init : goal.loop-enough-init
loop-enough-init c = record {
  order = omega arith;
  within = omega arith;
  enough = nothing_low c.args.n.0;
  greatest = λ p le enough. le;
}

pub loop-enough-preserved : goal.loop-enough-preserved
loop-enough-preserved c =
    let middle : ℕ = c.next_try-middle.result in
    let no : up middle half_year * (two_hundred_percent + c.args.n.0) ≤ one * two_hundred_percent → ⊥ = λ enough. cc (c.if-is_low_enough.ensures.1 enough) in
    let fails : one * two_hundred_percent < up middle half_year * (two_hundred_percent + c.args.n.0) = omega arith in
    record {
      order = omega arith;
      within = omega arith;
      enough = c.loop-enough.invariant.enough;
      greatest = λ p le enough. let below = low_enough-lt c.args.n.0 p middle fails enough in omega arith;
    }

pub returns-clause-value : goal.returns-clause-value
returns-clause-value c = root_low-only c.args.n.0 c.loop-enough.enough record {
  within = omega arith;
  enough = c.loop-enough.invariant.enough;
  greatest = λ p le enough. let below = c.loop-enough.invariant.greatest p le enough in omega arith;
}

pub returns-clause-encloses : goal.returns-clause-encloses
returns-clause-encloses c =
    λ a b some factor. rw (pow-one a, pow-one b) (root_low-below c.args.n.0 c.loop-enough.enough a b c.loop-enough.invariant.enough factor)
