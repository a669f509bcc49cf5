use Rattle.std.proofs.Common.{◌<◌, ◌≤◌, ◌+◌, ◌*◌, ℕ, arith}
use Rattle.fixed_powers.proofs.WholeNumbers.{pow-one}
use Rattle.escrow_units.specs.PresentValue.{half_year, two_hundred_percent}
use Rattle.fixed_powers.specs.DiscountPowers.{one, down}
use Rattle.fixed_powers.proofs.RootFacts.{one_high, high_enough-lt, root_high-only, root_high-above}
use Rattle.fixed_powers.proofs.root.root_high.Goals as goal

pub loop-least-init : goal.loop-least-init
loop-least-init c = record {
  order = omega arith;
  within = omega arith;
  enough = one_high c.args.n.0;
  least = λ p enough. omega arith;
}

pub loop-least-preserved : goal.loop-least-preserved
loop-least-preserved c =
    let middle : ℕ = c.next_try-middle.result in
    let no : one * two_hundred_percent ≤ down middle half_year * (two_hundred_percent + c.args.n.0) → ⊥ = λ enough. cc (c.if-is_high_enough.ensures.1 enough) in
    let fails : down middle half_year * (two_hundred_percent + c.args.n.0) < one * two_hundred_percent = omega arith in
    record {
      order = omega arith;
      within = omega arith;
      enough = c.loop-least.invariant.enough;
      least = λ p enough. let below = high_enough-lt c.args.n.0 p middle fails enough in omega arith;
    }

pub returns-clause-value : goal.returns-clause-value
returns-clause-value c = root_high-only c.args.n.0 c.loop-least.enough record {
  within = c.loop-least.invariant.within;
  enough = c.loop-least.invariant.enough;
  least = λ p enough. let below = c.loop-least.invariant.least p enough in omega arith;
}

pub returns-clause-encloses : goal.returns-clause-encloses
returns-clause-encloses c =
    λ a b some factor. rw (pow-one a, pow-one b) (root_high-above c.args.n.0 c.loop-least.enough a b c.loop-least.invariant.enough factor)
