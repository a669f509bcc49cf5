use Rattle.std.proofs.Common.{◌∙◌, ap, arith, sym, refl, List, ℕ}
use Rattle.day_sums.specs.Table.{sums_of}
use Rattle.day_sums.proofs.TableFacts.{summed-longer}
use Rattle.day_sums.proofs.sums.reach.Goals as goal

pub loop-init : goal.loop-init
loop-init c = record { len = sym c.len-counter.ensures; capacity = refl; few = λ within. within; sums = λ first. refl }

pub loop-preserved : goal.loop-preserved
loop-preserved c = record {
  len = omega (arith, c.push_reserved.ensures.len, c.loop.invariant.len);
  capacity = c.push_reserved.ensures.capacity ∙ c.loop.invariant.capacity;
  few = λ within. omega (arith, c.push_reserved.ensures.len, c.loop.invariant.len, c.requires, c.loop-test.true);
  sums = λ first. ap (λ (cents : List ℕ). sums_of first cents) c.push_reserved.ensures.items ∙ (summed-longer first c.loop.cents.items ∙ c.loop.invariant.sums first);
}
