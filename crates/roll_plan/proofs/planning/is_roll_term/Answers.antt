use Rattle.std.proofs.Common.{◌≡◌, ◌∙◌, ◌≤ℤ◌, ℤ, refl, sym, arith, true, false, not, Bool, is_lt, int_cmp}
use Rattle.std.proofs.lemmas.Int.{ints}
use Rattle.escrow_units.specs.OpenDays.{is_closed}
use Rattle.roll_plan.proofs.planning.is_roll_term.Goals as goal

not_true : (b : Bool) → true ≡ not b → b ≡ false
not_true true h = cc
not_true false h = refl

at_most : (a b : ℤ) → false ≡ is_lt (int_cmp a b) → b ≤ℤ a
at_most a b h = grind (arith, ints)

pub returns-then-is_open-clause-yes : goal.returns-then-is_open-clause-yes
returns-then-is_open-clause-yes c = λ yes. record {
  least = omega (arith, ints, c.if-number.false, c.number.ensures.value, c.number-2.ensures.value);
  most = rw (← c.years_after.ensures) (at_most c.years_after.result c.args.to c.if-lt.ensures);
  buys = not_true (is_closed c.args.closed.now c.args.from) c.if-is_open.ensures;
  pays = not_true (is_closed c.args.closed.now c.args.to) (sym yes ∙ c.is_open-then-is_open.ensures);
}
