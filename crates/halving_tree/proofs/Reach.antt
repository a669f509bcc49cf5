-- The leaf that weighs needs alone keeps the limits of a leaf.
use Rattle.std.proofs.Common.{◌≡◌, ℕ, ◌*◌, ◌<◌, ◌≤◌, List, length, map, get_or, refl, arith, Bool, true, false, if◌then◌else◌, ℤ, ◌<ℤ◌}
use Rattle.std.specs.Prelude.{int_le}
use Rattle.std.proofs.lemmas.Int.{ints}
use Rattle.std.proofs.lemmas.List.{get_or-map, length-map}
use Rattle.std.proofs.lemmas.List.Elements.{All-map}
use Rattle.proof_tree.specs.Tree.{IsLeaf}
use Rattle.proof_tree.specs.declared.prices.TheConstants.{PRICE_SCALE}
use Rattle.escrow_units.specs.Flows.{Rise}
use Rattle.escrow_units.specs.declared.security.Flow.{Flow}
use Rattle.halving_tree.specs.Base.{reach_leaf}

-- the price of a need date
abbrev pub reach_price : ℤ → Flow → ℕ
reach_price day need = if int_le need.day day then PRICE_SCALE else 0

price-small : (day : ℤ) (need : Flow) → reach_price day need ≤ 2 * PRICE_SCALE
price-small day need = by (int_le need.day day)
  where
    by : (b : Bool) → (if b then PRICE_SCALE else 0) ≤ 2 * PRICE_SCALE
    by true = omega arith
    by false = omega arith

price-falls : (day : ℤ) (earlier later : Flow) → earlier.day <ℤ later.day → reach_price day later ≤ reach_price day earlier
price-falls day earlier later lt = by (int_le earlier.day day) refl (int_le later.day day) refl
  where
    by : (a : Bool) → int_le earlier.day day ≡ a → (b : Bool) → int_le later.day day ≡ b → (if b then PRICE_SCALE else 0) ≤ (if a then PRICE_SCALE else 0)
    by true first true second = omega arith
    by true first false second = omega arith
    by false first false second = omega arith
    by false first true second = absurd (omega (arith, ints, first, second, lt))

pub reach_is_leaf : (needs : List Flow) (day : ℤ) → Rise needs → IsLeaf (length needs) (reach_leaf needs day)
reach_is_leaf needs day rising = record {
  cost = omega arith;
  limit = omega arith;
  every_date = length-map needs (reach_price day);
  range = All-map (λ (price : ℕ). price ≤ 2 * PRICE_SCALE) (reach_price day) needs (λ k d lt. price-small day (get_or needs k d));
  falling = λ j k d lt few.
      let within : k < length needs = omega (arith, few, length-map needs (reach_price day)) in
      let none : Flow = record { day = day; cents = record { 0 = 0 } } in
      let one : get_or (map (reach_price day) needs) j d ≡ reach_price day (get_or needs j none) = get_or-map (reach_price day) needs j none d (omega arith) in
      let other : get_or (map (reach_price day) needs) k d ≡ reach_price day (get_or needs k none) = get_or-map (reach_price day) needs k none d within in
      omega (arith, one, other, price-falls day (get_or needs j none) (get_or needs k none) (rising j k none lt within));
  weights = record { few = omega arith; each = λ k d few. absurd (omega (arith, few)); rising = λ j k d lt few. absurd (omega (arith, few)) };
}
