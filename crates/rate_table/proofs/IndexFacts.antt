-- One more range by its first day.
use Rattle.std.proofs.Common.{◌≡◌, ◌∙◌, refl, sym, arith, ℕ, ◌<◌, length, List, [], ◌∷◌, ◌++◌, ℤ, ◌≤ℤ◌, true, false, inl, inr, subst, get_or, take}
use Rattle.std.specs.Prelude.{Some, Contains}
use Rattle.std.specs.List.{list_any}
use Rattle.std.specs.Ordering.{int_cmp, is_eq}
use Rattle.std.specs.BTreeMap.{BTreeMap, get, IsUnchanged, Updates}
use Rattle.std.proofs.lemmas.Int.{ints}
use Rattle.std.proofs.lemmas.Cmp.{int_ranked}
use Rattle.std.proofs.lemmas.Bool.{cases_Bool}
use Rattle.std.proofs.lemmas.List.{get_or_default, get_or-take, length-take}
use Rattle.std.proofs.lemmas.List.Folds.{list_any_at, list_any_none}
use Rattle.std.proofs.lemmas.List.Elements.{All-contains, All-push, Contains-push, Contains-append_left, Contains-push_cases}
use Rattle.rate_table.specs.declared.table.RateRange.{RateRange}
use Rattle.rate_table.specs.RangeIndex.{IsIndex, IsListed, IsRateIndex}
use Rattle.rate_table.specs.Table.{AreApart, IsRange, overlap}
use Rattle.rate_table.proofs.OverlapFacts.{apart-push, overlap-sym, overlap-true}

-- a range that has a day in common with no other begins on a day of its own
own-first : (ranges : List RateRange) (m : BTreeMap ℤ RateRange) (range other : RateRange) → IsRateIndex ranges m → IsRange range → list_any (overlap range) ranges ≡ false → Contains ranges other → other.from ≡ range.from → ⊥
own-first ranges m range other index good apart has same =
    let order : other.from ≤ℤ other.to = (All-contains IsRange ranges other index.order has).order in
    let own : range.from ≤ℤ range.to = good.order in
    let common : overlap range other ≡ true = overlap-true range other (omega (arith, ints)) (omega (arith, ints)) in
    let any : list_any (overlap range) ranges ≡ true = list_any_at (overlap range) ranges has.0 other has.1 (rw has.2 common) in
    cc

same-from_cmp : (a b : ℤ) → is_eq (int_cmp a b) ≡ true → a ≡ b
same-from_cmp a b h = grind (arith, ints, int_ranked a b (int_cmp a b) refl)

differ-by_cmp : (a b : ℤ) → (b ≡ a → ⊥) → is_eq (int_cmp a b) ≡ false
differ-by_cmp a b h = elim (cases_Bool (is_eq (int_cmp a b))) [
  | inl equal ↦ absurd (h (sym (same-from_cmp a b equal)))
  | inr other_day ↦ other_day
]

push-has : (ranges : List RateRange) (m n : BTreeMap ℤ RateRange) (range other : RateRange) → IsRateIndex ranges m → IsRange range → list_any (overlap range) ranges ≡ false → Updates int_cmp m n range.from (Some range) → Contains (ranges ++ range ∷ []) other → get int_cmp n other.from ≡ Some other
push-has ranges m n range other index good apart updates among =
    elim (Contains-push_cases ranges range other among) [
      | inl old ↦ updates.2 other.from (differ-by_cmp range.from other.from (own-first ranges m range other index good apart old)) ∙ index.entries.has other old
      | inr new ↦ subst (λ (r : RateRange). get int_cmp n r.from ≡ Some r) new updates.1
    ]

push-only : (ranges : List RateRange) (m n : BTreeMap ℤ RateRange) (range : RateRange) → IsIndex ranges m → Updates int_cmp m n range.from (Some range) → (first : ℤ) (other : RateRange) → get int_cmp n first ≡ Some other → IsListed (ranges ++ range ∷ []) first other
push-only ranges m n range index updates first other entry =
    elim (cases_Bool (is_eq (int_cmp range.from first))) [
      | inl equal ↦
          let begins : range.from ≡ first = same-from_cmp range.from first equal in
          let found : get int_cmp n first ≡ Some range = subst (λ (day : ℤ). get int_cmp n day ≡ Some range) begins updates.1 in
          let same : range ≡ other = cc in
          subst (λ (r : RateRange). IsListed (ranges ++ range ∷ []) first r) same (record { among = Contains-push ranges range; begins = begins })
      | inr other_day ↦
          let listed = index.only first other (sym (updates.2 first other_day) ∙ entry) in
          record { among = Contains-append_left ranges (range ∷ []) other listed.among; begins = listed.begins }
    ]

pub index-push : (ranges : List RateRange) (m n : BTreeMap ℤ RateRange) (range : RateRange) → IsRateIndex ranges m → IsRange range → list_any (overlap range) ranges ≡ false → Updates int_cmp m n range.from (Some range) → IsRateIndex (ranges ++ range ∷ []) n
index-push ranges m n range index good apart updates = record {
  order = All-push IsRange ranges range index.order good;
  apart = apart-push ranges range index.apart apart;
  entries = record {
    has = λ other among. push-has ranges m n range other index good apart updates among;
    only = push-only ranges m n range index.entries updates;
  };
}

-- a map with the same entries
pub index-unchanged : (ranges : List RateRange) (m n : BTreeMap ℤ RateRange) → IsRateIndex ranges m → IsUnchanged m n → IsRateIndex ranges n
index-unchanged ranges m n index same = record {
  order = index.order;
  apart = index.apart;
  entries = record {
    has = λ range among. rw same (index.entries.has range among);
    only = λ first range entry. index.entries.only first range (rw (← same) entry);
  };
}

-- a range of the list has no day in common with the ones before it
pub apart-before : (ranges : List RateRange) (range : RateRange) (k : ℕ) → AreApart ranges → k < length ranges → range ≡ get_or ranges k range → list_any (overlap range) (take k ranges) ≡ false
apart-before ranges range k apart short is = list_any_none (overlap range) (take k ranges) (λ i d i-short.
    let before : i < k = omega (arith, length-take k ranges) in
    rw (get_or-take k ranges i d before)
    (overlap-sym (get_or ranges i d) range (rw (← (get_or_default ranges k d range short ∙ sym is)) (apart i k d before short))))
