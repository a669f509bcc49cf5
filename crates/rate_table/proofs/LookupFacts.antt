-- The range that holds a day.
use Rattle.std.proofs.Common.{◌≡◌, ◌∙◌, refl, ap, arith, List, [], ◌∷◌, ℤ, true, false, ◌⊎◌, inl, inr, rules}
use Rattle.std.specs.Prelude.{◌↔◌, Some, None, IsNone, IfSome, Contains, All, Any, is_some, int_le, if◌then◌else◌}
use Rattle.std.specs.BTreeMap.{BTreeMap}
use Rattle.std.specs.List.{list_any}
use Rattle.std.proofs.lemmas.Int.{ints}
use Rattle.std.proofs.lemmas.List.Folds.{list_any_at}
use Rattle.std.proofs.lemmas.Bool.{cases_Bool}
use Rattle.std.proofs.lemmas.List.Elements.{All-contains, Contains-append_right, All-nil, All-cons}
use Rattle.rate_table.specs.declared.table.RateRange.{RateRange}
use Rattle.rate_table.specs.Table.{AreApart, holds, overlap, maximum_of}
use Rattle.rate_table.specs.RangeIndex.{HasNoneBy, IsRateIndex, IsLatest}
use Rattle.rate_table.proofs.OverlapFacts.{overlap-early, overlap-none, same_or_apart}

-- what is found is among the ranges and holds the day
pub record IsFound (ranges : List RateRange) (day : ℤ) (range : RateRange) : Type 0 where
  pub among : Contains ranges range
  pub holding : holds day range ≡ true

-- either a range is found, or none holds the day
pub record Found (ranges : List RateRange) (day : ℤ) : Type 0 where
  pub range : RateRange
  pub found : IsFound ranges day range
  pub is : maximum_of ranges day ≡ Some range.most

pub record NotFound (ranges : List RateRange) (day : ℤ) : Type 0 where
  pub none : All (λ range. holds day range ≡ false) ranges
  pub is : maximum_of ranges day ≡ None

found-first : (first : RateRange) (ranges : List RateRange) (day : ℤ) → holds day first ≡ true → Found (first ∷ ranges) day
found-first first ranges day holding = record {
  range = first;
  found = record { among = (0, omega arith, refl); holding = holding };
  is = rw holding refl;
}

found-later : (first : RateRange) (ranges : List RateRange) (day : ℤ) → holds day first ≡ false → Found ranges day → Found (first ∷ ranges) day
found-later first ranges day not_holding later = record {
  range = later.range;
  found = record { among = Contains-append_right (first ∷ []) ranges later.range later.found.among; holding = later.found.holding };
  is = rw not_holding later.is;
}

not_found-later : (first : RateRange) (ranges : List RateRange) (day : ℤ) → holds day first ≡ false → NotFound ranges day → NotFound (first ∷ ranges) day
not_found-later first ranges day not_holding later = record {
  none = All-cons (λ range. holds day range ≡ false) first ranges not_holding later.none;
  is = rw not_holding later.is;
}

pub look : (ranges : List RateRange) (day : ℤ) → Found ranges day ⊎ NotFound ranges day
look [] day = inr (record { none = All-nil (λ range. holds day range ≡ false); is = refl })
look (first ∷ ranges) day =
    elim (cases_Bool (holds day first)) [
      | inl holding ↦ inl (found-first first ranges day holding)
      | inr not_holding ↦ elim (look ranges day) [
        | inl later ↦ inl (found-later first ranges day not_holding later)
        | inr none ↦ inr (not_found-later first ranges day not_holding none)
      ]
    ]

-- two ranges that hold one day have it in common
both-hold : (a b : RateRange) (day : ℤ) → holds day a ≡ true → holds day b ≡ true → overlap a b ≡ true
both-hold a b day has-a has-b = grind (arith, ints)

-- the one range that holds the day is found
pub maximum_of-held : (ranges : List RateRange) (day : ℤ) (range : RateRange) → AreApart ranges → Contains ranges range → holds day range ≡ true → maximum_of ranges day ≡ Some range.most
maximum_of-held ranges day range apart among holding =
    elim (look ranges day) [
      | inl found ↦ elim (same_or_apart ranges found.range range apart found.found.among among) [
        | inl same ↦ found.is ∙ ap (λ (r : RateRange). Some r.most) same
        | inr none ↦ let meet : overlap found.range range ≡ true = both-hold found.range range day found.found.holding holding in cc
      ]
      | inr missing ↦ let none : holds day range ≡ false = All-contains (λ r. holds day r ≡ false) ranges range missing.none among in cc
    ]

pub maximum_of-rate : (ranges : List RateRange) (day : ℤ) → IfSome (maximum_of ranges day) (λ rate. Any (λ range. (holds day range ≡ true) × (range.most ≡ rate)) ranges)
maximum_of-rate ranges day =
    elim (look ranges day) [
      | inl found ↦ rw found.is (found.found.among.0, found.range, found.found.among.1, found.found.among.2, (found.found.holding, refl))
      | inr missing ↦ rw missing.is tt
    ]

pub maximum_of-none : (ranges : List RateRange) (day : ℤ) → IsNone (maximum_of ranges day) ↔ All (λ range. holds day range ≡ false) ranges
maximum_of-none ranges day =
    elim (look ranges day) [
      | inl found ↦ (λ none. let some : is_some (maximum_of ranges day) ≡ true = rw found.is refl in absurd (cc), λ all. let no : holds day found.range ≡ false = All-contains (λ r. holds day r ≡ false) ranges found.range all found.found.among in let yes : holds day found.range ≡ true = found.found.holding in cc)
      | inr missing ↦ (λ _. missing.none, λ _. rw missing.is (search rules))
    ]

-- where no range overlap the one day, none is found
apart-none : (ranges : List RateRange) (one : RateRange) (day : ℤ) → one.from ≡ day → one.to ≡ day → list_any (overlap one) ranges ≡ false → maximum_of ranges day ≡ None
apart-none ranges one day from to apart =
    elim (look ranges day) [
      | inl found ↦
          let holding : holds day found.range ≡ true = found.found.holding in
          let meet : overlap one found.range ≡ true = rw (from, to) (both-hold (record one { from = day; to = day }) found.range day (grind (arith, ints)) holding) in
          let any : list_any (overlap one) ranges ≡ true = list_any_at (overlap one) ranges found.found.among.0 found.range found.found.among.1 (rw found.found.among.2 meet) in
          cc
      | inr missing ↦ missing.is
    ]

-- no range begins by the day
pub maximum_of-none_by : (ranges : List RateRange) (m : BTreeMap ℤ RateRange) (day : ℤ) → IsRateIndex ranges m → HasNoneBy m day → maximum_of ranges day ≡ None
maximum_of-none_by ranges m day index none =
    let one : RateRange = record { from = day; to = day; most = record { 0 = 0 } } in
    apart-none ranges one day refl refl (overlap-none ranges m one index none)

-- the range that begins last by a day gives the greatest rate if it reaches the day, and else no range does
pub maximum_of-latest : (ranges : List RateRange) (m : BTreeMap ℤ RateRange) (day : ℤ) (latest : RateRange) → IsRateIndex ranges m → IsLatest m day latest → maximum_of ranges day ≡ (if int_le day latest.to then Some latest.most else None)
maximum_of-latest ranges m day latest index found = elim (cases_Bool (int_le day latest.to)) [
  | inl reaches ↦
      let listed = index.entries.only found.first latest found.entry in
      rw reaches (maximum_of-held ranges day latest index.apart listed.among (grind (arith, ints, listed.begins, found.early)))
  | inr ends ↦
      let one : RateRange = record latest { from = day; to = day } in
      rw ends (apart-none ranges one day refl refl (overlap-early ranges m one latest index found (grind (arith, ints))))
]
