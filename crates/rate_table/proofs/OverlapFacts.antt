-- Ranges by their first days: which one is the latest, and what has a day in common with it.
use Rattle.std.proofs.Common.{◌≡◌, ◌∙◌, refl, sym, ap, arith, rules, ℕ, ◌<◌, length, List, [], ◌∷◌, ◌++◌, ℤ, ◌≤ℤ◌, ◌<ℤ◌, true, false, get_or, ◌⊎◌, inl, inr}
use Rattle.std.specs.Prelude.{int_le, Option, Some, IsSome, Contains}
use Rattle.std.specs.List.{list_any}
use Rattle.std.specs.Ordering.{int_cmp, is_gt, is_lt}
use Rattle.std.specs.BTreeMap.{BTreeMap}
use Rattle.std.specs.BTreeMap.Range.{IsRangeOf}
use Rattle.std.specs.declared.ops.Bound.TheVariants.{Included, Unbounded}
use Rattle.std.proofs.lemmas.Int.{ints}
use Rattle.std.proofs.lemmas.Option.{none-some}
use Rattle.std.proofs.lemmas.Cmp.{int_ranked}
use Rattle.std.proofs.lemmas.List.Folds.{list_any_none, list_any_at}
use Rattle.std.proofs.lemmas.List.Elements.{Contains-get_or, All-contains}
use Rattle.std.proofs.lemmas.List.Quantifiers.{all_pairs_push}
use Rattle.std.proofs.lemmas.Bool.{cases_Bool, cases_order}
use Rattle.std.proofs.lemmas.List.{get_or_default}
use Rattle.rate_table.specs.declared.table.RateRange.{RateRange}
use Rattle.rate_table.specs.RangeIndex.{IsRateIndex, IsLatest, HasNoneBy}
use Rattle.rate_table.specs.Table.{IsRange, AreApart, overlap}

le-from_cmp : (a b : ℤ) → is_gt (int_cmp a b) ≡ false → a ≤ℤ b
le-from_cmp a b h = grind (arith, ints, int_ranked a b (int_cmp a b) refl)

cmp-from_le : (a b : ℤ) → a ≤ℤ b → is_gt (int_cmp a b) ≡ false
cmp-from_le a b h = grind (arith, ints, int_ranked a b (int_cmp a b) refl)

not_below : (a b : ℤ) → is_lt (int_cmp a b) ≡ false → b ≤ℤ a
not_below a b h = grind (arith, ints, int_ranked a b (int_cmp a b) refl)

-- the last entry up to a day is the latest
pub latest-from_last : (m : BTreeMap ℤ RateRange) (day : ℤ) (r t : List (ℤ × RateRange)) (first : ℤ) (range : RateRange) → IsRangeOf int_cmp Unbounded (Included day) m r → r ≡ t ++ (first, range) ∷ [] → IsLatest m day range
latest-from_last m day r t first range part last = record {
  first = first;
  entry = (part.3 (first, range) t last).1;
  early = le-from_cmp first day (part.3 (first, range) t last).0.1;
  latest = λ other early has. not_below first other (part.4 (first, range) t last other (tt, cmp-from_le other day early) has);
}

IsSome-Some : {A : Type 0} {o : Option A} {x : A} → o ≡ Some x → IsSome o
IsSome-Some e = rw e (search rules)

pub overlap-true : (a b : RateRange) → a.from ≤ℤ b.to → b.from ≤ℤ a.to → overlap a b ≡ true
overlap-true a b h k = grind (arith, ints)

overlap-false : (a b : RateRange) → (a.from ≤ℤ b.to → b.from ≤ℤ a.to → ⊥) → overlap a b ≡ false
overlap-false a b h = grind (arith, ints)

pub overlap-sym : (a b : RateRange) → overlap a b ≡ false → overlap b a ≡ false
overlap-sym a b h = overlap-false b a (λ k l. grind (arith, ints, h))

overlap-free : (ranges : List RateRange) (range d : RateRange) (k : ℕ) → list_any (overlap range) ranges ≡ false → k < length ranges → overlap range (get_or ranges k d) ≡ false
overlap-free ranges range d k apart short = elim (cases_Bool (overlap range (get_or ranges k d))) [
  | inl common ↦ let any : list_any (overlap range) ranges ≡ true = list_any_at (overlap range) ranges k d short common in cc
  | inr none ↦ none
]

pub apart-push : (ranges : List RateRange) (range : RateRange) → AreApart ranges → list_any (overlap range) ranges ≡ false → AreApart (ranges ++ range ∷ [])
apart-push ranges range apart free =
    all_pairs_push (λ a b. overlap a b ≡ false) ranges range apart (λ k d short. overlap-sym range (get_or ranges k d) (overlap-free ranges range d k free short))

-- two ranges of the list are the same or have no day in common
same_or_apart-at : (ranges : List RateRange) (i j : ℕ) (a b d : RateRange) → AreApart ranges → i < length ranges → j < length ranges → get_or ranges i d ≡ a → get_or ranges j d ≡ b → (a ≡ b) ⊎ (overlap a b ≡ false)
same_or_apart-at ranges i j a b d apart i-short j-short a-is b-is =
    elim (cases_order i j) [
      | inl same ↦ inl (sym a-is ∙ ap (λ (k : ℕ). get_or ranges k d) same ∙ b-is)
      | inr order ↦ elim order [
        | inl below ↦ inr (rw (← a-is, ← b-is) (apart i j d below j-short))
        | inr above ↦ inr (overlap-sym b a (rw (← a-is, ← b-is) (apart j i d above i-short)))
      ]
    ]

pub same_or_apart : (ranges : List RateRange) (a b : RateRange) → AreApart ranges → Contains ranges a → Contains ranges b → (a ≡ b) ⊎ (overlap a b ≡ false)
same_or_apart ranges a b apart has-a has-b =
    same_or_apart-at ranges has-a.0 has-b.0 a b a apart has-a.1 has-b.1 has-a.2 (get_or_default ranges has-b.0 a b has-b.1 ∙ has-b.2)

-- no range begins by the end of another
pub overlap-none : (ranges : List RateRange) (m : BTreeMap ℤ RateRange) (range : RateRange) → IsRateIndex ranges m → HasNoneBy m range.to → list_any (overlap range) ranges ≡ false
overlap-none ranges m range index none =
    list_any_none (overlap range) ranges (λ k d short.
    let other = get_or ranges k d in
    overlap-false range other (λ _ early. none-some other (sym (none other.from early) ∙ index.entries.has other (Contains-get_or ranges k d short))))

-- the latest that begins by the end of another ends after it begins
overlap-late : (ranges : List RateRange) (m : BTreeMap ℤ RateRange) (range latest : RateRange) → IsRateIndex ranges m → IsLatest m range.to latest → range.from ≤ℤ latest.to → list_any (overlap range) ranges ≡ true
overlap-late ranges m range latest index found late =
    let listed = index.entries.only found.first latest found.entry in
    list_any_at (overlap range) ranges listed.among.0 latest listed.among.1
    (rw (listed.among.2) (overlap-true range latest late (omega (arith, ints, listed.begins, found.early))))

-- or before, and then each other range ends before it too
early-apart : (ranges : List RateRange) (m : BTreeMap ℤ RateRange) (range latest other : RateRange) → IsRateIndex ranges m → IsLatest m range.to latest → latest.to <ℤ range.from → Contains ranges other → overlap range other ≡ false
early-apart ranges m range latest other index found early has =
    let listed = index.entries.only found.first latest found.entry in
    let order : latest.from ≤ℤ latest.to = (All-contains IsRange ranges latest index.order listed.among).order in
    overlap-false range other (λ late begins.
    let by : other.from ≤ℤ found.first = found.latest other.from begins (IsSome-Some (index.entries.has other has)) in
    let begun : latest.from ≡ found.first = listed.begins in
    elim (same_or_apart ranges other latest index.apart has listed.among) [
      | inl same ↦ let e : other.to ≡ latest.to = ap (λ (r : RateRange). r.to) same in omega (arith, ints)
      | inr free ↦ grind (arith, ints)
    ])

pub overlap-early : (ranges : List RateRange) (m : BTreeMap ℤ RateRange) (range latest : RateRange) → IsRateIndex ranges m → IsLatest m range.to latest → latest.to <ℤ range.from → list_any (overlap range) ranges ≡ false
overlap-early ranges m range latest index found early =
    list_any_none (overlap range) ranges (λ k d short.
    early-apart ranges m range latest (get_or ranges k d) index found early (Contains-get_or ranges k d short))

-- so the latest decides
pub overlap-latest : (ranges : List RateRange) (m : BTreeMap ℤ RateRange) (range latest : RateRange) → IsRateIndex ranges m → IsLatest m range.to latest → int_le range.from latest.to ≡ list_any (overlap range) ranges
overlap-latest ranges m range latest index found = elim (cases_Bool (int_le range.from latest.to)) [
  | inl late ↦ late ∙ sym (overlap-late ranges m range latest index found (grind (arith, ints)))
  | inr early ↦ early ∙ sym (overlap-early ranges m range latest index found (grind (arith, ints)))
]
