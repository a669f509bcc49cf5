-- Lists without repetition: none is longer than a list that has all its elements.
use Rattle.std.proofs.Common.{◌≡◌, ◌∙◌, ◌⊎◌, inl, inr, ℕ, zero, suc, ◌<◌, ◌≤◌, List, [], ◌∷◌, ◌++◌, length, refl, sym, ap, arith, get_or}
use Rattle.std.specs.List.{Contains}

-- an element of a list
abbrev pub Member : {X : Type 0} → List X → X → Type 0
Member [] x = ⊥
Member (y ∷ ys) x = (x ≡ y) ⊎ Member ys x

pub member-contained : {X : Type 0} (xs : List X) (x : X) → Contains xs x → Member xs x
member-contained {X = X} xs x there = by xs there.0 there.1 there.2
  where
    by : (ys : List X) (k : ℕ) → k < length ys → get_or ys k x ≡ x → Member ys x
    by [] k few is = absurd (omega arith)
    by (y ∷ ys) zero few is = inl (sym is)
    by (y ∷ ys) (suc k) few is = inr (by ys k (omega arith) is)

pub member-append : {X : Type 0} (xs ys : List X) (x : X) → Member (xs ++ ys) x → Member xs x ⊎ Member ys x
member-append [] ys x m = inr m
member-append (y ∷ xs) ys x (inl same) = inl (inl same)
member-append (y ∷ xs) ys x (inr later) = elim (member-append xs ys x later) [
  | inl first ↦ inl (inr first)
  | inr second ↦ inr second
]

-- each element is none of the later ones
abbrev pub AreDistinct : {X : Type 0} → List X → Type 0
AreDistinct [] = Unit {0}
AreDistinct {X = X} (x ∷ xs) = ((y : X) → Member xs y → x ≡ y → ⊥) × AreDistinct xs

-- two lists with no element in common
pub distinct-append : {X : Type 0} (xs ys : List X) → AreDistinct xs → AreDistinct ys → ((x y : X) → Member xs x → Member ys y → x ≡ y → ⊥) → AreDistinct (xs ++ ys)
distinct-append [] ys one other apart = other
distinct-append (x ∷ xs) ys one other apart = (
  λ y m same. elim (member-append xs ys y m) [
    | inl first ↦ one.0 y first same
    | inr second ↦ apart x y (inl refl) second same
  ],
  distinct-append xs ys one.1 other (λ a b m n. apart a b (inr m) n),
)

-- a list without one of its elements
record Without {X : Type 0} (ys : List X) (x : X) : Type 0 where
  rest : List X
  shorter : length ys ≡ suc (length rest)
  others : (z : X) → (x ≡ z → ⊥) → Member ys z → Member rest z

without : {X : Type 0} (ys : List X) (x : X) → Member ys x → Without ys x
without [] x m = absurd m
without (y ∷ ys) x (inl same) = record {
  rest = ys;
  shorter = refl;
  others = λ z other m. elim m [
    | inl here ↦ absurd (other (same ∙ sym here))
    | inr later ↦ later
  ];
}
without (y ∷ ys) x (inr later) =
    let less = without ys x later in
    record {
      rest = y ∷ less.rest;
      shorter = ap suc less.shorter;
      others = λ z other m. elim m [
        | inl here ↦ inl here
        | inr after ↦ inr (less.others z other after)
      ];
    }

pub distinct-few : {X : Type 0} (xs ys : List X) → AreDistinct xs → ((x : X) → Member xs x → Member ys x) → length xs ≤ length ys
distinct-few [] ys distinct within = omega arith
distinct-few (x ∷ xs) ys distinct within =
    let less = without ys x (within x (inl refl)) in
    let rest = distinct-few xs less.rest distinct.1 (λ z m. less.others z (distinct.0 z m) (within z (inr m))) in
    omega (arith, less.shorter, rest)
