-- How far a search by halves comes by what it is told.
use Rattle.std.proofs.Common.{◌≡◌, ◌∙◌, ℕ, ◌+◌, ◌*◌, ◌/◌, ◌%◌, ◌^◌, ◌<◌, ◌≤◌, zero, suc, refl, sym, ap, subst, arith, inl, inr, Bool, true, false, if◌then◌else◌, List, [], ◌∷◌, ◌++◌, length-append}
use Rattle.std.specs.Prelude.{nat_le}
use Rattle.std.specs.List.{Contains}
use Rattle.std.proofs.Math.Nat.{pow-succ'}
use Rattle.std.proofs.lemmas.Bool.Decides.{nat_tests}
use Rattle.std.proofs.lemmas.List.Elements.{All-push, Contains-append_left, Contains-push}
use Rattle.escrow_units.specs.declared.amount.Rate.{Rate}
use Rattle.rate_table.specs.Table.{IsTableRate}
use Rattle.rate_cap.proofs.CapFacts.{first-in, greatest-one, greatest-push, last-push, least-one, least-push, not-empty, one-cap, same-rate, tens, top-up, zero-rate, zero-up}
use Rattle.rate_cap.specs.Search.{CapsTold, IsCapUpTo, IsNext, IsSettled, middle, zero_cap}
use Rattle.rate_cap.specs.Halving.{AreEnds, AreTold, IsHalving, IsUnderWay}

abbrev told_of : Rate → List Rate → List Rate → CapsTold
told_of top found not_found = record { top = top; found = found; not_found = not_found }

same-told : (told : CapsTold) (found not_found : List Rate) → AreTold told found not_found → told ≡ told_of told.top found not_found
same-told told found not_found lists = λ i. told_of told.top (lists.0 i) (lists.1 i)

-- ---- the middle
-- the middle of two ends that are more than one hundredth apart
record IsBetween (top low high : Rate) (left : ℕ) : Type 0 where
  cap : IsCapUpTo top (middle low high)
  above : low.0 < (middle low high).0
  below : (middle low high).0 < high.0
  upper : high.0 ≤ (middle low high).0 + 10 * 2 ^ left
  lower : (middle low high).0 ≤ low.0 + 10 * 2 ^ left

ten-times : (n : ℕ) → (n * 10) % 10 ≡ 0
ten-times n = omega arith

halves : (a b p : ℕ) → 10 * a + 10 < 10 * b → 10 * b ≤ 10 * a + 10 * (2 * p)
    → (10 * a < (10 * a + 10 * b) / 20 * 10) × ((10 * a + 10 * b) / 20 * 10 < 10 * b) × (10 * b ≤ (10 * a + 10 * b) / 20 * 10 + 10 * p) × ((10 * a + 10 * b) / 20 * 10 ≤ 10 * a + 10 * p)
halves a b p far close = (omega (arith, far), omega (arith, far), omega (arith, far, close), omega (arith, far, close))

half : (low high p : ℕ) → low % 10 ≡ 0 → high % 10 ≡ 0 → low + 10 < high → high ≤ low + 10 * (2 * p)
    → (low < (low + high) / 20 * 10) × ((low + high) / 20 * 10 < high) × (high ≤ (low + high) / 20 * 10 + 10 * p) × ((low + high) / 20 * 10 ≤ low + 10 * p)
half low high p low_tens high_tens far close =
    let a = tens low low_tens in
    let b = tens high high_tens in
    let P : ℕ → ℕ → Type 0 = λ l h. (l < (l + h) / 20 * 10) × ((l + h) / 20 * 10 < h) × (h ≤ (l + h) / 20 * 10 + 10 * p) × ((l + h) / 20 * 10 ≤ l + 10 * p) in
    subst (λ l. P l high) (sym a) (subst (P (10 * (low / 10))) (sym b) (halves (low / 10) (high / 10) p (omega (arith, a, b, far)) (omega (arith, a, b, close))))

middle-between : (top low high : Rate) (left : ℕ) → AreEnds top low high (suc left) → low.0 + 10 < high.0 → IsBetween top low high left
middle-between top low high left ends far =
    let power : 2 ^ suc left ≡ 2 * 2 ^ left = pow-succ' 2 left in
    let close : high.0 ≤ low.0 + 10 * (2 * 2 ^ left) = subst (λ p. high.0 ≤ low.0 + 10 * p) power ends.close in
    let parts = half low.0 high.0 (2 ^ left) ends.low_cap.hundredths ends.high_cap.rate.hundredths far close in
    record {
      cap = record {
        rate = record { limit = omega (arith, parts.1, ends.high_cap.rate.limit); hundredths = ten-times ((low.0 + high.0) / 20) };
        most = omega (arith, parts.1, ends.high_cap.most);
      };
      above = parts.0;
      below = parts.1;
      upper = parts.2;
      lower = parts.3;
    }

-- ends that are more than one hundredth apart have halves left
some-left : (top low high : Rate) (left : ℕ) → AreEnds top low high left → low.0 + 10 < high.0 → 1 ≤ left
some-left top low high zero ends far = absurd (omega (arith, ends.close, far))
some-left top low high (suc left) ends far = omega arith

next-hundredth : (top low high : Rate) (left : ℕ) → AreEnds top low high left → high.0 ≤ low.0 + 10 → high.0 ≡ low.0 + 10
next-hundredth top low high left ends near = omega (arith, tens low.0 ends.low_cap.hundredths, tens high.0 ends.high_cap.rate.hundredths, ends.order, near)

-- ---- what is told
halving-settled : (told : CapsTold) (h : IsHalving told) → h.high.0 ≤ h.low.0 + 10 → IsSettled told
halving-settled told h near = inr (inr (record {
  low = h.low;
  high = h.high;
  found = h.greatest.among;
  not_found = h.least.among;
  apart = next-hundredth told.top h.low h.high h.left h.ends near;
}))

abbrev with_found : CapsTold → Rate → CapsTold
with_found told cap = record told { found = told.found ++ cap ∷ [] }

abbrev with_not_found : CapsTold → Rate → CapsTold
with_not_found told cap = record told { not_found = told.not_found ++ cap ∷ [] }

-- the one cap that is next, and how far the search has come by it
pub record IsTellOf (told : CapsTold) : Type 0 where
  pub cap : Rate
  pub only : (other : Rate) → IsNext told other → other ≡ cap
  pub found : IsUnderWay (record told { found = told.found ++ cap ∷ [] })
  pub not_found : IsUnderWay (record told { not_found = told.not_found ++ cap ∷ [] })

fresh-told : (top : Rate) → IsTableRate top → IsTellOf (told_of top [] [])
fresh-told top cap = record {
  cap = top;
  only = λ other next. next.first refl refl;
  found = (cap, inr (inl (refl, refl)));
  not_found = (cap, inr (inr (inl (refl, refl))));
}

-- after the top wasn't found, and 0 was
zero-found : (top : Rate) → IsTableRate top → 0 < top.0 → IsHalving (told_of top (zero_cap ∷ []) (top ∷ []))
zero-found top cap above = record {
  low = zero_cap;
  high = top;
  left = 12;
  count = refl;
  ends = record { low_cap = zero-rate; high_cap = top-up top cap; order = above; close = omega (arith, cap.limit) };
  low_last = refl;
  high_last = refl;
  greatest = greatest-one zero_cap;
  least = least-one top;
  top_first = first-in top [];
  found = one-cap (IsCapUpTo top) zero_cap (zero-up top);
  not_found = one-cap (IsCapUpTo top) top (top-up top cap);
}

top-not_found-told : (top : Rate) → IsTableRate top → ¬ IsSettled (told_of top [] (top ∷ [])) → IsTellOf (told_of top [] (top ∷ []))
top-not_found-told top cap open' =
    let above : 0 < top.0 = at-zero top.0 refl in
    record {
      cap = zero_cap;
      only = λ other next. next.second refl (not-empty (top ∷ []) top (first-in top []));
      found = (cap, inr (inr (inr (inr (zero-found top cap above)))));
      not_found = (cap, inr (inr (inr (inl (record { lists = (refl, refl); above = above })))));
    }
  where
    at-zero : (n : ℕ) → top.0 ≡ n → 0 < n
    at-zero zero e = absurd (open' (inr (inl (subst (λ (c : Rate). Contains (top ∷ []) c) (same-rate top zero_cap e) (first-in top [])))))
    at-zero (suc n) e = omega arith

halving-found : (told : CapsTold) (h : IsHalving told) (left : ℕ) → h.left ≡ suc left → IsBetween told.top h.low h.high left
    → IsHalving (with_found told (middle h.low h.high))
halving-found told h left left_is between =
    let cap = middle h.low h.high in
    record {
      low = cap;
      high = h.high;
      left = left;
      count = omega (arith, length-append told.found (cap ∷ []), h.count, left_is);
      ends = record { low_cap = between.cap.rate; high_cap = h.ends.high_cap; order = between.below; close = between.upper };
      low_last = last-push told.found cap;
      high_last = h.high_last;
      greatest = greatest-push told.found h.low cap h.greatest (omega (arith, between.above));
      least = h.least;
      top_first = h.top_first;
      found = All-push (IsCapUpTo told.top) told.found cap h.found between.cap;
      not_found = h.not_found;
    }

halving-not_found : (told : CapsTold) (h : IsHalving told) (left : ℕ) → h.left ≡ suc left → IsBetween told.top h.low h.high left
    → IsHalving (with_not_found told (middle h.low h.high))
halving-not_found told h left left_is between =
    let cap = middle h.low h.high in
    record {
      low = h.low;
      high = cap;
      left = left;
      count = omega (arith, length-append told.not_found (cap ∷ []), h.count, left_is);
      ends = record { low_cap = h.ends.low_cap; high_cap = between.cap; order = between.above; close = between.lower };
      low_last = h.low_last;
      high_last = last-push told.not_found cap;
      greatest = h.greatest;
      least = least-push told.not_found h.high cap h.least (omega (arith, between.below));
      top_first = Contains-append_left told.not_found (cap ∷ []) told.top h.top_first;
      found = h.found;
      not_found = All-push (IsCapUpTo told.top) told.not_found cap h.not_found between.cap;
    }

halving-told : (told : CapsTold) → IsTableRate told.top → ¬ IsSettled told → (h : IsHalving told) (left : ℕ) → h.left ≡ left → IsTellOf told
halving-told told top open' h zero left_is =
    absurd (open' (halving-settled told h (subst (λ l. h.high.0 ≤ h.low.0 + 10 * 2 ^ l) left_is h.ends.close)))
halving-told told top open' h (suc left) left_is = at (nat_le h.high.0 (h.low.0 + 10)) refl
  where
    at : (t : Bool) → nat_le h.high.0 (h.low.0 + 10) ≡ t → IsTellOf told
    at true test = absurd (open' (halving-settled told h (grind (arith, nat_tests))))
    at false test =
        let far : h.low.0 + 10 < h.high.0 = grind (arith, nat_tests) in
        let between = middle-between told.top h.low h.high left (subst (AreEnds told.top h.low h.high) left_is h.ends) far in
        record {
          cap = middle h.low h.high;
          only = λ other next. next.later h.low h.high h.greatest h.least;
          found = (top, inr (inr (inr (inr (halving-found told h left left_is between)))));
          not_found = (top, inr (inr (inr (inr (halving-not_found told h left left_is between)))));
        }

abbrev Tells : CapsTold → Type 0
Tells told = ¬ IsSettled told → IsTellOf told

pub next-told : (told : CapsTold) → IsUnderWay told → ¬ IsSettled told → IsTellOf told
next-told told way = elim way.1 [
  | inl lists ↦ subst Tells (sym (same-told told [] [] lists)) (λ _. fresh-told told.top way.0)
  | inr rest ↦ elim rest [
    | inl lists ↦ subst Tells (sym (same-told told (told.top ∷ []) [] lists)) (λ open'. absurd (open' (inl (first-in told.top []))))
    | inr rest ↦ elim rest [
      | inl lists ↦ subst Tells (sym (same-told told [] (told.top ∷ []) lists)) (top-not_found-told told.top way.0)
      | inr rest ↦ elim rest [
        | inl zeroes ↦ subst Tells (sym (same-told told [] (told.top ∷ zero_cap ∷ []) zeroes.lists)) (λ open'. absurd (open' (inr (inl (Contains-push (told.top ∷ []) zero_cap)))))
        | inr h ↦ (λ open'. halving-told told way.0 open' h h.left refl)
      ]
    ]
  ]
]

-- ---- the search that is told
next-only : (told : CapsTold) (first second : Rate) → IsUnderWay told → ¬ IsSettled told → IsNext told first → IsNext told second → first ≡ second
next-only told first second way open' one other =
    let tell = next-told told way open' in
    tell.only first one ∙ sym (tell.only second other)

abbrev IsOpen : CapsTold → Type 0
IsOpen told = ¬ IsSettled told

pub found-told : (told inside : CapsTold) (found : List Rate) (own : Rate) → inside ≡ told → IsUnderWay inside → ¬ IsSettled told → IsNext told own
    → found ≡ inside.found ++ own ∷ [] → IsUnderWay (record inside { found = found })
found-told told inside found own is way open' next items =
    let tell = next-told inside way (subst IsOpen (sym is) open') in
    let own_is : own ≡ tell.cap = tell.only own (subst (λ (t : CapsTold). IsNext t own) (sym is) next) in
    let P : List Rate → Type 0 = λ f. IsUnderWay (record inside { found = f }) in
    subst P (sym items) (subst (λ (c : Rate). P (inside.found ++ c ∷ [])) (sym own_is) tell.found)

pub not_found-told : (told inside : CapsTold) (not_found : List Rate) (own : Rate) → inside ≡ told → IsUnderWay inside → ¬ IsSettled told → IsNext told own
    → not_found ≡ inside.not_found ++ own ∷ [] → IsUnderWay (record inside { not_found = not_found })
not_found-told told inside not_found own is way open' next items =
    let tell = next-told inside way (subst IsOpen (sym is) open') in
    let own_is : own ≡ tell.cap = tell.only own (subst (λ (t : CapsTold). IsNext t own) (sym is) next) in
    let P : List Rate → Type 0 = λ f. IsUnderWay (record inside { not_found = f }) in
    subst P (sym items) (subst (λ (c : Rate). P (inside.not_found ++ c ∷ [])) (sym own_is) tell.not_found)

-- what a tell gives
abbrev told_by : Bool → CapsTold → Rate → CapsTold
told_by found told own = if found then record told { found = told.found ++ own ∷ [] } else record told { not_found = told.not_found ++ own ∷ [] }

pub found-gives : (told inside : CapsTold) (found : List Rate) (own : Rate) (tells_found : Bool) → inside ≡ told → IsUnderWay inside → ¬ IsSettled told → IsNext told own
    → found ≡ inside.found ++ own ∷ [] → tells_found ≡ true → (other : Rate) → IsNext told other → record inside { found = found } ≡ told_by tells_found told other
found-gives told inside found own tells_found is way open' next items flag other other_next =
    let same : own ≡ other = next-only told own other (subst IsUnderWay is way) open' next other_next in
    let here : record inside { found = found } ≡ told_by true told other =
    ap (λ (f : List Rate). record inside { found = f }) items ∙ ap (λ (t : CapsTold). told_by true t own) is ∙ ap (told_by true told) same in
    subst (λ (b : Bool). record inside { found = found } ≡ told_by b told other) (sym flag) here

pub not_found-gives : (told inside : CapsTold) (not_found : List Rate) (own : Rate) (tells_found : Bool) → inside ≡ told → IsUnderWay inside → ¬ IsSettled told → IsNext told own
    → not_found ≡ inside.not_found ++ own ∷ [] → tells_found ≡ false → (other : Rate) → IsNext told other → record inside { not_found = not_found } ≡ told_by tells_found told other
not_found-gives told inside not_found own tells_found is way open' next items flag other other_next =
    let same : own ≡ other = next-only told own other (subst IsUnderWay is way) open' next other_next in
    let here : record inside { not_found = not_found } ≡ told_by false told other =
    ap (λ (f : List Rate). record inside { not_found = f }) items ∙ ap (λ (t : CapsTold). told_by false t own) is ∙ ap (told_by false told) same in
    subst (λ (b : Bool). record inside { not_found = not_found } ≡ told_by b told other) (sym flag) here
