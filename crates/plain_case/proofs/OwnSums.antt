-- Sums over need dates of what stands at the line that each owns.
use Rattle.std.proofs.Common.{◌≡◌, ◌≢◌, ◌∙◌, ℕ, suc, ◌+◌, ◌<◌, ◌≤◌, List, [], ◌∷◌, Option, Some, None, length, get_or, set, refl, sym, ap, inl, inr, arith, All, AllPairs}
use Rattle.std.proofs.lemmas.Bool.{cases_lt}
use Rattle.std.proofs.lemmas.List.{get_or-set_other, get_or-set_same, get_or_default, length-set}
use Rattle.std.proofs.lemmas.List.Elements.{All-cons, All-head, All-nil, All-tail}
use Rattle.std.proofs.lemmas.List.Sums.{sum_by-cons, sum_by-set}
use Rattle.std.specs.List.{sum, sum_by}
use Rattle.escrow_units.specs.declared.security.Flow.{Flow}
use Rattle.cash_table.proofs.ZipFacts.{sum_by-zero}

-- what stands at a number, where there is one
abbrev pub at_own : List ℕ → Option ℕ → ℕ
at_own amounts None = 0
at_own amounts (Some number) = get_or amounts number 0

abbrev pub own_sum : (Flow → Option ℕ) → List ℕ → List Flow → ℕ
own_sum own amounts needs = sum_by (λ need. at_own amounts (own need)) needs

-- two of them own no line together
abbrev pub AreApart : (Flow → Option ℕ) → List Flow → Type 0
AreApart own needs = AllPairs (λ first second. (number : ℕ) → own first ≡ Some number → own second ≡ Some number → ⊥) needs

abbrev pub AreThere : (Flow → Option ℕ) → ℕ → List Flow → Type 0
AreThere own count needs = All (λ need. (number : ℕ) → own need ≡ Some number → number < count) needs

-- none of them owns a line
abbrev pub NoneOwns : (Flow → Option ℕ) → ℕ → List Flow → Type 0
NoneOwns own number needs = All (λ need. own need ≡ Some number → ⊥) needs

same_number : (a b : ℕ) → ◌≡◌ {A = Option ℕ} (Some a) (Some b) → a ≡ b
same_number a b h = cc

-- without a line that none owns
own_sum-without : (own : Flow → Option ℕ) (number : ℕ) (amounts : List ℕ) (needs : List Flow) → NoneOwns own number needs → own_sum own (set amounts number 0) needs ≡ own_sum own amounts needs
own_sum-without own number amounts [] none = refl
own_sum-without own number amounts (need ∷ needs) none =
    omega (
      arith,
      here (own need) refl,
      own_sum-without own number amounts needs (All-tail (λ (n : Flow). own n ≡ Some number → ⊥) need needs none),
      sum_by-cons (λ (n : Flow). at_own (set amounts number 0) (own n)) need needs,
      sum_by-cons (λ (n : Flow). at_own amounts (own n)) need needs,
    )
  where
    here : (o : Option ℕ) → own need ≡ o → at_own (set amounts number 0) o ≡ at_own amounts o
    here None e = refl
    here (Some other) e =
        let apart : other ≢ number = λ same. All-head (λ (n : Flow). own n ≡ Some number → ⊥) need needs none (e ∙ ap Some same) in
        get_or-set_other amounts number other 0 0 apart

-- and with less of a line no more
own_sum-less : (own : Flow → Option ℕ) (number : ℕ) (amounts : List ℕ) (needs : List Flow) → number < length amounts → own_sum own (set amounts number 0) needs ≤ own_sum own amounts needs
own_sum-less own number amounts [] within = omega arith
own_sum-less own number amounts (need ∷ needs) within =
    omega (
      arith,
      here (own need),
      own_sum-less own number amounts needs within,
      sum_by-cons (λ (n : Flow). at_own (set amounts number 0) (own n)) need needs,
      sum_by-cons (λ (n : Flow). at_own amounts (own n)) need needs,
    )
  where
    here : (o : Option ℕ) → at_own (set amounts number 0) o ≤ at_own amounts o
    here None = omega arith
    here (Some other) = elim (cases_lt other number) [
      | inl less ↦ (let away : other ≢ number = λ same. absurd (omega arith) in omega (arith, get_or-set_other amounts number other 0 0 away))
      | inr most ↦ elim (cases_lt number other) [
        | inl more ↦ (let away : other ≢ number = λ same. absurd (omega arith) in omega (arith, get_or-set_other amounts number other 0 0 away))
        | inr least ↦ (let same : other ≡ number = omega arith in
            let nothing = ap (λ k. get_or (set amounts number 0) k 0) same ∙ get_or-set_same amounts number 0 0 within in
            omega (arith, nothing))
      ]
    ]

-- a sum without what stands at a place
sum-without : (amounts : List ℕ) (number : ℕ) → number < length amounts → sum (set amounts number 0) + get_or amounts number 0 ≡ sum amounts
sum-without amounts number within = let whole = sum_by-set (λ (n : ℕ). n) amounts number 0 0 within in omega (arith, whole)

-- what they own comes to no more than all
pub owned-le : (own : Flow → Option ℕ) (needs : List Flow) (amounts : List ℕ) → AreApart own needs → AreThere own (length amounts) needs → own_sum own amounts needs ≤ sum amounts
owned-le own [] amounts apart there = omega arith
owned-le own (need ∷ needs) amounts apart there =
    omega (arith, sum_by-cons (λ (n : Flow). at_own amounts (own n)) need needs, here (λ xs inside. owned-le own needs xs later inside) (own need) refl)
  where
    later : AreApart own needs
    later = λ i j d order within. apart (suc i) (suc j) d (omega arith) (omega arith)

    rest : AreThere own (length amounts) needs
    rest = All-tail (λ (n : Flow). (number : ℕ) → own n ≡ Some number → number < length amounts) need needs there

    here : ((xs : List ℕ) → AreThere own (length xs) needs → own_sum own xs needs ≤ sum xs) → (o : Option ℕ) → own need ≡ o → at_own amounts o + own_sum own amounts needs ≤ sum amounts
    here others None e = omega (arith, others amounts rest)
    here others (Some number) e =
        let within = All-head (λ (n : Flow). (k : ℕ) → own n ≡ Some k → k < length amounts) need needs there number e in
        let none : NoneOwns own number needs = λ k d inside same. apart 0 (suc k) d (omega arith) (omega arith) number e same in
        let count = length-set amounts number 0 in
        let inside : AreThere own (length (set amounts number 0)) needs = λ k d few n same. omega (arith, count, rest k d few n same) in
        omega (arith, others (set amounts number 0) inside, own_sum-without own number amounts needs none, sum-without amounts number within)

-- and where nothing stands at a line that none owns, all comes to no more than what they own
pub all-owned : (own : Flow → Option ℕ) (needs : List Flow) (amounts : List ℕ) → AreThere own (length amounts) needs → ((number : ℕ) → number < length amounts → NoneOwns own number needs → get_or amounts number 0 ≡ 0)
    → sum amounts ≤ own_sum own amounts needs
all-owned own [] amounts there others =
    let nothing = sum_by-zero (λ (n : ℕ). n) amounts (λ k d within. get_or_default amounts k d 0 within ∙ others k within (All-nil (λ (n : Flow). own n ≡ Some k → ⊥))) in
    omega (arith, nothing)
all-owned own (need ∷ needs) amounts there others =
    omega (arith, sum_by-cons (λ (n : Flow). at_own amounts (own n)) need needs, here (λ xs inside zeros. all-owned own needs xs inside zeros) (own need) refl)
  where
    rest : AreThere own (length amounts) needs
    rest = All-tail (λ (n : Flow). (number : ℕ) → own n ≡ Some number → number < length amounts) need needs there

    here : ((xs : List ℕ) → AreThere own (length xs) needs → ((number : ℕ) → number < length xs → NoneOwns own number needs → get_or xs number 0 ≡ 0) → sum xs ≤ own_sum own xs needs)
        → (o : Option ℕ) → own need ≡ o → sum amounts ≤ at_own amounts o + own_sum own amounts needs
    here later None e =
        omega (arith, later amounts rest (λ number within none. others number within (All-cons (λ (n : Flow). own n ≡ Some number → ⊥) need needs (λ same. absurd (differ number (sym e ∙ same))) none)))
      where
        differ : (number : ℕ) → ◌≡◌ {A = Option ℕ} None (Some number) → ⊥
        differ number h = cc
    here later (Some number) e =
        let within = All-head (λ (n : Flow). (k : ℕ) → own n ≡ Some k → k < length amounts) need needs there number e in
        let count = length-set amounts number 0 in
        let inside : AreThere own (length (set amounts number 0)) needs = λ k d few n same. omega (arith, count, rest k d few n same) in
        omega (arith, later (set amounts number 0) inside (λ other few none. without number e within other (omega (arith, few, count)) none), own_sum-less own number amounts needs within, sum-without amounts number within)
      where
        without : (number : ℕ) → own need ≡ Some number → number < length amounts → (other : ℕ) → other < length amounts → NoneOwns own other needs → get_or (set amounts number 0) other 0 ≡ 0
        without number e within other few none = elim (cases_lt other number) [
          | inl less ↦ away (λ same. absurd (omega arith))
          | inr most ↦ elim (cases_lt number other) [
            | inl more ↦ away (λ same. absurd (omega arith))
            | inr least ↦ (let same : other ≡ number = omega arith in ap (λ k. get_or (set amounts number 0) k 0) same ∙ get_or-set_same amounts number 0 0 within)
          ]
        ]
          where
            away : other ≢ number → get_or (set amounts number 0) other 0 ≡ 0
            away apart =
                get_or-set_other amounts number other 0 0 apart
                ∙ others other few (All-cons (λ (n : Flow). own n ≡ Some other → ⊥) need needs (λ same. apart (sym (same_number number other (sym e ∙ same)))) none)
