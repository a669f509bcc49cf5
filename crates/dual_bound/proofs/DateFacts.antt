-- The days that each need date prices, and what is priced where one price changes.
use Rattle.std.proofs.Common.{◌≡◌, ◌∙◌, ◌⊎◌, ℕ, suc, ◌+◌, ◌*◌, ◌/◌, ◌<◌, ◌≤◌, List, [], ◌∷◌, ◌++◌, All, get_or, length, map, set, refl, sym, ap, subst, arith, inl, inr}
use Rattle.std.specs.List.{Contains}
use Rattle.std.proofs.lemmas.Bool.{cases_eq, cases_lt}
use Rattle.std.proofs.lemmas.List.{get_or-map, get_or-set_other, get_or-set_same, get_or_default, get_or_past, length-map}
use Rattle.std.proofs.lemmas.List.Elements.{All-push, Contains-append_left, Contains-push}
use Rattle.fixed_powers.specs.DiscountPowers.{one}
use Rattle.dual_bound.specs.Changes.{AreChangedDates, IsListedAt}
use Rattle.dual_bound.specs.Columns.{AreDateDays, IsPriced, worth_at, worth_between, worth_on}
use Rattle.dual_bound.specs.declared.date_days.DateDays.{DateDays}
use Rattle.proof_tree.specs.declared.tree.Leaf.{Leaf}
use Rattle.dual_bound.specs.declared.worth.PricedDay.{PricedDay}
use Rattle.dual_bound.specs.declared.worth.Worth.{Worth}

-- a place stands in the list of a need date whose price changes
pub record IsListedChange (old new : List ℕ) (lists : List DateDays) (place : ℕ) : Type 0 where
  pub date : ℕ
  pub there : date < length old
  pub changed : ¬ (get_or old date 0 ≡ get_or new date 0)
  pub listed : (e : DateDays) → Contains (get_or lists date e).places.items place

-- lists of the same elements
pub same-list : {A : Type 0} (xs ys : List A) → length xs ≡ length ys → ((k : ℕ) (d : A) → k < length xs → get_or xs k d ≡ get_or ys k d) → xs ≡ ys
same-list [] [] same h = refl
same-list [] (y ∷ ys) same h = absurd (omega arith)
same-list (x ∷ xs) [] same h = absurd (omega arith)
same-list (x ∷ xs) (y ∷ ys) same h = λ i. h 0 x (omega arith) i ∷ same-list xs ys (omega arith) (λ k d lt. h (suc k) d (omega arith)) i

-- the first so many days are listed
pub record AreListed (dates count : ℕ) (days : List PricedDay) (lists : List DateDays) : Type 0 where
  pub there : (date : ℕ) (e : DateDays) → date < dates → All (λ place. place < length days) (get_or lists date e).places.items
  pub listed : (place : ℕ) (d : PricedDay) (e : DateDays) → place < count → (get_or days place d).need < dates
      → Contains (get_or lists (get_or days place d).need e).places.items place

-- one day more
pub listed-more : (dates count need : ℕ) (days : List PricedDay) (old new : List DateDays) → AreListed dates count days old → count < length days
    → ((d : PricedDay) → (get_or days count d).need ≡ need)
    → ((e : DateDays) → need < dates → (get_or new need e).places.items ≡ (get_or old need e).places.items ++ count ∷ [])
    → ((date : ℕ) (e : DateDays) → (date ≡ need → ⊥) → get_or new date e ≡ get_or old date e)
    → AreListed dates (count + 1) days new
listed-more dates count need days old new h few needs own others = record {
  there = λ date e lt.
      elim (cases_eq date need) [
        | inl at ↦
            subst (All (λ place. place < length days)) (sym (ap (λ k. (get_or new k e).places.items) at ∙ own e (omega (arith, at, lt))))
            (All-push (λ place. place < length days) (get_or old need e).places.items count (h.there need e (omega (arith, at, lt))) few)
        | inr apart ↦ subst (λ (list : DateDays). All (λ place. place < length days) list.places.items) (sym (others date e apart)) (h.there date e lt)
      ];
  listed = λ place d e lt dated.
      elim (cases_lt place count) [
        | inl before ↦ kept place e (get_or days place d).need (h.listed place d e before dated) dated
        | inr from ↦
            let at : place ≡ count = omega arith in
            let of : (get_or days place d).need ≡ need = ap (λ k. (get_or days k d).need) at ∙ needs d in
            subst (λ k. Contains (get_or new k e).places.items place) (sym of)
            (subst (λ k. Contains (get_or new need e).places.items k) (sym at)
            (subst (λ ks. Contains ks count) (sym (own e (omega (arith, of, dated)))) (Contains-push (get_or old need e).places.items count)))
      ];
}
  where
    kept : (place : ℕ) (e : DateDays) (date : ℕ) → Contains (get_or old date e).places.items place → date < dates → Contains (get_or new date e).places.items place
    kept place e date was dated =
        elim (cases_eq date need) [
          | inl at ↦
              subst (λ k. Contains (get_or new k e).places.items place) (sym at)
              (subst (λ ks. Contains ks place) (sym (own e (omega (arith, at, dated))))
              (Contains-append_left (get_or old need e).places.items (count ∷ []) place (subst (λ k. Contains (get_or old k e).places.items place) at was)))
          | inr apart ↦ subst (λ (list : DateDays). Contains list.places.items place) (sym (others date e apart)) was
        ]

-- all days are listed
pub all-listed : (dates count : ℕ) (days : List PricedDay) (lists : List DateDays) → AreListed dates count days lists → length lists ≡ dates → length days ≤ count
    → AreDateDays dates days lists
all-listed dates count days lists h every all = record {
  every_date = every;
  there = λ date e lt. h.there date e (omega (arith, lt, every));
  listed = λ place d e lt dated. h.listed place d e (omega (arith, lt, all)) dated;
}

-- a day whose price stays is worth what it was
pub worth-stays : (old new : Leaf) (day : PricedDay) → old.mu ≡ new.mu → get_or old.prices day.need 0 ≡ get_or new.prices day.need 0 → worth_on old day ≡ worth_on new day
worth-stays old new day limit price = λ i. worth_between (price i) (limit i * day.power / one)

-- a price that changes is that of a need date
change-there : (old new : List ℕ) (date : ℕ) → length new ≡ length old → ¬ (get_or old date 0 ≡ get_or new date 0) → date < length old
change-there old new date same apart =
    elim (cases_lt date (length old)) [
      | inl lt ↦ lt
      | inr past ↦ absurd (apart (get_or_past old date 0 past ∙ sym (get_or_past new date 0 (omega (arith, past, same)))))
    ]

-- so a day with such a price is listed
pub listed-change : (dates : ℕ) (old new : List ℕ) (days : List PricedDay) (lists : List DateDays) (place : ℕ) (d : PricedDay) → AreDateDays dates days lists
    → length old ≡ dates → length new ≡ dates → place < length days → ¬ (get_or old (get_or days place d).need 0 ≡ get_or new (get_or days place d).need 0)
    → IsListedChange old new lists place
listed-change dates old new days lists place d h old_long new_long there changed =
    let within = change-there old new (get_or days place d).need (new_long ∙ sym old_long) changed in
    record {
      date = (get_or days place d).need;
      there = within;
      changed = changed;
      listed = λ e. h.listed place d e there (omega (arith, within, old_long));
    }

-- where the multiplier of the limit stays, a day is priced at another leaf already, or is listed
pub priced-or-listed : (dates : ℕ) (old new : Leaf) (days : List PricedDay) (lists : List DateDays) (worths : List Worth) → AreDateDays dates days lists → length old.prices ≡ dates
    → length new.prices ≡ dates → old.mu ≡ new.mu → worths ≡ map (worth_on old) days → (place : ℕ) → place < length days
    → IsPriced new days worths place ⊎ IsListedChange old.prices new.prices lists place
priced-or-listed dates old new days lists worths h old_long new_long limit priced place there =
    elim (cases_eq (get_or old.prices (get_or days place none).need 0) (get_or new.prices (get_or days place none).need 0)) [
      | inl same ↦
          inl (λ d. ap (λ ws. worth_at ws place) priced ∙ get_or-map (worth_on old) days place none (record { above = 0; below = 0 }) there
          ∙ worth-stays old new (get_or days place none) limit same ∙ ap (worth_on new) (get_or_default days place none d there))
      | inr changed ↦ inr (listed-change dates old.prices new.prices days lists place none h old_long new_long there changed)
    ]
  where
    none : PricedDay
    none = record { need = dates; power = 0 }

-- where one price changes, a listed change is at its date
pub change-at : (old new : List ℕ) (date price : ℕ) (lists : List DateDays) (place : ℕ) (e : DateDays) → new ≡ set old date price → IsListedChange old new lists place
    → Contains (get_or lists date e).places.items place
change-at old new date price lists place e is h =
    elim (cases_eq h.date date) [
      | inl at ↦ subst (λ k. Contains (get_or lists k e).places.items place) at (h.listed e)
      | inr apart ↦ absurd (h.changed (sym (ap (λ prices. get_or prices h.date 0) is ∙ get_or-set_other old date h.date price 0 apart)))
    ]

-- a place that one of the dates from an index on lists
abbrev pub IsListedAhead : ℕ → List ℕ → List DateDays → ℕ → Type 0
IsListedAhead from dates lists place = (k : ℕ) × (from ≤ k) × (k < length dates) × ((e : DateDays) → Contains (get_or lists (get_or dates k 0) e).places.items place)

pub listed-start : (dates : List ℕ) (lists : List DateDays) (place : ℕ) → IsListedAt dates lists place → IsListedAhead 0 dates lists place
listed-start dates lists place at =
    let is : get_or dates at.among.0 0 ≡ at.date = get_or_default dates at.among.0 0 at.date at.among.1 ∙ at.among.2 in
    (at.among.0, omega arith, at.among.1, λ e. subst (λ date. Contains (get_or lists date e).places.items place) (sym is) (at.listed e))

-- one date more: what was done stays so, and what it lists gets done
pub dates-more : (was is : Type 0) (from : ℕ) (dates : List ℕ) (lists : List DateDays) (place : ℕ) → (was → is)
    → (((e : DateDays) → Contains (get_or lists (get_or dates from 0) e).places.items place) → is) → was ⊎ IsListedAhead from dates lists place → is ⊎ IsListedAhead (from + 1) dates lists place
dates-more was is from dates lists place stays done (inl before) = inl (stays before)
dates-more was is from dates lists place stays done (inr ahead) =
    elim (cases_eq ahead.0 from) [
      | inl at ↦ inl (done (subst (λ k. (e : DateDays) → Contains (get_or lists (get_or dates k 0) e).places.items place) at ahead.3))
      | inr late ↦ inr (ahead.0, omega (arith, ahead.1, late), ahead.2, ahead.3)
    ]

-- what a change lists is listed at one of the dates among which all changes are
pub listed-change-at : (old new dates : List ℕ) (lists : List DateDays) (place : ℕ) → AreChangedDates old new dates → IsListedChange old new lists place → IsListedAt dates lists place
listed-change-at old new dates lists place changes change = record {
  date = change.date;
  among = changes.every change.date change.there change.changed;
  listed = change.listed;
}

-- a day of the rest of a list
abbrev pub IsAhead : ℕ → List ℕ → ℕ → Type 0
IsAhead from places day = (k : ℕ) × (from ≤ k) × (k < length places) × (get_or places k day ≡ day)

-- a place that is listed ahead is the next one, or ahead of that
pub ahead-more : (from place : ℕ) (places : List ℕ) (k : ℕ) → from < length places → ((d : ℕ) → get_or places from d ≡ place) → IsAhead from places k → (k ≡ place) ⊎ IsAhead (from + 1) places k
ahead-more from place places k few is ahead =
    elim (cases_eq ahead.0 from) [
      | inl at ↦ inl (sym ahead.3 ∙ ap (λ j. get_or places j k) at ∙ is k)
      | inr late ↦ inr (ahead.0, omega (arith, ahead.1, late), ahead.2, ahead.3)
    ]

-- a day more is priced
pub priced-more : (leaf : Leaf) (days : List PricedDay) (places : List ℕ) (worths : List Worth) (from place : ℕ) (own : Worth) → from < length places
    → ((d : ℕ) → get_or places from d ≡ place) → place < length worths → ((d : PricedDay) → own ≡ worth_on leaf (get_or days place d))
    → (day : ℕ) → IsPriced leaf days worths day ⊎ IsAhead from places day → IsPriced leaf days (set worths place own) day ⊎ IsAhead (from + 1) places day
priced-more leaf days places worths from place own few is there own_is day h =
    elim (cases_eq day place) [
      | inl at ↦
          inl (λ d. ap (λ k. worth_at (set worths place own) k) at ∙ get_or-set_same worths place own none there ∙ own_is d ∙ ap (λ k. worth_on leaf (get_or days k d)) (sym at))
      | inr apart ↦
          elim h [
            | inl priced ↦ inl (λ d. get_or-set_other worths place day own none apart ∙ priced d)
            | inr ahead ↦
                elim (ahead-more from place places day few is ahead) [
                  | inl at ↦ absurd (apart at)
                  | inr more ↦ inr more
                ]
          ]
    ]
  where
    none : Worth
    none = record { above = 0; below = 0 }

-- all days are priced
pub all-priced : (leaf : Leaf) (days : List PricedDay) (worths : List Worth) → length worths ≡ length days → ((day : ℕ) → day < length days → IsPriced leaf days worths day)
    → worths ≡ map (worth_on leaf) days
all-priced leaf days worths same h =
    let none : PricedDay = record { need = 0; power = 0 } in
    let nothing : Worth = record { above = 0; below = 0 } in
    same-list worths (map (worth_on leaf) days) (omega (arith, same, length-map days (worth_on leaf)))
    (λ k w lt.
    let there : k < length days = omega (arith, lt, same) in
    get_or_default worths k w nothing lt ∙ h k there none ∙ sym (get_or-map (worth_on leaf) days k none w there))

-- where one price changes and the days of its date are priced anew, all days are priced
pub date-priced : (dates : ℕ) (old new : Leaf) (date price : ℕ) (days : List PricedDay) (lists : List DateDays) (start worths : List Worth) (e : DateDays) → AreDateDays dates days lists
    → length old.prices ≡ dates → length new.prices ≡ dates → old.mu ≡ new.mu → new.prices ≡ set old.prices date price → start ≡ map (worth_on old) days → length worths ≡ length days
    → ((day : ℕ) → day < length days → IsPriced new days start day ⊎ Contains (get_or lists date e).places.items day → IsPriced new days worths day)
    → worths ≡ map (worth_on new) days
date-priced dates old new date price days lists start worths e h old_long new_long limit is priced every each =
    all-priced new days worths every
    (λ day few.
    each day few
    (elim (priced-or-listed dates old new days lists start h old_long new_long limit priced day few) [
      | inl was ↦ inl was
      | inr change ↦ inr (change-at old.prices new.prices date price lists day e is change)
    ]))
