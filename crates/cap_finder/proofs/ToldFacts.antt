-- The greatest cap that was told as found and the least that wasn't: how they go on, and where they stand when nothing more is asked.
use Rattle.std.proofs.Common.{◌≡◌, ◌+◌, ◌/◌, ◌*◌, ◌%◌, ◌<◌, ◌≤◌, ℕ, refl, sym, subst, arith, inl, List, [], ◌∷◌, ◌++◌, length-append, Option, Some, None}
use Rattle.std.specs.List.{Contains}
use Rattle.std.proofs.lemmas.List.Elements.{All-contains}
use Rattle.escrow_units.specs.declared.amount.Rate.{Rate}
use Rattle.rate_cap.proofs.CapFacts.{greatest-one, greatest-push, least-one, least-push, none-in, not-empty, same-rate, tens}
use Rattle.rate_cap.specs.Search.{CapsTold, IsCapUpTo, IsGreatest, IsLeast, IsSearch, IsSettled, SearchesEndAtHundredths, SearchesEndAtZero, middle, zero_cap}
use Rattle.cap_finder.specs.Progress.{AreEnds, IsAsked, IsOneMore}

pub found-up : (told : CapsTold) (cap : Rate) → IsSearch told → Contains told.found cap → IsCapUpTo told.top cap
found-up told cap kept in' = All-contains (IsCapUpTo told.top) told.found cap kept.found in'

not_found-up : (told : CapsTold) (cap : Rate) → IsSearch told → Contains told.not_found cap → IsCapUpTo told.top cap
not_found-up told cap kept in' = All-contains (IsCapUpTo told.top) told.not_found cap kept.not_found in'

half-between : (low high : ℕ) → low % 10 ≡ 0 → high % 10 ≡ 0 → low < high → (low ≤ (low + high) / 20 * 10) × ((low + high) / 20 * 10 ≤ high)
half-between low high low_tens high_tens less = (omega (arith, tens low low_tens, tens high high_tens, less), omega (arith, less))

-- the middle lies between the ends
between : (told : CapsTold) (low high cap : Rate) → IsAsked told cap → IsGreatest told.found low → IsLeast told.not_found high
    → (low.0 ≤ cap.0) × (cap.0 ≤ high.0)
between told low high cap asked greatest least =
    let is : cap ≡ middle low high = asked.next.later low high greatest least in
    let low_up = found-up told low asked.kept greatest.among in
    let high_up = not_found-up told high asked.kept least.among in
    let less = asked.kept.apart low high greatest.among least.among in
    let both = half-between low.0 high.0 low_up.rate.hundredths high_up.rate.hundredths less in
    subst (λ (own : Rate). (low.0 ≤ own.0) × (own.0 ≤ high.0)) (sym is) both

-- where the top is found nothing more is asked
top-settles : {A : Type 0} (told : CapsTold) (low cap : Rate) → IsAsked told cap → Contains told.found low → low ≡ told.top → A
top-settles told low cap asked in' is = absurd (asked.unsettled (inl (subst (Contains told.found) is in')))

first-greatest : (found : List Rate) (cap : Rate) → found ≡ [] → IsGreatest (found ++ cap ∷ []) cap
first-greatest found cap none = subst (λ (own : List Rate). IsGreatest (own ++ cap ∷ []) cap) (sym none) (greatest-one cap)

first-least : (not_found : List Rate) (cap : Rate) → not_found ≡ [] → IsLeast (not_found ++ cap ∷ []) cap
first-least not_found cap none = subst (λ (own : List Rate). IsLeast (own ++ cap ∷ []) cap) (sym none) (least-one cap)

abbrev with_found : CapsTold → Rate → CapsTold
with_found told cap = record told { found = told.found ++ cap ∷ [] }

abbrev with_not_found : CapsTold → Rate → CapsTold
with_not_found told cap = record told { not_found = told.not_found ++ cap ∷ [] }

-- ---- one more cap
pub found-more : (told after : CapsTold) (cap : Rate) → after ≡ record told { found = told.found ++ cap ∷ [] } → IsOneMore told after
found-more told after cap is =
    subst (IsOneMore told) (sym is) (record { top = refl; more = omega (arith, length-append told.found (cap ∷ [])) })

pub not_found-more : (told after : CapsTold) (cap : Rate) → after ≡ record told { not_found = told.not_found ++ cap ∷ [] } → IsOneMore told after
not_found-more told after cap is =
    subst (IsOneMore told) (sym is) (record { top = refl; more = omega (arith, length-append told.not_found (cap ∷ [])) })

pub found-next : (told : CapsTold) (low high : Option Rate) (cap : Rate) → AreEnds told low high → IsAsked told cap
    → AreEnds (record told { found = told.found ++ cap ∷ [] }) (Some cap) high
found-next told None None cap ends asked = record {
  greatest = first-greatest told.found cap ends.greatest;
  least = ends.least;
  top_first = λ _. asked.next.first ends.greatest ends.least;
}
found-next told None (Some high) cap ends asked = record {
  greatest = first-greatest told.found cap ends.greatest;
  least = ends.least;
  top_first = λ none. absurd (cc);
}
found-next told (Some low) None cap ends asked = top-settles told low cap asked ends.greatest.among (ends.top_first refl)
found-next told (Some low) (Some high) cap ends asked = record {
  greatest = greatest-push told.found low cap ends.greatest (between told low high cap asked ends.greatest ends.least).0;
  least = ends.least;
  top_first = λ none. absurd (cc);
}

pub not_found-next : (told : CapsTold) (low high : Option Rate) (cap : Rate) → AreEnds told low high → IsAsked told cap
    → AreEnds (record told { not_found = told.not_found ++ cap ∷ [] }) low (Some cap)
not_found-next told low None cap ends asked = record {
  greatest = ends.greatest;
  least = first-least told.not_found cap ends.least;
  top_first = λ none. absurd (cc);
}
not_found-next told None (Some high) cap ends asked =
    let zero : cap ≡ zero_cap = asked.next.second ends.greatest (not-empty told.not_found high ends.least.among) in
    record {
      greatest = ends.greatest;
      least = least-push told.not_found high cap ends.least (subst (λ (own : Rate). own.0 ≤ high.0) (sym zero) (omega arith));
      top_first = λ none. absurd (cc);
    }
not_found-next told (Some low) (Some high) cap ends asked = record {
  greatest = ends.greatest;
  least = least-push told.not_found high cap ends.least (between told low high cap asked ends.greatest ends.least).1;
  top_first = λ none. absurd (cc);
}

-- ---- where nothing more is asked
at-least : (told : CapsTold) (high cap : Rate) → IsLeast told.not_found high → Contains told.not_found cap → high.0 ≤ cap.0
at-least told high cap least in' = All-contains (λ (other : Rate). high.0 ≤ other.0) told.not_found cap least.least in'

-- the least cap that wasn't found is one hundredth above the greatest that was
pub record IsNextTold (told : CapsTold) (low high : Rate) : Type 0 where
  pub below : low.0 < told.top.0
  pub next : high.0 ≡ low.0 + 10

pub next-told : SearchesEndAtHundredths → (told : CapsTold) (low high : Rate) → IsSearch told → IsSettled told → AreEnds told (Some low) (Some high)
    → IsNextTold told low high
next-told law told low high kept settled ends =
    let high_up = not_found-up told high kept ends.least.among in
    let low_up = found-up told low kept ends.greatest.among in
    let apart = kept.apart low high ends.greatest.among ends.least.among in
    let below : low.0 < told.top.0 = omega (arith, high_up.most, apart) in
    let above : high.0 ≤ low.0 + 10 = at-least told high (record { 0 = low.0 + 10 }) ends.least (law told low kept settled ends.greatest below) in
    record {
      below = below;
      next = omega (arith, tens low.0 low_up.rate.hundredths, tens high.0 high_up.rate.hundredths, apart, above);
    }

-- where no cap was found, the least that wasn't is 0
pub zero-told : SearchesEndAtZero → (told : CapsTold) (high : Rate) → IsSearch told → IsSettled told → AreEnds told None (Some high) → high ≡ zero_cap
zero-told law told high kept settled ends =
    let least : high.0 ≤ 0 = at-least told high zero_cap ends.least (law told kept settled ends.greatest) in
    same-rate high zero_cap (omega (arith, least))

-- where no cap was found, there is one that wasn't
pub some-told : {A : Type 0} → SearchesEndAtZero → (told : CapsTold) → IsSearch told → IsSettled told → AreEnds told None None → A
some-told law told kept settled ends =
    none-in zero_cap (subst (λ (own : List Rate). Contains own zero_cap) ends.least (law told kept settled ends.greatest))

-- the top was told as not found, where any cap was
pub top-told : (told : CapsTold) (low : Option Rate) (high : Rate) → IsSearch told → AreEnds told low (Some high) → Contains told.not_found told.top
top-told told low high kept ends = kept.top_first (not-empty told.not_found high ends.least.among)
