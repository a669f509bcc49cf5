-- What a search by halves has come to where nothing more is asked.
use Rattle.std.proofs.Common.{◌≡◌, ◌+◌, ◌≤◌, arith, inl, inr, subst, List, []}
use Rattle.std.specs.List.{Contains}
use Rattle.std.proofs.lemmas.List.Elements.{All-contains}
use Rattle.escrow_units.specs.declared.amount.Rate.{Rate}
use Rattle.rate_cap.proofs.CapFacts.{none-in, same-rate, tens}
use Rattle.rate_cap.specs.Search.{AreOneApart, CapsTold, IsCapUpTo, IsGreatest, IsSearch, SearchesEndAtHundredths, SearchesEndAtZero}

up-to : (told : CapsTold) → IsSearch told → (cap : Rate) → Contains told.found cap → IsCapUpTo told.top cap
up-to told kept cap in' = All-contains (IsCapUpTo told.top) told.found cap kept.found in'

at-most : (told : CapsTold) (best cap : Rate) → IsGreatest told.found best → Contains told.found cap → cap.0 ≤ best.0
at-most told best cap greatest in' = All-contains (λ (other : Rate). other.0 ≤ best.0) told.found cap greatest.greatest in'

next-not_found : (told : CapsTold) (best : Rate) → IsSearch told → IsGreatest told.found best → AreOneApart told
    → Contains told.not_found (record { 0 = best.0 + 10 })
next-not_found told best kept greatest one =
    let own = tens best.0 (up-to told kept best greatest.among).rate.hundredths in
    let low = tens one.low.0 (up-to told kept one.low one.found).rate.hundredths in
    let above = kept.apart best one.high greatest.among one.not_found in
    let below = at-most told best one.low greatest one.found in
    subst (Contains told.not_found) (same-rate one.high (record { 0 = best.0 + 10 }) (omega (arith, own, low, above, below, one.apart))) one.not_found

pub end-at_hundredths : SearchesEndAtHundredths
end-at_hundredths told best kept settled greatest less = elim settled [
  | inl top_in ↦ absurd (omega (arith, at-most told best told.top greatest top_in, less))
  | inr rest ↦ elim rest [
    | inl zero_in ↦ absurd (omega (arith, kept.apart best (record { 0 = 0 }) greatest.among zero_in))
    | inr one ↦ next-not_found told best kept greatest one
  ]
]

none-among : {A : Type 0} (caps : List Rate) (cap : Rate) → caps ≡ [] → Contains caps cap → A
none-among caps cap none in' = none-in cap (subst (λ (xs : List Rate). Contains xs cap) none in')

pub end-at_zero : SearchesEndAtZero
end-at_zero told kept settled none = elim settled [
  | inl top_in ↦ none-among told.found told.top none top_in
  | inr rest ↦ elim rest [ inl zero_in ↦ zero_in | inr one ↦ none-among told.found one.low none one.found ]
]
