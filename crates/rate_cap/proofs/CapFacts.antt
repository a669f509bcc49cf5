-- Lists of caps: the greatest, the least and the last.
use Rattle.std.proofs.Common.{◌≡◌, ◌≢◌, ℕ, ◌*◌, ◌/◌, ◌%◌, ◌+◌, ◌-◌, ◌≤◌, refl, ap, subst, arith, List, [], ◌∷◌, ◌++◌, length, length-append, Some}
use Rattle.std.specs.Prelude.{All}
use Rattle.std.specs.List.{Contains}
use Rattle.std.proofs.lemmas.List.Elements.{All-cons, All-nil, All-push, All-weaker, Contains-push}
use Rattle.std.proofs.lemmas.Option.{slice_get-get_or}
use Rattle.std.proofs.Math.Seq.{get_or-append_seam}
use Rattle.escrow_units.specs.declared.amount.Rate.{Rate}
use Rattle.rate_table.specs.Table.{IsTableRate}
use Rattle.rate_cap.specs.Halving.{last}
use Rattle.rate_cap.specs.Search.{IsCapUpTo, IsGreatest, IsLeast, zero_cap}

abbrev pub rate : ℕ → Rate
rate n = record { 0 = n }

pub same-rate : (a b : Rate) → a.0 ≡ b.0 → a ≡ b
same-rate a b e = ap rate e

-- ---- lists of caps
pub none-in : {A : Type 0} (cap : Rate) → Contains [] cap → A
none-in cap in' = absurd (omega (arith, in'.1))

pub first-in : (own : Rate) (caps : List Rate) → Contains (own ∷ caps) own
first-in own caps = (0, omega arith, refl)

pub one-cap : (P : Rate → Type 0) (cap : Rate) → P cap → All P (cap ∷ [])
one-cap P cap here = All-cons P cap [] here (All-nil P)

pub not-empty : (caps : List Rate) (cap : Rate) → Contains caps cap → caps ≢ []
not-empty caps cap in' none = none-in cap (subst (λ xs. Contains xs cap) none in')

pub last-push : (caps : List Rate) (cap : Rate) → last (caps ++ cap ∷ []) ≡ Some cap
last-push caps cap =
    let long : length (caps ++ cap ∷ []) ≡ length caps + 1 = length-append caps (cap ∷ []) in
    let place : length (caps ++ cap ∷ []) - 1 ≡ length caps = omega (arith, long) in
    rw (place, slice_get-get_or (caps ++ cap ∷ []) (length caps) cap (omega (arith, long)), get_or-append_seam caps cap [] cap) refl

pub greatest-push : (caps : List Rate) (old cap : Rate) → IsGreatest caps old → old.0 ≤ cap.0 → IsGreatest (caps ++ cap ∷ []) cap
greatest-push caps old cap was above = record {
  among = Contains-push caps cap;
  greatest = All-push (λ (other : Rate). other.0 ≤ cap.0) caps cap
      (All-weaker (λ (other : Rate). other.0 ≤ old.0) (λ other. other.0 ≤ cap.0) (λ other h. omega (arith, h, above)) caps was.greatest)
      (omega arith);
}

pub least-push : (caps : List Rate) (old cap : Rate) → IsLeast caps old → cap.0 ≤ old.0 → IsLeast (caps ++ cap ∷ []) cap
least-push caps old cap was below = record {
  among = Contains-push caps cap;
  least = All-push (λ (other : Rate). cap.0 ≤ other.0) caps cap
      (All-weaker (λ (other : Rate). old.0 ≤ other.0) (λ other. cap.0 ≤ other.0) (λ other h. omega (arith, h, below)) caps was.least)
      (omega arith);
}

pub greatest-one : (cap : Rate) → IsGreatest (cap ∷ []) cap
greatest-one cap = record { among = first-in cap []; greatest = one-cap (λ other. other.0 ≤ cap.0) cap (omega arith) }

pub least-one : (cap : Rate) → IsLeast (cap ∷ []) cap
least-one cap = record { among = first-in cap []; least = one-cap (λ other. cap.0 ≤ other.0) cap (omega arith) }

-- ---- caps
pub zero-rate : IsTableRate zero_cap
zero-rate = record { limit = omega arith; hundredths = refl }

pub zero-up : (top : Rate) → IsCapUpTo top zero_cap
zero-up top = record { rate = zero-rate; most = omega arith }

pub top-up : (top : Rate) → IsTableRate top → IsCapUpTo top top
top-up top cap = record { rate = cap; most = omega arith }

-- whole hundredths
pub tens : (n : ℕ) → n % 10 ≡ 0 → n ≡ 10 * (n / 10)
tens n h = omega (arith, h)
