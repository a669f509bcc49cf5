-- What the residual is, that it is one, and that it stands for the needs.
use Rattle.std.proofs.Common.{◌≡◌, ◌∙◌, ℕ, ◌+◌, ◌-◌, ◌<◌, ◌≤◌, sym, ap, subst, arith, ℤ, pos, ◌+ℤ◌, ◌-ℤ◌, ◌≤ℤ◌, ◌<ℤ◌, inl, inr, List, [], get_or}
use Rattle.std.proofs.lemmas.Bool.{cases_lt}
use Rattle.std.proofs.lemmas.Int.{ints, by_lt_z}
use Rattle.escrow_units.specs.Flows.{ComeInOrder, Rise}
use Rattle.escrow_units.specs.declared.security.Flow.{Flow}
use Rattle.day_sums.specs.Summed.{cents_on, total_by}
use Rattle.day_sums.specs.SummedLaws.{AreAboveZero}
use Rattle.day_sums.proofs.SumFacts.{pairs-from_rising, rising-from_pairs}
use Rattle.day_sums.proofs.Uniqueness.{only-sums}
use Rattle.cash_table.specs.Receipts.{total_before}
use Rattle.cash_table.proofs.BalanceFacts.{total_by-next, total_by-parts}
use Rattle.cash_table.proofs.DayFacts.{total_by-le, total_by-later}
use Rattle.held_escrow.specs.Residual.{IsGreatestShortfall, IsResidual, ResidualsAreOne, StandsForNeeds, residual_of, shortfall}
use Rattle.held_escrow.proofs.DayFacts.{early, in_order-from_pairs, lacking_on_every_day, rise-in_order}
use Rattle.held_escrow.proofs.GrowthFacts.{IsShortfallBy, growths-above, growths-reach, growths-rise, growths-stop}

-- ---- the residual is what it is said to be
-- long before, nothing is lacking
none_yet : (needs held : List Flow) (t : ℤ) → IsShortfallBy t needs held 0
none_yet needs held t =
    let first = early t needs in
    record { at = first.0; by = first.1.not_after; is = omega (arith, total_by-later first.0 needs first.1.before) }

within : (a b c : ℕ) → a - b ≤ 0 + c → a ≤ b + c
within a b c h = omega (arith, h)

plain : (n : ℕ) → 0 + n ≡ n
plain n = omega arith

most-by : (needs held : List Flow) (t : ℤ) → ComeInOrder needs → (s : ℤ) → s ≤ℤ t → shortfall needs held s ≤ total_by t (residual_of needs held)
most-by needs held t order s earlier =
    let reach = growths-reach t needs held 0 needs (in_order-from_pairs needs order) in
    let more = total_by t (residual_of needs held) in
    let lacks = lacking_on_every_day needs held more s
    (λ k d short by. within (total_by (get_or needs k d).day needs) (total_by (get_or needs k d).day held) more (reach k d short (through (get_or needs k d).day s t by earlier))) in
    omega (arith, lacks)
  where
    through : (a b e : ℤ) → a ≤ℤ b → b ≤ℤ e → a ≤ℤ e
    through a b e h k = omega (arith, ints, h, k)

pub residual-is : (needs held : List Flow) → ComeInOrder needs → IsResidual needs held (residual_of needs held)
residual-is needs held order = record {
  rise = pairs-from_rising (residual_of needs held) (growths-rise needs held 0 needs (in_order-from_pairs needs order));
  above = growths-above needs held 0 needs;
  days = λ day.
      let stop = growths-stop day needs held 0 needs (in_order-from_pairs needs order) (none_yet needs held day) in
      record { most = most-by needs held day order; at = stop.at; by = stop.by; reached = stop.is ∙ plain (total_by day (residual_of needs held)) };
}

-- ---- and one
same-greatest : (needs held : List Flow) (t : ℤ) (a b : ℕ) → IsGreatestShortfall needs held t a → IsGreatestShortfall needs held t b → a ≡ b
same-greatest needs held t a b one other =
    omega (arith, one.reached, other.reached, one.most other.at other.by, other.most one.at one.by)

-- amounts that come to the same by each day come to the same on each
same-on : (a b : List Flow) → ((t : ℤ) → total_by t a ≡ total_by t b) → (day : ℤ) → cents_on day a ≡ cents_on day b
same-on a b same day =
    let eve = day -ℤ pos 1 in
    let back : eve +ℤ pos 1 ≡ day = next day in
    omega (
      arith,
      total_by-parts day a,
      total_by-parts day b,
      total_by-next eve a,
      total_by-next eve b,
      ap (λ (z : ℤ). total_before z a) back,
      ap (λ (z : ℤ). total_before z b) back,
      same day,
      same eve,
    )
  where
    next : (z : ℤ) → (z -ℤ pos 1) +ℤ pos 1 ≡ z
    next z = omega (arith, ints)

pub residuals-are_one : ResidualsAreOne
residuals-are_one needs held residual order = (
  (λ is.
      let own = residual-is needs held order in
      only-sums residual (residual_of needs held) (rising-from_pairs residual is.rise) (rising-from_pairs (residual_of needs held) own.rise) is.above own.above
      (same-on residual (residual_of needs held)
      (λ t. same-greatest needs held t (total_by t residual) (total_by t (residual_of needs held)) (is.days t) (own.days t)))),
  (λ same. subst (IsResidual needs held) (sym same) (residual-is needs held order)),
)

-- without holdings it is the needs
own-residual : (needs : List Flow) → Rise needs → AreAboveZero needs → IsResidual needs [] needs
own-residual needs rise above = record {
  rise = rise;
  above = above;
  days = λ day. record { most = λ earlier by. omega (arith, total_by-le earlier day needs by); at = day; by = same day; reached = omega arith };
}
  where
    same : (a : ℤ) → a ≤ℤ a
    same a = omega (arith, ints)

pub none-held : (needs : List Flow) → Rise needs → AreAboveZero needs → residual_of needs [] ≡ needs
none-held needs rise above = sym ((residuals-are_one needs [] needs (rise-in_order needs rise)).0 (own-residual needs rise above))

-- ---- it stands for the needs
-- needs are met where the residual is
pub needs-met : (needs held residual paid : List Flow) (t : ℤ) → IsResidual needs held residual → total_by t residual ≤ total_by t paid → total_by t needs ≤ total_by t paid + total_by t held
needs-met needs held residual paid t is meets = omega (arith, (is.days t).most t (same t), meets)
  where
    same : (a : ℤ) → a ≤ℤ a
    same a = omega (arith, ints)

-- and the residual where the needs are, up to a day
pub residual-met : (needs held residual paid : List Flow) (t : ℤ) → IsResidual needs held residual → ((s : ℤ) → s ≤ℤ t → total_by s needs ≤ total_by s paid + total_by s held)
    → total_by t residual ≤ total_by t paid
residual-met needs held residual paid t is meets =
    let greatest = is.days t in
    omega (arith, greatest.reached, meets greatest.at greatest.by, total_by-le greatest.at t paid greatest.by)

pub stands : (needs held residual : List Flow) → IsResidual needs held residual → StandsForNeeds needs held residual
stands needs held residual is paid = (
  (λ meets t. needs-met needs held residual paid t is (meets t)),
  (λ meets t. residual-met needs held residual paid t is (λ s _. meets s)),
)

-- the first day short of the one is that short of the others
pub short-needs : (needs held residual paid : List Flow) (t : ℤ) → IsResidual needs held residual → total_by t paid < total_by t residual
    → ((s : ℤ) → s <ℤ t → total_by s needs ≤ total_by s paid + total_by s held) → total_by t paid + total_by t held < total_by t needs
short-needs needs held residual paid t is short before = elim (cases_lt (total_by t paid + total_by t held) (total_by t needs)) [
  | inl less ↦ less
  | inr more ↦ absurd (omega (
    arith,
    short,
    residual-met needs held residual paid t is (λ s by. by_lt_z s t (before s) (λ from. same_day s (only s by from) more)),
  ))
]
  where
    only : (s : ℤ) → s ≤ℤ t → t ≤ℤ s → s ≡ t
    only s h k = omega (arith, ints, h, k)

    same_day : (s : ℤ) → s ≡ t → total_by t needs ≤ total_by t paid + total_by t held → total_by s needs ≤ total_by s paid + total_by s held
    same_day s same met = subst (λ (z : ℤ). total_by z needs ≤ total_by z paid + total_by z held) (sym same) met

pub short-residual : (needs held residual paid : List Flow) (t : ℤ) → IsResidual needs held residual → total_by t paid + total_by t held < total_by t needs
    → total_by t paid < total_by t residual
short-residual needs held residual paid t is short = elim (cases_lt (total_by t paid) (total_by t residual)) [
  | inl less ↦ less
  | inr more ↦ absurd (omega (arith, short, needs-met needs held residual paid t is more))
]
