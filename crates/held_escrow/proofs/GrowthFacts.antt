-- The growths of the greatest shortfall, need by need.
use Rattle.std.proofs.Common.{◌≡◌, ◌∙◌, ℕ, ◌+◌, ◌-◌, ◌<◌, ◌≤◌, max, refl, sym, ap, arith, ℤ, ◌≤ℤ◌, ◌<ℤ◌, inl, inr, Bool, if◌then◌else◌, List, [], ◌∷◌, ◌++◌, length}
use Rattle.std.specs.List.{All}
use Rattle.std.proofs.lemmas.Bool.{cases_lt, lt-ltb, le-ltb}
use Rattle.std.proofs.lemmas.Int.{ints, by_lt_z}
use Rattle.std.proofs.lemmas.List.Elements.{All-append, All-cons, All-head, All-nil, All-tail, All-weaker}
use Rattle.std.proofs.lemmas.List.Sums.{sum_by-append, sum_by-cons}
use Rattle.std.proofs.lemmas.List.{length-append}
use Rattle.escrow_units.specs.Flows.{total}
use Rattle.escrow_units.specs.declared.security.Flow.{Flow}
use Rattle.day_sums.specs.Summed.{on, total_by}
use Rattle.day_sums.specs.SummedLaws.{AreAboveZero}
use Rattle.day_sums.proofs.SumFacts.{DaysAre, IsAbove, Rising}
use Rattle.cash_table.specs.Receipts.{cents_by}
use Rattle.cash_table.proofs.DayFacts.{total_by-later}
use Rattle.cash_table.proofs.ReceiptFacts.{cents_by-due}
use Rattle.held_escrow.specs.Residual.{growth_on, growths, shortfall}
use Rattle.held_escrow.proofs.DayFacts.{InOrder, by-cons}

-- ---- one need
pub growth-some : (day : ℤ) (before now : ℕ) → before < now → growth_on day before now ≡ on day (now - before) ∷ []
growth-some day before now more = ap (λ (b : Bool). if b then on day (now - before) ∷ [] else []) (lt-ltb before now more)

pub growth-none : (day : ℤ) (before now : ℕ) → now ≤ before → growth_on day before now ≡ []
growth-none day before now few = ap (λ (b : Bool). if b then on day (now - before) ∷ [] else []) (le-ltb before now few)

-- a growth by a day from its own on, and before it
growth-due : (t day : ℤ) (before now : ℕ) → day ≤ℤ t → before + total_by t (growth_on day before now) ≡ max before now
growth-due t day before now due = elim (cases_lt before now) [
  | inl more ↦ omega (
    arith,
    ap (total_by t) (growth-some day before now more),
    by-cons t (on day (now - before)) [],
    cents_by-due t (on day (now - before)) due,
    more,
  )
  | inr few ↦ omega (arith, ap (total_by t) (growth-none day before now few), few)
]

growth-days : (P : ℤ → Type 0) (day : ℤ) (before now : ℕ) → (before < now → P day) → DaysAre P (growth_on day before now)
growth-days P day before now holds = elim (cases_lt before now) [
  | inl more ↦ rw (growth-some day before now more) (All-cons (λ (f : Flow). P f.day) (on day (now - before)) [] (holds more) (All-nil (λ (f : Flow). P f.day)))
  | inr few ↦ rw (growth-none day before now few) (All-nil (λ (f : Flow). P f.day))
]

-- ---- all of them
pub step : (needs held : List Flow) (before : ℕ) (need : Flow) (later : List Flow)
    → growths needs held before (need ∷ later) ≡ growth_on need.day before (shortfall needs held need.day) ++ growths needs held (max before (shortfall needs held need.day)) later
unfolding growths
step needs held before need later = refl

-- what holds of the days of needs holds of those of growths
pub growths-days : (P : ℤ → Type 0) (needs held : List Flow) (before : ℕ) (later : List Flow) → DaysAre P later → DaysAre P (growths needs held before later)
unfolding growths
growths-days P needs held before [] all = All-nil (λ (f : Flow). P f.day)
growths-days P needs held before (need ∷ later) all =
    All-append (λ (f : Flow). P f.day) (growth_on need.day before (shortfall needs held need.day)) (growths needs held (max before (shortfall needs held need.day)) later)
    (growth-days P need.day before (shortfall needs held need.day) (λ _. All-head (λ (f : Flow). P f.day) need later all))
    (growths-days P needs held (max before (shortfall needs held need.day)) later (All-tail (λ (f : Flow). P f.day) need later all))

-- after a day whose shortfall was reached, growths come later
growths-after : (day : ℤ) (needs held : List Flow) (before : ℕ) (later : List Flow) → shortfall needs held day ≤ before → DaysAre (λ other. day ≤ℤ other) later
    → DaysAre (λ other. day <ℤ other) (growths needs held before later)
unfolding growths
growths-after day needs held before [] reached all = All-nil (λ (f : Flow). day <ℤ f.day)
growths-after day needs held before (need ∷ later) reached all =
    let now = shortfall needs held need.day in
    All-append (λ (f : Flow). day <ℤ f.day) (growth_on need.day before now) (growths needs held (max before now) later)
    (growth-days (λ other. day <ℤ other) need.day before now
    (λ more. by_lt_z day need.day (λ less. less)
    (λ due. absurd (omega (arith, more, reached, ap (shortfall needs held) (same day need.day due (All-head (λ (f : Flow). day ≤ℤ f.day) need later all)))))))
    (growths-after day needs held (max before now) later (higher (shortfall needs held day) before now reached) (All-tail (λ (f : Flow). day ≤ℤ f.day) need later all))
  where
    same : (a b : ℤ) → b ≤ℤ a → a ≤ℤ b → a ≡ b
    same a b h k = omega (arith, ints, h, k)

    higher : (a b e : ℕ) → a ≤ b → a ≤ max b e
    higher a b e h = omega (arith, h)

above-one : (day : ℤ) (before now : ℕ) → All IsAbove (growth_on day before now)
above-one day before now = elim (cases_lt before now) [
  | inl more ↦ rw (growth-some day before now more) (All-cons IsAbove (on day (now - before)) [] (omega (arith, more)) (All-nil IsAbove))
  | inr few ↦ rw (growth-none day before now few) (All-nil IsAbove)
]

pub growths-above : (needs held : List Flow) (before : ℕ) (later : List Flow) → AreAboveZero (growths needs held before later)
unfolding growths
growths-above needs held before [] = All-nil IsAbove
growths-above needs held before (need ∷ later) =
    All-append IsAbove (growth_on need.day before (shortfall needs held need.day)) (growths needs held (max before (shortfall needs held need.day)) later)
    (above-one need.day before (shortfall needs held need.day))
    (growths-above needs held (max before (shortfall needs held need.day)) later)

-- their days strictly rise
pub growths-rise : (needs held : List Flow) (before : ℕ) (later : List Flow) → InOrder later → Rising (growths needs held before later)
unfolding growths
growths-rise needs held before [] order = tt
growths-rise needs held before (need ∷ later) order =
    let now = shortfall needs held need.day in
    let rest = growths needs held (max before now) later in
    let others : Rising rest = growths-rise needs held (max before now) later order.1 in
    elim (cases_lt before now) [
      | inl more ↦ rw (growth-some need.day before now more)
          (growths-after need.day needs held (max before now) later (omega arith) order.0, others)
      | inr few ↦ rw (growth-none need.day before now few) others
    ]

-- there are no more growths than needs
one-few : (day : ℤ) (before now : ℕ) → length (growth_on day before now) ≤ 1
one-few day before now = elim (cases_lt before now) [
  | inl more ↦ omega (arith, ap (λ (l : List Flow). length l) (growth-some day before now more))
  | inr few ↦ omega (arith, ap (λ (l : List Flow). length l) (growth-none day before now few))
]

pub growths-few : (needs held : List Flow) (before : ℕ) (later : List Flow) → length (growths needs held before later) ≤ length later
unfolding growths
growths-few needs held before [] = omega arith
growths-few needs held before (need ∷ later) =
    let now = shortfall needs held need.day in
    omega (
      arith,
      length-append (growth_on need.day before now) (growths needs held (max before now) later),
      one-few need.day before now,
      growths-few needs held (max before now) later,
    )

-- ---- what they come to by a day
by-append : (t : ℤ) (front back : List Flow) → total_by t (front ++ back) ≡ total_by t front + total_by t back
by-append t front back = sum_by-append (cents_by t) front back

-- from a need on
by-due : (t : ℤ) (needs held : List Flow) (before : ℕ) (need : Flow) (later : List Flow) → need.day ≤ℤ t
    → before + total_by t (growths needs held before (need ∷ later))
    ≡ max before (shortfall needs held need.day) + total_by t (growths needs held (max before (shortfall needs held need.day)) later)
by-due t needs held before need later due =
    let now = shortfall needs held need.day in
    omega (
      arith,
      ap (total_by t) (step needs held before need later),
      by-append t (growth_on need.day before now) (growths needs held (max before now) later),
      growth-due t need.day before now due,
    )

-- before the first of them
by-later : (t : ℤ) (needs held : List Flow) (before : ℕ) (need : Flow) (later : List Flow) → InOrder (need ∷ later) → t <ℤ need.day
    → total_by t (growths needs held before (need ∷ later)) ≡ 0
by-later t needs held before need later order after =
    total_by-later t (growths needs held before (need ∷ later))
    (growths-days (λ other. t <ℤ other) needs held before (need ∷ later)
    (All-cons (λ (f : Flow). t <ℤ f.day) need later after
    (All-weaker (λ (f : Flow). need.day ≤ℤ f.day) (λ (f : Flow). t <ℤ f.day) (λ f from. still t need.day f.day after from) later order.0)))
  where
    still : (a b e : ℤ) → a <ℤ b → b ≤ℤ e → a <ℤ e
    still a b e h k = omega (arith, ints, h, k)

-- the shortfall of each need date up to a day is reached by it
abbrev pub Reached : ℤ → List Flow → List Flow → ℕ → List Flow → Type 0
Reached t needs held most later = All (λ (need : Flow). need.day ≤ℤ t → shortfall needs held need.day ≤ most) later

pub growths-reach : (t : ℤ) (needs held : List Flow) (before : ℕ) (later : List Flow) → InOrder later
    → Reached t needs held (before + total_by t (growths needs held before later)) later
growths-reach t needs held before [] order = All-nil (λ (f : Flow). f.day ≤ℤ t → shortfall needs held f.day ≤ before + total_by t (growths needs held before []))
growths-reach t needs held before (need ∷ later) order =
    let now = shortfall needs held need.day in
    let most = before + total_by t (growths needs held before (need ∷ later)) in
    by_lt_z t need.day
    (λ after. All-cons (λ (f : Flow). f.day ≤ℤ t → shortfall needs held f.day ≤ most) need later
    (λ due. absurd (clash t need.day after due))
    (All-weaker (λ (f : Flow). need.day ≤ℤ f.day) (λ (f : Flow). f.day ≤ℤ t → shortfall needs held f.day ≤ most)
    (λ f from due. absurd (clash t need.day after (through need.day f.day t from due))) later order.0))
    (λ due. All-cons (λ (f : Flow). f.day ≤ℤ t → shortfall needs held f.day ≤ most) need later
    (λ _. omega (arith, by-due t needs held before need later due))
    (All-weaker (λ (f : Flow). f.day ≤ℤ t → shortfall needs held f.day ≤ max before now + total_by t (growths needs held (max before now) later))
    (λ (f : Flow). f.day ≤ℤ t → shortfall needs held f.day ≤ most)
    (λ f held_by by. omega (arith, held_by by, by-due t needs held before need later due)) later
    (growths-reach t needs held (max before now) later order.1)))
  where
    clash : (a b : ℤ) → a <ℤ b → b ≤ℤ a → ⊥
    clash a b h k = omega (arith, ints, h, k)

    through : (a b e : ℤ) → a ≤ℤ b → b ≤ℤ e → a ≤ℤ e
    through a b e h k = omega (arith, ints, h, k)

-- and they come to no more than the shortfall of such a day
pub record IsShortfallBy (t : ℤ) (needs held : List Flow) (cents : ℕ) : Type 0 where
  pub at : ℤ
  pub by : at ≤ℤ t
  pub is : shortfall needs held at ≡ cents

pub growths-stop : (t : ℤ) (needs held : List Flow) (before : ℕ) (later : List Flow) → InOrder later → IsShortfallBy t needs held before
    → IsShortfallBy t needs held (before + total_by t (growths needs held before later))
unfolding growths
growths-stop t needs held before [] order start = record { at = start.at; by = start.by; is = omega (arith, start.is) }
growths-stop t needs held before (need ∷ later) order start =
    let now = shortfall needs held need.day in
    by_lt_z t need.day
    (λ after. record { at = start.at; by = start.by; is = omega (arith, start.is, by-later t needs held before need later order after) })
    (λ due.
    let next : IsShortfallBy t needs held (max before now) = elim (cases_lt before now) [
      | inl more ↦ record { at = need.day; by = due; is = omega (arith, more) }
      | inr few ↦ record { at = start.at; by = start.by; is = omega (arith, start.is, few) }
    ] in
    let rest = growths-stop t needs held (max before now) later order.1 next in
    record { at = rest.at; by = rest.by; is = rest.is ∙ sym (by-due t needs held before need later due) })

-- all of them come to no more than the greatest shortfall
pub growths-small : (needs held : List Flow) (most before : ℕ) (later : List Flow) → before ≤ most → All (λ (need : Flow). shortfall needs held need.day ≤ most) later
    → before + total (growths needs held before later) ≤ most
unfolding growths
growths-small needs held most before [] few all = omega (arith, few)
growths-small needs held most before (need ∷ later) few all =
    let now = shortfall needs held need.day in
    let first : now ≤ most = All-head (λ (f : Flow). shortfall needs held f.day ≤ most) need later all in
    let rest = growths-small needs held most (max before now) later (omega (arith, few, first)) (All-tail (λ (f : Flow). shortfall needs held f.day ≤ most) need later all) in
    omega (arith, sum_by-append (λ (f : Flow). f.cents.0) (growth_on need.day before now) (growths needs held (max before now) later), one-total need.day before now, rest)
  where
    one-total : (day : ℤ) (a b : ℕ) → a + total (growth_on day a b) ≡ max a b
    one-total day a b = elim (cases_lt a b) [
      | inl more ↦ omega (arith, ap total (growth-some day a b more), sum_by-cons (λ (f : Flow). f.cents.0) (on day (b - a)) [], more)
      | inr less ↦ omega (arith, ap total (growth-none day a b less), less)
    ]
