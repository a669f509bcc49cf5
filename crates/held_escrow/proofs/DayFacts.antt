-- Amounts in order of day, and what they come to by a day.
use Rattle.std.proofs.Common.{◌≡◌, ℕ, suc, ◌+◌, ◌<◌, ◌≤◌, arith, ℤ, pos, ◌-ℤ◌, ◌≤ℤ◌, ◌<ℤ◌, List, [], ◌∷◌, length, get_or}
use Rattle.std.specs.Prelude.{⊤}
use Rattle.std.proofs.lemmas.Int.{ints, by_lt_z}
use Rattle.std.proofs.lemmas.List.Elements.{All-cons, All-nil, All-weaker}
use Rattle.std.proofs.lemmas.List.Sums.{sum_by-cons}
use Rattle.escrow_units.specs.Flows.{ComeInOrder, Rise}
use Rattle.escrow_units.specs.declared.security.Flow.{Flow}
use Rattle.day_sums.specs.Summed.{on, total_by}
use Rattle.day_sums.proofs.SumFacts.{DaysAre}
use Rattle.cash_table.specs.Receipts.{cents_by}
use Rattle.cash_table.proofs.DayFacts.{met_on_every_day}
use Rattle.cash_table.proofs.ReceiptFacts.{cents_by-due}

pub rise-in_order : (flows : List Flow) → Rise flows → ComeInOrder flows
rise-in_order flows rise i j d less short = sooner (get_or flows i d).day (get_or flows j d).day (rise i j d less short)
  where
    sooner : (a b : ℤ) → a <ℤ b → a ≤ℤ b
    sooner a b h = omega (arith, ints, h)

-- no amount falls before an earlier one of the list
abbrev pub InOrder : List Flow → Type 0
InOrder [] = ⊤
InOrder (flow ∷ flows) = DaysAre (λ day. flow.day ≤ℤ day) flows × InOrder flows

pub in_order-from_pairs : (flows : List Flow) → ComeInOrder flows → InOrder flows
in_order-from_pairs [] pairs = tt
in_order-from_pairs (flow ∷ flows) pairs = (
  (λ j d short. pairs 0 (suc j) d (omega arith) (omega (arith, short))),
  in_order-from_pairs flows (λ i j d less short. pairs (suc i) (suc j) d (omega (arith, less)) (omega (arith, short))),
)

-- one amount more
pub by-cons : (t : ℤ) (flow : Flow) (flows : List Flow) → total_by t (flow ∷ flows) ≡ cents_by t flow + total_by t flows
by-cons t flow flows = sum_by-cons (cents_by t) flow flows

-- a day before all amounts
pub record IsEarly (day : ℤ) (flows : List Flow) (early : ℤ) : Type 0 where
  pub not_after : early ≤ℤ day
  pub before : DaysAre (λ other. early <ℤ other) flows

pub early : (day : ℤ) (flows : List Flow) → (at : ℤ) × IsEarly day flows at
early day [] = (day, record { not_after = same day; before = All-nil (λ (f : Flow). day <ℤ f.day) })
  where
    same : (a : ℤ) → a ≤ℤ a
    same a = omega (arith, ints)
early day (flow ∷ flows) =
    let rest = early day flows in
    by_lt_z rest.0 flow.day
    (λ later. (rest.0, record { not_after = rest.1.not_after; before = All-cons (λ (f : Flow). rest.0 <ℤ f.day) flow flows later rest.1.before }))
    (λ due. (
      flow.day -ℤ pos 1,
      record {
        not_after = sooner flow.day rest.0 day due rest.1.not_after;
        before = All-cons (λ (f : Flow). (flow.day -ℤ pos 1) <ℤ f.day) flow flows (less flow.day)
            (All-weaker (λ (f : Flow). rest.0 <ℤ f.day) (λ (f : Flow). (flow.day -ℤ pos 1) <ℤ f.day) (λ f after. still flow.day rest.0 f.day due after) flows rest.1.before);
      },
    ))
  where
    sooner : (a b e : ℤ) → a ≤ℤ b → b ≤ℤ e → (a -ℤ pos 1) ≤ℤ e
    sooner a b e h k = omega (arith, ints, h, k)

    less : (a : ℤ) → (a -ℤ pos 1) <ℤ a
    less a = omega (arith, ints)

    still : (a b e : ℤ) → a ≤ℤ b → b <ℤ e → (a -ℤ pos 1) <ℤ e
    still a b e h k = omega (arith, ints, h, k)

-- what is lacking by no more than so much on each need date up to a day is so on the day
pub lacking_on_every_day : (needs held : List Flow) (more : ℕ) (t : ℤ)
    → ((k : ℕ) (d : Flow) → k < length needs → (get_or needs k d).day ≤ℤ t → total_by (get_or needs k d).day needs ≤ total_by (get_or needs k d).day held + more)
    → total_by t needs ≤ total_by t held + more
lacking_on_every_day needs held more t each =
    let first = early t needs in
    let extra : Flow = on first.0 more in
    let here = met_on_every_day needs (extra ∷ held) t
    (λ k d short due. omega (
      arith,
      by-cons (get_or needs k d).day extra held,
      cents_by-due (get_or needs k d).day extra (sooner first.0 (get_or needs k d).day (first.1.before k d short)),
      each k d short due,
    )) in
    omega (arith, by-cons t extra held, cents_by-due t extra first.1.not_after, here)
  where
    sooner : (a b : ℤ) → a <ℤ b → a ≤ℤ b
    sooner a b h = omega (arith, ints, h)
