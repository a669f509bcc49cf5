-- Amounts summed by day.
use Rattle.std.specs.Prelude.{ℕ, ◌+◌, ◌==◌, if◌then◌else◌, int_le, List, [], ◌∷◌, sum_by, ℤ}
use Rattle.std.specs.Ordering.{int_cmp, int_eq, match_ordering}
use Rattle.escrow_units.specs.declared.security.Flow.{Flow}

-- so many cents on a day
abbrev pub on : ℤ → ℕ → Flow
on day cents = record { day = day; cents = record { 0 = cents } }

-- one more amount: it joins that of its day, or stands on a day of its own in the order of days
unfoldable pub with_amount : Flow → List Flow → List Flow
with_amount flow [] = flow ∷ []
with_amount flow (sum ∷ sums) =
    match_ordering (int_cmp flow.day sum.day)
    (flow ∷ sum ∷ sums)
    (on sum.day (sum.cents.0 + flow.cents.0) ∷ sums)
    (sum ∷ with_amount flow sums)

-- the sums of amounts by day, in order of day; a day with nothing has no sum
unfoldable pub summed : List Flow → List Flow
summed [] = []
summed (flow ∷ flows) = if flow.cents.0 == 0 then summed flows else with_amount flow (summed flows)

-- the cents of the amounts on a day
abbrev pub cents_on : ℤ → List Flow → ℕ
cents_on day flows = sum_by (λ flow. if int_eq flow.day day then flow.cents.0 else 0) flows

-- the cents of the amounts up to and on a day
abbrev pub total_by : ℤ → List Flow → ℕ
total_by day flows = sum_by (λ flow. if int_le flow.day day then flow.cents.0 else 0) flows
