-- The lower bound of a leaf: Lagrangian duality for the least cost of an escrow. The needs are priced by day and the yield limit has
-- a weight; then each line stands alone with its reduced cost, and the least of the reduced costs over the ranges bounds the
-- cost of every portfolio within them. The form, its scales and its rounding are this project's own.
use Rattle.std.specs.Prelude.{ℕ, ◌+◌, ◌*◌, ◌/◌, ◌==◌, if◌then◌else◌, List, [], ◌∷◌, sum_by, slice_index_or, nat_lt, ℤ, pos, ◌+ℤ◌, ◌-ℤ◌, ◌*ℤ◌, neg_ℤ, int_le, unsigned_abs}
use Rattle.std.specs.Int.{int_min}
use Rattle.std.specs.List.{zip}
use Rattle.escrow_units.specs.Flows.{index360_of}
use Rattle.escrow_units.specs.declared.security.Flow.{Flow}
use Rattle.fixed_powers.specs.DiscountPowers.{low, one}
use Rattle.offer_book.specs.Book.{BookContents}
use Rattle.offer_book.specs.Coefficients.{cost_coefficients, pay_coefficients}
use Rattle.offer_book.specs.Portfolio.{line_cost, line_payments}
use Rattle.offer_book.specs.Sums.{coarse_step, line_depth}
use Rattle.offer_book.specs.declared.coefficients.TheConstants.{COEFFICIENT_SCALE}
use Rattle.offer_book.specs.declared.line.Line.{Line}
use Rattle.offer_book.specs.declared.line.LineKind.{LineKind}
use Rattle.offer_book.specs.declared.line.LineKind.TheVariants.{Cash, Market, Security}
use Rattle.node_ranges.specs.Claims.{least_cost}
use Rattle.node_ranges.specs.Ranges.{RangesContents}
use Rattle.dual_bound.specs.declared.form.Form.{Form}
use Rattle.proof_tree.specs.declared.interval.Interval.{Interval}
use Rattle.proof_tree.specs.declared.tree.Leaf.{Leaf}
use Rattle.proof_tree.specs.declared.weights.Side.{Side}
use Rattle.proof_tree.specs.declared.weights.Side.TheVariants.{AtLeast, AtMost}
use Rattle.proof_tree.specs.declared.weights.SumWeight.{SumWeight}

-- of two amounts, the one of a side
abbrev pub by_side : {X : Type 0} → Side → X → X → X
by_side AtLeast least most = least
by_side AtMost least most = most

-- the interval of a sum, counted from 0. What is read past the end means nothing
abbrev pub sum_at : List Interval → ℕ → Interval
sum_at sums sum = slice_index_or sums sum (record { low = 0; high = 0 })

-- a sum of signed amounts
abbrev pub signed_sum : {X : Type 0} → (X → ℤ) → List X → ℤ
signed_sum amount [] = pos 0
signed_sum amount (x ∷ xs) = amount x +ℤ signed_sum amount xs

-- what a cent that is paid on a day is worth to the needs: the price of the first need date on or after it, and nothing after
-- the last
unfoldable pub price_on : List Flow → List ℕ → ℤ → ℕ
price_on [] prices day = 0
price_on (need ∷ needs) [] day = 0
price_on (need ∷ needs) (price ∷ prices) day = if int_le day need.day then price else price_on needs prices day

-- what the needs are worth at their prices
unfoldable pub priced_needs : List Flow → List ℕ → ℕ
priced_needs needs prices = sum_by (λ p. p.0.cents.0 * p.1) (zip needs prices)

-- the multiplier of the yield limit, which binds securities alone
abbrev pub limit_multiplier : Leaf → LineKind → ℕ
limit_multiplier leaf Cash = 0
limit_multiplier leaf (Security slgs) = leaf.mu
limit_multiplier leaf (Market note) = leaf.mu

-- what the limit takes from a cent that is paid on a day: its weight, discounted at a yield, rounded down
abbrev pub limit_price : ℕ → ℤ → ℕ → ℤ → ℕ
limit_price n settle multiplier day = multiplier * low n (index360_of settle day) / one

-- what a cent that a line costs counts: the limit credits it
abbrev pub cost_worth : Leaf → LineKind → ℤ
cost_worth leaf kind = pos leaf.rho -ℤ pos (limit_multiplier leaf kind)

-- what a cent that a line pays on a day is worth: its price, less what the limit takes
abbrev pub paid_worth : ℕ → BookContents → Leaf → LineKind → ℤ → ℤ
paid_worth n book leaf kind day =
    pos (price_on book.needs leaf.prices day) -ℤ pos (limit_price n book.days.settle (limit_multiplier leaf kind) day)

-- what a weight of a sum counts: more where the sum is at least its low end, less where it is at most its high one
abbrev pub signed_weight : SumWeight → ℤ
signed_weight own = by_side own.side (pos own.weight) (neg_ℤ (pos own.weight))

-- the load of a depth: what the weights of the sums that count it come to
abbrev pub load : List SumWeight → ℕ → ℤ
load weights depth = signed_sum (λ own. if nat_lt own.sum depth then signed_weight own else pos 0) weights

-- what the weights of sums credit a unit of a line, scaled: its step, where it is coarse, by the load of its depth
abbrev pub unit_load : BookContents → List SumWeight → Line → ℤ
unit_load book weights line = pos (COEFFICIENT_SCALE * coarse_step book) *ℤ load weights (line_depth book line)

-- what units of a line cost less what their payments are worth, scaled, exactly
unfoldable pub priced_cost : ℕ → BookContents → Leaf → Line → ℕ → ℤ
priced_cost n book leaf line units =
    pos COEFFICIENT_SCALE
    *ℤ (cost_worth leaf line.kind *ℤ pos (line_cost line units)
    -ℤ signed_sum (λ flow. paid_worth n book leaf line.kind flow.day *ℤ pos flow.cents.0) (line_payments book.days line units))

-- the reduced cost of units of a line, scaled: what they cost less what their payments are worth, and less what the weights of sums
-- credit them, exactly
abbrev pub reduced_cost : ℕ → BookContents → Leaf → Line → ℕ → ℤ
reduced_cost n book leaf line units = priced_cost n book leaf line units -ℤ unit_load book leaf.weights line *ℤ pos units

-- an affine form at a number of units
abbrev pub form_at : Form → ℕ → ℤ
form_at form units = form.slope *ℤ pos units -ℤ pos form.slack

-- of the two coefficients of an amount, the one with which a weight times it is least
abbrev pub least_side : ℤ → ℕ → ℕ → ℤ
least_side weight low high = if int_le (pos 0) weight then weight *ℤ pos low else weight *ℤ pos high

-- the form of a line without sums: what it costs less what its payments are worth, by the coefficients that make it least, so that it is
-- never above the exact one
unfoldable pub priced_form : ℕ → BookContents → Leaf → Line → Form
priced_form n book leaf line = record {
  slope = least_side (cost_worth leaf line.kind) (cost_coefficients line).low (cost_coefficients line).high
      +ℤ signed_sum (λ pay. least_side (neg_ℤ (paid_worth n book leaf line.kind pay.day)) pay.low pay.high) (pay_coefficients book.days line);
  slack = unsigned_abs (cost_worth leaf line.kind) * (cost_coefficients line).slack
      + sum_by (λ pay. unsigned_abs (paid_worth n book leaf line.kind pay.day) * pay.slack) (pay_coefficients book.days line);
}

-- a form, where each unit is credited a load
abbrev pub credited : Form → ℤ → Form
credited form own_load = record { slope = form.slope -ℤ own_load; slack = form.slack }

-- the form of a line
abbrev pub form_of : ℕ → BookContents → Leaf → Line → Form
form_of n book leaf line = credited (priced_form n book leaf line) (unit_load book leaf.weights line)

-- the least of a form at the ends of an interval; one from 0 on holds 0 and then the numbers from the least purchase on
abbrev pub least_of_form : Form → Line → Interval → ℤ
least_of_form form line interval =
    if interval.low == 0 then int_min (pos 0) (int_min (form_at form line.least) (form_at form interval.high))
    else int_min (form_at form interval.low) (form_at form interval.high)

-- the least that a line can add within an interval, each unit credited a load: exactly where it holds one number, else by its form
abbrev pub least_by : ℕ → BookContents → Leaf → Line → ℤ → Interval → ℤ
least_by n book leaf line own_load interval =
    if interval.low == interval.high then priced_cost n book leaf line interval.low -ℤ own_load *ℤ pos interval.low
    else least_of_form (credited (priced_form n book leaf line) own_load) line interval

-- the least that a line can add within an interval
abbrev pub least_within : ℕ → BookContents → Leaf → Line → Interval → ℤ
least_within n book leaf line interval = least_by n book leaf line (unit_load book leaf.weights line) interval

-- what a weight of a sum adds to a bound, scaled: the low end of a sum that is at least that, or less the high end of one that is at most that
abbrev pub weighed_end : BookContents → List Interval → SumWeight → ℤ
weighed_end book sums own =
    pos (COEFFICIENT_SCALE * coarse_step book)
    *ℤ (signed_weight own *ℤ pos (by_side own.side (sum_at sums own.sum).low (sum_at sums own.sum).high))

-- and what all weights add
abbrev pub weighed_ends : BookContents → List Interval → List SumWeight → ℤ
weighed_ends book sums weights = signed_sum (weighed_end book sums) weights

-- the bound of a leaf over ranges, at the yield n: what the needs are worth, the ends of weighed sums, and the least of each line
unfoldable pub bound_of : ℕ → BookContents → RangesContents → Leaf → ℤ
bound_of n book ranges leaf =
    pos (COEFFICIENT_SCALE * priced_needs book.needs leaf.prices)
    +ℤ weighed_ends book ranges.sums leaf.weights
    +ℤ signed_sum (λ p. least_within n book leaf p.0 p.1) (zip book.lines ranges.lines)

-- what a leaf shows over ranges, at the yield n, that a rival costs at least, in units of 1 / COEFFICIENT_SCALE of a cent
abbrev pub least_cost_of : ℕ → BookContents → RangesContents → Leaf → ℤ
least_cost_of n book ranges leaf = least_cost leaf.rho (bound_of n book ranges leaf)
