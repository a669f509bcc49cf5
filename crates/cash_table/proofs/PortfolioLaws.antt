-- What permitted portfolios cost, pay and yield.
use Rattle.std.proofs.Common.{◌≡◌, ◌↔◌, ℕ, zero, suc, ◌+◌, ◌*◌, ◌≤◌, List, [], ◌∷◌, length, drop, slice_index, refl, ap, ◌∙◌, subst, arith, ℤ, ◌≤ℤ◌}
use Rattle.std.specs.List.{All, sum_by, flat_map, zip}
use Rattle.std.proofs.lemmas.List.Elements.{All-head, All-tail, All-cons, All-nil}
use Rattle.std.proofs.lemmas.List.Sums.{sum_by-cons}
use Rattle.escrow_units.specs.Calendar.{years_after_of}
use Rattle.escrow_units.specs.Flows.{indexed, total}
use Rattle.escrow_units.specs.PresentValue.{YieldLiesIn}
use Rattle.escrow_units.specs.SlgsTerms.{IsSettlement}
use Rattle.escrow_units.specs.declared.security.Flow.{Flow}
use Rattle.day_sums.specs.SummedLaws.{AreAboveZero}
use Rattle.day_sums.proofs.SumFacts.{above-summed}
use Rattle.day_sums.proofs.Uniqueness.{keep-total}
use Rattle.fixed_powers.specs.PresentValues.{total_cents}
use Rattle.offer_book.specs.declared.line.Line.{Line}
use Rattle.offer_book.specs.Book.{BookContents, IsSecurityLine, AreLines, IsBook, IsWithoutInterest, AreWithoutInterest}
use Rattle.offer_book.specs.Portfolio.{IsPermitted, Meets, payments, cost, security_cost, security_flows, total_needs}
use Rattle.offer_book.proofs.LineFacts.{cash-cost, cash-payments, line_cost-none, line_payments-par, line_payments-face, line_payments-none, par-some, security_cost-some}
use Rattle.cash_table.proofs.CostFacts.{pair_cost, cost_is}
use Rattle.cash_table.proofs.PaymentFacts.{pair_payments, pair_total, total-payments}
use Rattle.cash_table.proofs.DayFacts.{total_by-due, total_by-at_most}
use Rattle.cash_table.proofs.ZipFacts.{sum_by-zero}
use Rattle.cash_table.proofs.YieldFacts.{yields_nothing, total_cents-indexed}
use Rattle.offer_book.specs.declared.payment_days.PaymentDays.{PaymentDays}

-- securities without interest pay just what they cost
faces_paid : (days : PaymentDays) (lines : List Line) (plan : List ℕ) → IsSettlement days.settle → All (IsSecurityLine days) lines → All IsWithoutInterest lines → sum_by (pair_total days) (zip lines plan) ≡ sum_by pair_cost (zip lines plan)
faces_paid days [] plan h securities none = refl
faces_paid days (line ∷ lines) [] h securities none = refl
faces_paid days (line ∷ lines) (units ∷ plan) h securities none =
    omega (
      arith,
      sum_by-cons pair_cost (line, units) (zip lines plan),
      sum_by-cons (pair_total days) (line, units) (zip lines plan),
      line_payments-face days line units h (All-head (IsSecurityLine days) line lines securities) (All-head IsWithoutInterest line lines none),
      faces_paid days lines plan h (All-tail (IsSecurityLine days) line lines securities) (All-tail IsWithoutInterest line lines none),
    )

securities_paid : (days : PaymentDays) (lines : List Line) (plan : List ℕ) → IsSettlement days.settle → AreLines days lines → AreWithoutInterest lines
    → sum_by (pair_total days) (drop 1 (zip lines plan)) ≡ sum_by pair_cost (drop 1 (zip lines plan))
securities_paid days [] plan h lines none = absurd lines
securities_paid days (cash ∷ securities) [] h lines none = refl
securities_paid days (cash ∷ securities) (units ∷ plan) h lines none = faces_paid days securities plan h lines.1 none

lines_paid : (days : PaymentDays) (lines : List Line) (plan : List ℕ) → IsSettlement days.settle → AreLines days lines → AreWithoutInterest lines
    → sum_by (pair_total days) (zip lines plan) ≡ sum_by pair_cost (zip lines plan)
lines_paid days [] plan h lines none = absurd lines
lines_paid days (cash ∷ securities) [] h lines none = refl
lines_paid days (cash ∷ securities) (units ∷ plan) h lines none =
    omega (
      arith,
      sum_by-cons pair_cost (cash, units) (zip securities plan),
      sum_by-cons (pair_total days) (cash, units) (zip securities plan),
      ap total (cash-payments days cash units lines.0),
      cash-cost cash units lines.0,
      ap (λ (n : ℕ). n * units) lines.0.step,
      faces_paid days securities plan h lines.1 none,
    )

-- the security flows are all that the securities pay
total-security_flows : (book : BookContents) (plan : List ℕ) → total (security_flows book plan) ≡ sum_by (pair_total book.days) (drop 1 (zip book.lines plan))
total-security_flows book plan =
    keep-total (flat_map (pair_payments book.days) (drop 1 (zip book.lines plan))) ∙ total-payments book.days (drop 1 (zip book.lines plan))

pub zero_interest_total : (book : BookContents) (plan : List ℕ) → IsBook book → AreWithoutInterest book.lines → IsPermitted book plan → total (security_flows book plan) ≡ security_cost book plan
zero_interest_total book plan limits none permitted =
    total-security_flows book plan ∙ securities_paid book.days book.lines plan limits.settlement limits.lines none

-- every permitted portfolio that meets the needs costs at least the sum of the needs: on the last need date its
-- payments, which are no more than its cost, are at least all the needs
pub meets_cost : (book : BookContents) (plan : List ℕ) → IsBook book → AreWithoutInterest book.lines → IsPermitted book plan → Meets book plan → total_needs book ≤ cost book plan
meets_cost book plan limits none permitted meets = at (years_after_of book.days.settle 40) (λ k d h. (limits.needs.within k d h).1)
  where
    at : (t : ℤ) → All (λ need. need.day ≤ℤ t) book.needs → total_needs book ≤ cost book plan
    at t due =
        omega (
          arith,
          total_by-due t book.needs due,
          meets t,
          total_by-at_most t (payments book plan),
          total-payments book.days (zip book.lines plan),
          lines_paid book.days book.lines plan limits.settlement limits.lines none,
        )

-- the exact yield of the security flows for the security cost is 0
pub zero_yield : (book : BookContents) (plan : List ℕ) → IsBook book → AreWithoutInterest book.lines → IsPermitted book plan → YieldLiesIn (indexed book.days.settle (security_flows book plan)) (security_cost book plan) 0 0
zero_yield book plan limits none permitted =
    let flows = indexed book.days.settle (security_flows book plan) in
    let same : total_cents flows ≡ security_cost book plan = total_cents-indexed book.days.settle (security_flows book plan) ∙ zero_interest_total book plan limits none permitted in
    let P : ℕ → Type 0 = λ n. YieldLiesIn flows n 0 0 in
    subst P same (yields_nothing flows)

-- the cost is opening cash and the security cost
pub cost_parts : (book : BookContents) (plan : List ℕ) → IsBook book → IsPermitted book plan → cost book plan ≡ slice_index plan 0 + security_cost book plan
cost_parts book plan limits permitted = cost_is book plan limits permitted

abbrev IsNone : ℕ → Type 0
IsNone units = units ≡ 0

-- securities that pay nothing have no units, since each pays its face
none_bought : (days : PaymentDays) (lines : List Line) (plan : List ℕ) → IsSettlement days.settle → All (IsSecurityLine days) lines → length plan ≡ length lines → sum_by (pair_total days) (zip lines plan) ≡ 0 → All IsNone plan
none_bought days [] [] h securities same none = All-nil IsNone
none_bought days [] (units ∷ plan) h securities same none = absurd (omega (arith, same))
none_bought days (line ∷ lines) [] h securities same none = All-nil IsNone
none_bought days (line ∷ lines) (units ∷ plan) h securities same none =
    let sum = sum_by-cons (pair_total days) (line, units) (zip lines plan) in
    let security = All-head (IsSecurityLine days) line lines securities in
    All-cons IsNone units plan (no_units days line units h security (omega (arith, sum, none)))
    (none_bought days lines plan h (All-tail (IsSecurityLine days) line lines securities) (omega (arith, same)) (omega (arith, sum, none)))
  where
    no_units : (days : PaymentDays) (line : Line) (units : ℕ) → IsSettlement days.settle → IsSecurityLine days line → pair_total days (line, units) ≡ 0 → units ≡ 0
    no_units days line zero h security none = refl
    no_units days line (suc units) h security none =
        absurd (omega (arith, none, line_payments-par days line (suc units) h security, par-some days line (suc units) security (omega arith)))

-- lines without units cost nothing
nothing_costs : (lines : List Line) (plan : List ℕ) → All IsNone plan → sum_by pair_cost (zip lines plan) ≡ 0
nothing_costs [] plan none = refl
nothing_costs (line ∷ lines) [] none = refl
nothing_costs (line ∷ lines) (units ∷ plan) none =
    omega (arith, sum_by-cons pair_cost (line, units) (zip lines plan), line_cost-none line units (All-head IsNone units plan none), nothing_costs lines plan (All-tail IsNone units plan none))

-- and lines without units pay nothing
nothing_paid : (days : PaymentDays) (lines : List Line) (plan : List ℕ) → All IsNone plan → sum_by (pair_total days) (zip lines plan) ≡ 0
nothing_paid days [] plan none = refl
nothing_paid days (line ∷ lines) [] none = refl
nothing_paid days (line ∷ lines) (units ∷ plan) none =
    let pays = sum_by-zero (λ (flow : Flow). flow.cents.0) (pair_payments days (line, units)) (line_payments-none days line units (All-head IsNone units plan none)) in
    omega (arith, sum_by-cons (pair_total days) (line, units) (zip lines plan), pays, nothing_paid days lines plan (All-tail IsNone units plan none))

-- amounts above 0 that come to nothing are none
none_from_total : (flows : List Flow) → AreAboveZero flows → total flows ≡ 0 → flows ≡ []
none_from_total [] above none = refl
none_from_total (flow ∷ flows) above none =
    absurd (omega (arith, All-head (λ (f : Flow). 1 ≤ f.cents.0) flow flows above, none, sum_by-cons (λ (f : Flow). f.cents.0) flow flows))

none_at_no_payment : (days : PaymentDays) (lines : List Line) (plan : List ℕ) → IsSettlement days.settle → AreLines days lines → length plan ≡ length lines → sum_by (pair_total days) (drop 1 (zip lines plan)) ≡ 0 → All IsNone (drop 1 plan)
none_at_no_payment days [] plan h lines same none = absurd lines
none_at_no_payment days (cash ∷ securities) [] h lines same none = absurd (omega (arith, same))
none_at_no_payment days (cash ∷ securities) (units ∷ plan) h lines same none = none_bought days securities plan h lines.1 (omega (arith, same)) none

no_cost_at_none : (lines : List Line) (plan : List ℕ) → All IsNone (drop 1 plan) → sum_by pair_cost (drop 1 (zip lines plan)) ≡ 0
no_cost_at_none [] plan none = refl
no_cost_at_none (cash ∷ securities) [] none = refl
no_cost_at_none (cash ∷ securities) (units ∷ plan) none = nothing_costs securities plan none

-- lines of securities that cost nothing have no units
free_securities : (days : PaymentDays) (lines : List Line) (plan : List ℕ) → All (IsSecurityLine days) lines → length plan ≡ length lines → sum_by pair_cost (zip lines plan) ≡ 0 → All IsNone plan
free_securities days [] [] securities same none = All-nil IsNone
free_securities days [] (units ∷ plan) securities same none = absurd (omega (arith, same))
free_securities days (line ∷ lines) [] securities same none = All-nil IsNone
free_securities days (line ∷ lines) (units ∷ plan) securities same none =
    let sum = sum_by-cons pair_cost (line, units) (zip lines plan) in
    All-cons IsNone units plan (no_units days line units (All-head (IsSecurityLine days) line lines securities) (omega (arith, sum, none)))
    (free_securities days lines plan (All-tail (IsSecurityLine days) line lines securities) (omega (arith, same)) (omega (arith, sum, none)))
  where
    no_units : (days : PaymentDays) (line : Line) (units : ℕ) → IsSecurityLine days line → pair_cost (line, units) ≡ 0 → units ≡ 0
    no_units days line zero security none = refl
    no_units days line (suc units) security none = absurd (omega (arith, none, security_cost-some days line (suc units) security (omega arith)))

none_at_no_cost : (days : PaymentDays) (lines : List Line) (plan : List ℕ) → AreLines days lines → length plan ≡ length lines → sum_by pair_cost (drop 1 (zip lines plan)) ≡ 0 → All IsNone (drop 1 plan)
none_at_no_cost days [] plan lines same none = absurd lines
none_at_no_cost days (cash ∷ securities) [] lines same none = absurd (omega (arith, same))
none_at_no_cost days (cash ∷ securities) (units ∷ plan) lines same none = free_securities days securities plan lines.1 (omega (arith, same)) none

nothing_at_none : (days : PaymentDays) (lines : List Line) (plan : List ℕ) → All IsNone (drop 1 plan) → sum_by (pair_total days) (drop 1 (zip lines plan)) ≡ 0
nothing_at_none days [] plan none = refl
nothing_at_none days (cash ∷ securities) [] none = refl
nothing_at_none days (cash ∷ securities) (units ∷ plan) none = nothing_paid days securities plan none

pub empty_from_nothing : (book : BookContents) (plan : List ℕ) → sum_by (pair_total book.days) (drop 1 (zip book.lines plan)) ≡ 0 → security_flows book plan ≡ []
empty_from_nothing book plan none =
    none_from_total (security_flows book plan) (above-summed (flat_map (pair_payments book.days) (drop 1 (zip book.lines plan)))) (total-security_flows book plan ∙ none)

-- the security flows are empty exactly where every line from 1 has 0 units
pub empty_flows : (book : BookContents) (plan : List ℕ) → IsBook book → IsPermitted book plan → (security_flows book plan ≡ []) ↔ All (λ units. units ≡ 0) (drop 1 plan)
empty_flows book plan limits permitted = (
  (λ empty. none_at_no_payment book.days book.lines plan limits.settlement limits.lines permitted.same_length (omega (arith, total-security_flows book plan, ap total empty))),
  (λ none. empty_from_nothing book plan (nothing_at_none book.days book.lines plan none)),
)

-- and exactly where the security cost is 0
pub empty_at_no_cost : (book : BookContents) (plan : List ℕ) → IsBook book → IsPermitted book plan → (security_flows book plan ≡ []) ↔ (security_cost book plan ≡ 0)
empty_at_no_cost book plan limits permitted = (
  (λ empty. no_cost_at_none book.lines plan ((empty_flows book plan limits permitted).0 empty)),
  (λ none. (empty_flows book plan limits permitted).1 (none_at_no_cost book.days book.lines plan limits.lines permitted.same_length none)),
)
