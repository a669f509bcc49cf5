-- What a plan is worth against the limit is what its securities are.
use Rattle.std.proofs.Common.{◌≡◌, ℕ, ◌*◌, ◌<◌, List, [], ◌∷◌, drop, refl, sym, ◌∙◌, arith, ℤ, IsTrue, nat_lt, rules}
use Rattle.std.specs.List.{All, sum_by, zip}
use Rattle.std.proofs.lemmas.List.Elements.{All-head, All-tail}
use Rattle.std.proofs.lemmas.List.Sums.{sum_by-cons}
use Rattle.day_sums.specs.SummedLaws.{weighted}
use Rattle.escrow_units.specs.Flows.{index360_of}
use Rattle.escrow_units.specs.declared.security.Flow.{Flow}
use Rattle.fixed_powers.specs.DiscountPowers.{low}
use Rattle.fixed_powers.specs.declared.side.Side.TheVariants.{Low}
use Rattle.offer_book.specs.Book.{AreLines, BookContents, IsBook, IsCashLine, IsSecurity, IsSecurityLine}
use Rattle.offer_book.specs.Portfolio.{line_payments}
use Rattle.offer_book.specs.declared.line.Line.{Line}
use Rattle.offer_book.specs.declared.line.LineKind.{LineKind}
use Rattle.offer_book.specs.declared.line.LineKind.TheVariants.{Cash, Market, Security}
use Rattle.cash_table.specs.Points.{low_value}
use Rattle.cash_table.proofs.PointFacts.{pair_value, value-securities, value-weighted}
use Rattle.dual_bound.specs.Columns.{kind_power}
use Rattle.plan_finder.specs.Ledger.{flows_worth, line_worth, plan_worth}
use Rattle.plan_finder.proofs.PutFacts.{pair_line_worth}
use Rattle.offer_book.specs.declared.payment_days.PaymentDays.{PaymentDays}

-- opening cash is worth nothing
nothing : (n : ℕ) (settle : ℤ) (flows : List Flow) → flows_worth n settle Cash flows ≡ 0
nothing n settle [] = refl
nothing n settle (flow ∷ flows) = omega (arith, sum_by-cons (λ (f : Flow). f.cents.0 * kind_power n settle Cash f.day) flow flows, nothing n settle flows)

cash-worth : (n : ℕ) (days : PaymentDays) (cash : Line) (units : ℕ) → IsCashLine cash → line_worth n days cash units ≡ 0
cash-worth n days cash units is = rw is.kind (nothing n days.settle (line_payments days (record cash { kind = Cash }) units))

-- a security what its flows are
kind-worth : (n : ℕ) (days : PaymentDays) (kind : LineKind) (flows : List Flow) → IsSecurity days kind
    → flows_worth n days.settle kind flows ≡ weighted (λ day. low n (index360_of days.settle day)) flows
kind-worth n days Cash flows is = absurd is
kind-worth n days (Security slgs) flows is = refl
kind-worth n days (Market note) flows is = refl

security-worth : (n : ℕ) (days : PaymentDays) (line : Line) (units : ℕ) → IsSecurityLine days line → line_worth n days line units ≡ pair_value Low n days (line, units)
security-worth n days line units is =
    kind-worth n days line.kind (line_payments days line units) is.security ∙ sym (value-weighted Low n days.settle (line_payments days line units))

securities-worth : (n : ℕ) (days : PaymentDays) (lines : List Line) (plan : List ℕ) → All (IsSecurityLine days) lines
    → sum_by (pair_line_worth n days) (zip lines plan) ≡ sum_by (pair_value Low n days) (zip lines plan)
securities-worth n days [] plan are = refl
securities-worth n days (line ∷ lines) [] are = refl
securities-worth n days (line ∷ lines) (units ∷ plan) are =
    omega (
      arith,
      sum_by-cons (pair_line_worth n days) (line, units) (zip lines plan),
      sum_by-cons (pair_value Low n days) (line, units) (zip lines plan),
      security-worth n days line units (All-head (IsSecurityLine days) line lines are),
      securities-worth n days lines plan (All-tail (IsSecurityLine days) line lines are),
    )

lines-worth : (n : ℕ) (days : PaymentDays) (lines : List Line) (plan : List ℕ) → AreLines days lines
    → sum_by (pair_line_worth n days) (zip lines plan) ≡ sum_by (pair_value Low n days) (drop 1 (zip lines plan))
lines-worth n days [] plan are = absurd are
lines-worth n days (cash ∷ securities) [] are = refl
lines-worth n days (cash ∷ securities) (units ∷ plan) are =
    omega (
      arith,
      sum_by-cons (pair_line_worth n days) (cash, units) (zip securities plan),
      cash-worth n days cash units are.0,
      securities-worth n days securities plan are.1,
    )

pub plan_worth-low : (n : ℕ) (book : BookContents) (plan : List ℕ) (worth : ℕ) → IsBook book → worth ≡ plan_worth n book plan → worth ≡ low_value book n plan
plan_worth-low n book plan worth limits is = is ∙ lines-worth n book.days book.lines plan limits.lines ∙ sym (value-securities Low n book plan)

-- a test of a product against a worth, by what they are
pub less_test : (a b worth scale cost value : ℕ) → a ≡ scale → b ≡ cost → worth ≡ value → (IsTrue (nat_lt (a * b) worth) → scale * cost < value) × (scale * cost < value → IsTrue (nat_lt (a * b) worth))
less_test a b worth scale cost value one two three = rw (one, two, three) (search rules)
