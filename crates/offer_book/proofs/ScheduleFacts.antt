-- The schedule of a line.
use Rattle.std.proofs.Common.{◌≡◌, ℕ, ◌+◌, ◌*◌, ◌/◌, ◌<◌, sym, ap, subst, arith, inl, inr, [], ◌∷◌, ℤ}
use Rattle.std.specs.Prelude.{All, map}
use Rattle.std.specs.Int.{div_ceil}
use Rattle.std.proofs.Math.Nat.{div-eq_of_lt}
use Rattle.std.proofs.lemmas.List.Elements.{All-cons, All-nil}
use Rattle.escrow_units.specs.SlgsTerms.{IsSettlement}
use Rattle.payment_schedule.specs.Schedule.{IsShort}
use Rattle.payment_schedule.specs.declared.schedule.ScheduledPayment.{ScheduledPayment}
use Rattle.payment_schedule.proofs.ScheduleFacts.{half-short}
use Rattle.market_notes.proofs.FlowFacts as notes
use Rattle.slgs_interest.proofs.PaymentFacts as slgs
use Rattle.offer_book.specs.Book.{IsLine, IsSecurity}
use Rattle.offer_book.specs.Coefficients.{pay_by, pay_coefficients}
use Rattle.offer_book.specs.Schedule.{cash_due, kind_rate, kind_schedule, schedule_of}
use Rattle.offer_book.specs.declared.coefficients.TheConstants.{COEFFICIENT_SCALE}
use Rattle.offer_book.specs.declared.line.Line.{Line}
use Rattle.offer_book.specs.declared.line.LineKind.{LineKind}
use Rattle.offer_book.specs.declared.line.LineKind.TheVariants.{Cash, Market, Security}
use Rattle.offer_book.proofs.LineFacts.{is_short}
use Rattle.offer_book.specs.declared.payment_days.PaymentDays.{PaymentDays}

-- each payment of a line bears interest for at most sixteen months
kind-short : (days : PaymentDays) (kind : LineKind) → IsSettlement days.settle → IsSecurity days kind → All (λ payment. IsShort payment.accrual) (kind_schedule days kind)
kind-short days Cash h security = absurd security
kind-short days (Security security) h own = slgs.schedule-short security days.closed (is_short days security h own)
kind-short days (Market note) h own = notes.schedule-short note days.closed

pub schedule-short : (days : PaymentDays) (line : Line) → IsSettlement days.settle → IsLine days line → All (λ payment. IsShort payment.accrual) (schedule_of days line)
schedule-short days line h (inl cash) =
    subst (λ kind. All (λ payment. IsShort payment.accrual) (kind_schedule days kind)) (sym cash.kind)
    (All-cons (λ (payment : ScheduledPayment). IsShort payment.accrual) (cash_due days.settle) [] half-short (All-nil (λ (payment : ScheduledPayment). IsShort payment.accrual)))
schedule-short days line h (inr own) = kind-short days line.kind h own.security

-- opening cash bears no interest
none-of : (a b : ℕ) → a ≡ 0 → 0 < b → a / b ≡ 0
none-of a b none some = div-eq_of_lt (omega arith)

cash-pay : (settle : ℤ) (step : ℕ) → map (pay_by 0 step) (cash_due settle ∷ []) ≡ record { day = settle; low = COEFFICIENT_SCALE * step; high = COEFFICIENT_SCALE * step; slack = 0 } ∷ []
cash-pay settle step = (λ i. record { day = settle; low = low i; high = high i; slack = 0 } ∷ [])
  where
    low : COEFFICIENT_SCALE * (step * 0 * 1) / (100_000 * 2) + COEFFICIENT_SCALE * step ≡ COEFFICIENT_SCALE * step
    low = omega (arith, none-of (COEFFICIENT_SCALE * (step * 0 * 1)) (100_000 * 2) (omega arith) (omega arith))

    high : div_ceil (COEFFICIENT_SCALE * (step * 0 * 1)) (100_000 * 2) + COEFFICIENT_SCALE * step ≡ COEFFICIENT_SCALE * step
    high = omega (arith, ap (λ (n : ℕ). div_ceil n (100_000 * 2)) (nothing step))
      where
        nothing : (step : ℕ) → COEFFICIENT_SCALE * (step * 0 * 1) ≡ 0
        nothing step = omega arith

pub cash-coefficients : (days : PaymentDays) (line : Line) → line.kind ≡ Cash
    → pay_coefficients days line ≡ record { day = days.settle; low = COEFFICIENT_SCALE * line.step; high = COEFFICIENT_SCALE * line.step; slack = 0 } ∷ []
cash-coefficients days line is = subst (λ kind. map (pay_by (kind_rate kind) line.step) (kind_schedule days kind) ≡ record { day = days.settle; low = COEFFICIENT_SCALE * line.step; high = COEFFICIENT_SCALE * line.step; slack = 0 } ∷ []) (sym is) (cash-pay days.settle line.step)
