-- Digits and their number.
use Rattle.std.proofs.Common.{◌≡◌, ◌∙◌, ℕ, zero, suc, ◌+◌, ◌-◌, ◌/◌, ◌%◌, ◌^◌, ◌<◌, ◌≤◌, List, [], ◌∷◌, ◌++◌, length, refl, ap, sym, arith, length-append, append_assoc, decimal}
use Rattle.std.proofs.lemmas.List.{append-nil}
use Rattle.std.proofs.lemmas.Fmt.{decimal_digit, decimal_step, decimal_nonempty, length-decimal-le}
use Rattle.escrow_units.specs.Digits.{last_digits}

pub last-zero : (n : ℕ) → last_digits 0 n ≡ []
unfolding last_digits
last-zero n = refl

pub last-suc : (k n : ℕ) → last_digits (suc k) n ≡ last_digits k (n / 10) ++ (48 + n % 10) ∷ []
unfolding last_digits
last-suc k n = refl

pub last-more : (k n : ℕ) → 1 ≤ k → last_digits k n ≡ last_digits (k - 1) (n / 10) ++ (48 + n % 10) ∷ []
last-more zero n h = absurd (omega arith)
last-more (suc k) n h = let same : suc k - 1 ≡ k = omega arith in rw same (last-suc k n)

pub length-last : (k n : ℕ) → length (last_digits k n) ≡ k
length-last zero n = ap length (last-zero n)
length-last (suc k) n = ap length (last-suc k n) ∙ length-append (last_digits k (n / 10)) ((48 + n % 10) ∷ []) ∙ omega (arith, length-last k (n / 10))

pub length-step : (n : ℕ) → 10 ≤ n → n < 2 ^ 64 → length (decimal n) ≡ length (decimal (n / 10)) + 1
length-step n h top = ap length (decimal_step n h top) ∙ length-append (decimal (n / 10)) ((48 + n % 10) ∷ [])

pub length-long : (n : ℕ) → n < 2 ^ 64 → length (decimal n) ≤ 20
length-long n h = length-decimal-le 20 n (omega arith) (omega arith) h

pub ruleset digit_facts = (decimal_digit, decimal_step, decimal_nonempty, length-step, length-long, last-zero, last-more, length-last, length-append, append_assoc, append-nil)
