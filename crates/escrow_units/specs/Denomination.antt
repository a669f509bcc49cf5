-- The denominations of one file's securities. The limits are this project's own.
use Rattle.std.specs.Prelude.{◌≡◌, ℕ, ◌%◌, ◌≤◌, List, nat_le, ◌==◌, if◌then◌else◌, Result, Ok, Err}
use Rattle.escrow_units.specs.declared.security.Terms.{Terms}
use Rattle.escrow_units.specs.declared.fault.NumberFault.{NumberFault}
use Rattle.escrow_units.specs.declared.fault.NumberFault.TheVariants.{OutOfRange}
use Rattle.escrow_units.specs.NumberText.{ranged, whole_of, dollars_of}

-- from 1 to 1,000,000 dollars
abbrev pub IsDenomination : ℕ → Type 0
IsDenomination dollars = (1 ≤ dollars) × (dollars ≤ 1_000_000)

-- a least purchase and a step, of which it is a multiple
pub record AreTerms (terms : Terms) : Type 0 where
  pub minimum : IsDenomination terms.minimum
  pub step : IsDenomination terms.step
  pub multiple : terms.minimum % terms.step ≡ 0

-- what a function gives for the value, or else the fault
abbrev pub and_then : {T U : Type 0} → (T → Result U NumberFault) → Result T NumberFault → Result U NumberFault
and_then next (Ok value) = next value
and_then next (Err fault) = Err fault

-- 1 to 15 digits: whole dollars, from 1 to 1,000,000
unfoldable pub denomination_of : List ℕ → Result ℕ NumberFault
denomination_of bytes = ranged (λ n. n) 1 1_000_000 OutOfRange (whole_of 15 bytes)

-- the terms of a minimum and a step, where the minimum is a multiple
abbrev pub multiple_terms : ℕ → ℕ → Result Terms NumberFault
multiple_terms minimum step = if minimum % step == 0 then Ok (record { minimum = minimum; step = step }) else Err OutOfRange

-- the fields of a minimum and a step, in this order, and then the relation between them
unfoldable pub terms_of : List ℕ → List ℕ → Result Terms NumberFault
terms_of minimum step = and_then (λ m. and_then (multiple_terms m) (denomination_of step)) (denomination_of minimum)

-- the field of a cap in whole dollars, which is at least the minimum
unfoldable pub cap_of : Terms → List ℕ → Result ℕ NumberFault
cap_of terms bytes = and_then (λ cap. if nat_le terms.minimum cap then Ok cap else Err OutOfRange) (dollars_of bytes)
