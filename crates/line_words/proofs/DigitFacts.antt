-- Digits.
use Rattle.std.proofs.Common.{◌≡◌, ℕ, true}
use Rattle.std.specs.Char.{is_ascii_digit}

abbrev pub Digit : ℕ → Type 0
Digit byte = is_ascii_digit byte ≡ true
