-- The lines behind a line feed, where one was found.
use Rattle.std.proofs.Common.{◌≡◌, ◌∙◌, ◌<◌, ℕ, Bool, List, [], Option, Some, None, length, refl, sym, ap, arith}
use denote.Ref.{Bor}
use Rattle.bound_certificate.specs.declared.fault.FaultKind.{FaultKind}
use Rattle.bound_certificate.specs.Faults.{lines_in, rest_fault}
use Rattle.line_words.specs.Words.{parts_behind}
use Rattle.bound_certificate.proofs.TextFacts.{some-lines}

pub lines-behind : (rest : Option (Bor (List ℕ))) (bytes : Bor (List ℕ)) → rest ≡ Some bytes → parts_behind 10 rest ≡ lines_in bytes.now
lines-behind rest bytes is = ap (λ (r : Option (Bor (List ℕ))). parts_behind 10 r) is

pub some-behind : (rest : Option (Bor (List ℕ))) (bytes : Bor (List ℕ)) → rest ≡ Some bytes → 0 < length (parts_behind 10 rest)
some-behind rest bytes is = omega (arith, ap length (lines-behind rest bytes is), some-lines bytes.now)

pub none-behind : (rest : Option (Bor (List ℕ))) → ((bytes : Bor (List ℕ)) → rest ≡ Some bytes → ⊥) → parts_behind 10 rest ≡ []
none-behind None none = refl
none-behind (Some bytes) none = absurd (none bytes refl)

-- the fault of what stands behind the last line feed
pub rest-is : (found : Option FaultKind) (over done : Bool) (rest : List ℕ) → found ≡ rest_fault over rest → over ≡ done → rest_fault done rest ≡ found
rest-is found over done rest is same = sym (is ∙ ap (λ (b : Bool). rest_fault b rest) same)
