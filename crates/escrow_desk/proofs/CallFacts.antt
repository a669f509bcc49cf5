-- How many calls are listed.
use Rattle.std.proofs.Common.{◌≡◌, ℕ, zero, suc, ◌+◌, ◌≤◌, List, Bool, true, false, cond, refl, arith}
use Rattle.escrow_desk.specs.Memory.{is_listed, listed_below}

pub listed-zero : (xs : List ℕ) → listed_below xs 0 ≡ 0
unfolding listed_below
listed-zero xs = refl

pub listed-suc : (xs : List ℕ) (n : ℕ) → listed_below xs (suc n) ≡ listed_below xs n + cond (is_listed xs n) 1 0
unfolding listed_below
listed-suc xs n = refl

one_more : (b : Bool) (n k : ℕ) → k ≤ n → k + cond b 1 0 ≤ suc n
one_more true n k h = omega arith
one_more false n k h = omega arith

pub listed-le : (xs : List ℕ) (n : ℕ) → listed_below xs n ≤ n
unfolding listed_below
listed-le xs zero = omega arith
listed-le xs (suc n) = one_more (is_listed xs n) n (listed_below xs n) (listed-le xs n)
