-- Sums and products of signed numbers.
use Rattle.std.proofs.Common.{◌≡◌, ◌∙◌, ℕ, zero, suc, ◌+◌, ◌*◌, ◌^◌, ◌<◌, ◌≤◌, List, [], ◌∷◌, get_or, length, take, ap, arith, ℤ, pos, ◌+ℤ◌, ◌-ℤ◌, ◌*ℤ◌, neg_ℤ, ◌≤ℤ◌, unsigned_abs}
use Rattle.std.proofs.lemmas.Int.{fits_signed_from_abs, ints, to_z-of_z}
use Rattle.std.proofs.lemmas.List.Sums.{sum_by-cons}
use Rattle.std.proofs.Math.Nat.{mul-le-mul_left}
use Rattle.std.specs.List.{sum_by}
use mir.Syntax.{w128}
use mir.Val.{of_z, to_z}
use borrow.Author.Differences.{up, down, product_is, sum_is_lem, neg_is, le_out}
use Rattle.dual_bound.specs.LeafBound.{signed_sum}

pub mul-add : (a b c : ℤ) → a *ℤ (b +ℤ c) ≡ a *ℤ b +ℤ a *ℤ c
mul-add a b c =
    omega (arith, ints, ap (λ n. up a * n) (sum_is_lem b c), ap (λ n. down a * n) (sum_is_lem b c), product_is a (b +ℤ c), product_is a b, product_is a c)

pub mul-neg : (a b : ℤ) → a *ℤ neg_ℤ b ≡ neg_ℤ (a *ℤ b)
mul-neg a b = omega (arith, ints, ap (λ n. up a * n) (neg_is b).0, ap (λ n. down a * n) (neg_is b).1, ap (λ n. up a * n) (neg_is b).1, ap (λ n. down a * n) (neg_is b).0, product_is a (neg_ℤ b), product_is a b)

pub mul-sub : (a b c : ℤ) → a *ℤ (b -ℤ c) ≡ a *ℤ b -ℤ a *ℤ c
mul-sub a b c = mul-add a b (neg_ℤ c) ∙ ap (λ z. a *ℤ b +ℤ z) (mul-neg a c)

pub mul-comm : (a b : ℤ) → a *ℤ b ≡ b *ℤ a
mul-comm a b = omega (arith, ints)

pub neg-mul : (a b : ℤ) → neg_ℤ a *ℤ b ≡ neg_ℤ (a *ℤ b)
neg-mul a b = mul-comm (neg_ℤ a) b ∙ (mul-neg b a ∙ ap (λ z. neg_ℤ z) (mul-comm b a))

pub add-mul : (a b c : ℤ) → (a +ℤ b) *ℤ c ≡ a *ℤ c +ℤ b *ℤ c
add-mul a b c = mul-comm (a +ℤ b) c ∙ (mul-add c a b ∙ (λ i. mul-comm c a i +ℤ mul-comm c b i))

pub sub-mul : (a b c : ℤ) → (a -ℤ b) *ℤ c ≡ a *ℤ c -ℤ b *ℤ c
sub-mul a b c = mul-comm (a -ℤ b) c ∙ (mul-sub c a b ∙ (λ i. mul-comm c a i -ℤ mul-comm c b i))

pub pos-mul : (a b : ℕ) → pos a *ℤ pos b ≡ pos (a * b)
pos-mul a b = omega (arith, ints)

-- a factor goes into a product
pub scale-in : (k c : ℕ) (a : ℤ) → pos k *ℤ (a *ℤ pos c) ≡ a *ℤ pos (k * c)
scale-in k c a =
    omega (arith, ints, product_is (pos k) (a *ℤ pos c), product_is a (pos (k * c)), ap (λ n. k * n) (product_is a (pos c)).0, ap (λ n. k * n) (product_is a (pos c)).1)

pub scaled-mul : (k : ℕ) (a : ℤ) (c : ℕ) → (pos k *ℤ a) *ℤ pos c ≡ pos k *ℤ (a *ℤ pos c)
scaled-mul k a c =
    omega (
      arith,
      ints,
      product_is (pos k *ℤ a) (pos c),
      product_is (pos k) a,
      product_is (pos k) (a *ℤ pos c),
      product_is a (pos c),
      ap (λ n. n * c) (product_is (pos k) a).0,
      ap (λ n. n * c) (product_is (pos k) a).1,
      ap (λ n. k * n) (product_is a (pos c)).0,
      ap (λ n. k * n) (product_is a (pos c)).1,
    )

-- a factor that isn't negative keeps an order
pub scale-le : (k : ℕ) (a b : ℤ) → a ≤ℤ b → (pos k *ℤ a) ≤ℤ (pos k *ℤ b)
scale-le k a b h =
    omega (arith, ints, mul-le-mul_left k (le_out a b h), product_is (pos k) a, product_is (pos k) b)

pub signed_sum-scaled : {X : Type 0} (k : ℤ) (f : X → ℤ) (xs : List X) → k *ℤ signed_sum f xs ≡ signed_sum (λ x. k *ℤ f x) xs
signed_sum-scaled k f [] = omega (arith, ints)
signed_sum-scaled k f (x ∷ xs) = mul-add k (f x) (signed_sum f xs) ∙ ap (λ z. k *ℤ f x +ℤ z) (signed_sum-scaled k f xs)

pub signed_sum-le : {X : Type 0} (f g : X → ℤ) (xs : List X) → ((x : X) → f x ≤ℤ g x) → signed_sum f xs ≤ℤ signed_sum g xs
signed_sum-le f g [] le = omega (arith, ints)
signed_sum-le f g (x ∷ xs) le = omega (arith, ints, le x, signed_sum-le f g xs le)

-- a sum of signed differences is the difference of the sums
pub signed_sum-apart : {X : Type 0} (a b : X → ℤ) (xs : List X) → signed_sum (λ x. a x -ℤ b x) xs ≡ signed_sum a xs -ℤ signed_sum b xs
signed_sum-apart a b [] = omega (arith, ints)
signed_sum-apart a b (x ∷ xs) = omega (arith, ints, signed_sum-apart a b xs)

-- a sum of differences is the difference of the sums
pub signed_sum-difference : {X : Type 0} (a b : X → ℕ) (xs : List X) → signed_sum (λ x. pos (a x) -ℤ pos (b x)) xs ≡ pos (sum_by a xs) -ℤ pos (sum_by b xs)
signed_sum-difference a b [] = omega (arith, ints)
signed_sum-difference a b (x ∷ xs) = omega (arith, ints, sum_by-cons a x xs, sum_by-cons b x xs, signed_sum-difference a b xs)

-- a sum, one term more
pub signed_sum_more : {X : Type 0} (f : X → ℤ) (xs : List X) (i : ℕ) (d : X) → i < length xs → signed_sum f (take (i + 1) xs) ≡ signed_sum f (take i xs) +ℤ f (get_or xs i d)
signed_sum_more f [] i d few = absurd (omega arith)
signed_sum_more f (x ∷ xs) zero d few = omega (arith, ints)
signed_sum_more f (x ∷ xs) (suc i) d few =
    let next : suc i + 1 ≡ suc (i + 1) = omega arith in
    ap (λ n. signed_sum f (take n (x ∷ xs))) next ∙ joined _ _ _ _ (signed_sum_more f xs i d (omega arith))
  where
    joined : (first rest later term : ℤ) → rest ≡ later +ℤ term → first +ℤ rest ≡ (first +ℤ later) +ℤ term
    joined first rest later term e = omega (arith, ints)

-- a small number that went to bits is read again
pub read-again : (z : ℤ) → unsigned_abs z ≤ 10 ^ 38 → to_z w128 (of_z w128 z) ≡ z
read-again z small = to_z-of_z w128 z (fits_signed_from_abs w128 z (omega (arith, small)))
