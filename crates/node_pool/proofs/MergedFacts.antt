-- What a merged heap has.
use Rattle.std.proofs.Common.{◌≡◌, ◌≢◌, ◌∙◌, ℕ, ◌+◌, ◌*◌, ◌^◌, ◌≤◌, ℤ, Bool, true, false, ◌==◌, nat_lt, if◌then◌else◌, refl, subst, arith, add-one}
use Rattle.std.proofs.Math.Nat.{pow-le-pow_right, pow-succ'}
use Rattle.node_pool.specs.Heap.{Empty, Fork, Heap, IsAbove, IsLeftist, IsOrdered, SpinesAreShort, comes_before, fork, merged, occurs, size, spine}
use Rattle.node_pool.proofs.OrderFacts.{before-trans, else-before}

-- how often numbers stand
occurs_fork : (number : ℕ) (key : ℤ) (left right : Heap) (i : ℕ) → occurs (fork number key left right) i ≡ occurs (Fork number key left right) i
occurs_fork number key left right i = by (nat_lt (spine left) (spine right))
  where
    by : (b : Bool) → occurs (if b then Fork number key right left else Fork number key left right) i ≡ occurs (Fork number key left right) i
    by true = omega arith
    by false = refl

occurs_by : (a b x y : Heap) (i n : ℕ) (t : Bool) → occurs a i ≡ n → occurs b i ≡ n → occurs (if t then a else b) i ≡ n
occurs_by a b x y i n true first second = first
occurs_by a b x y i n false first second = second

own_left : (own l m r other : ℕ) → m ≡ r + other → own + (l + m) ≡ (own + (l + r)) + other
own_left own l m r other h = omega (arith, h)

own_right : (all own l m r : ℕ) → m ≡ all + r → own + (l + m) ≡ all + (own + (l + r))
own_right all own l m r h = omega (arith, h)

occurs_into : (i : ℕ) (number : ℕ) (key : ℤ) (left right : Heap) → ((heap : Heap) → occurs (merged right heap) i ≡ occurs right i + occurs heap i) → (other : Heap) →
    occurs (merged (Fork number key left right) other) i ≡ occurs (Fork number key left right) i + occurs other i
occurs_into i number key left right behind Empty = omega arith
occurs_into i number key left right behind (Fork m mkey l r) =
    let one : Heap = Fork number key left right in
    let two : Heap = Fork m mkey l r in
    occurs_by (fork number key left (merged right two)) (fork m mkey l (merged one r)) one two i (occurs one i + occurs two i) (comes_before number key m mkey)
    (occurs_fork number key left (merged right two) i
    ∙ own_left (if number == i then 1 else 0) (occurs left i) (occurs (merged right two) i) (occurs right i) (occurs two i) (behind two))
    (occurs_fork m mkey l (merged one r) i
    ∙ own_right (occurs one i) (if m == i then 1 else 0) (occurs l i) (occurs (merged one r) i) (occurs r i) (occurs_into i number key left right behind r))

pub occurs-merged : (i : ℕ) (one other : Heap) → occurs (merged one other) i ≡ occurs one i + occurs other i
occurs-merged i Empty other = omega arith
occurs-merged i (Fork number key left right) other = occurs_into i number key left right (occurs-merged i right) other

-- how many nodes
size_fork : (number : ℕ) (key : ℤ) (left right : Heap) → size (fork number key left right) ≡ size (Fork number key left right)
size_fork number key left right = by (nat_lt (spine left) (spine right))
  where
    by : (b : Bool) → size (if b then Fork number key right left else Fork number key left right) ≡ size (Fork number key left right)
    by true = omega arith
    by false = refl

size_by : (a b : Heap) (n : ℕ) (t : Bool) → size a ≡ n → size b ≡ n → size (if t then a else b) ≡ n
size_by a b n true first second = first
size_by a b n false first second = second

size_into : (number : ℕ) (key : ℤ) (left right : Heap) → ((heap : Heap) → size (merged right heap) ≡ size right + size heap) → (other : Heap) →
    size (merged (Fork number key left right) other) ≡ size (Fork number key left right) + size other
size_into number key left right behind Empty = omega arith
size_into number key left right behind (Fork m mkey l r) =
    let one : Heap = Fork number key left right in
    let two : Heap = Fork m mkey l r in
    size_by (fork number key left (merged right two)) (fork m mkey l (merged one r)) (size one + size two) (comes_before number key m mkey)
    (size_fork number key left (merged right two) ∙ own_left 1 (size left) (size (merged right two)) (size right) (size two) (behind two))
    (size_fork m mkey l (merged one r) ∙ own_right (size one) 1 (size l) (size (merged one r)) (size r) (size_into number key left right behind r))

pub size-merged : (one other : Heap) → size (merged one other) ≡ size one + size other
size-merged Empty other = omega arith
size-merged (Fork number key left right) other = size_into number key left right (size-merged right) other

-- the way to the right
leftist_fork : (number : ℕ) (key : ℤ) (left right : Heap) → IsLeftist left → IsLeftist right → IsLeftist (fork number key left right)
leftist_fork number key left right first second = by (nat_lt (spine left) (spine right)) refl
  where
    by : (b : Bool) → nat_lt (spine left) (spine right) ≡ b → IsLeftist (if b then Fork number key right left else Fork number key left right)
    by true e = (grind (arith, e), (second, first))
    by false e = (grind (arith, e), (first, second))

leftist_by : (a b : Heap) (t : Bool) → IsLeftist a → IsLeftist b → IsLeftist (if t then a else b)
leftist_by a b true first second = first
leftist_by a b false first second = second

leftist_into : (number : ℕ) (key : ℤ) (left right : Heap) → IsLeftist (Fork number key left right) → ((heap : Heap) → IsLeftist heap → IsLeftist (merged right heap)) →
    (other : Heap) → IsLeftist other → IsLeftist (merged (Fork number key left right) other)
leftist_into number key left right own behind Empty is = own
leftist_into number key left right own behind (Fork m mkey l r) is =
    leftist_by (fork number key left (merged right (Fork m mkey l r))) (fork m mkey l (merged (Fork number key left right) r)) (comes_before number key m mkey)
    (leftist_fork number key left (merged right (Fork m mkey l r)) own.1.0 (behind (Fork m mkey l r) is))
    (leftist_fork m mkey l (merged (Fork number key left right) r) is.1.0 (leftist_into number key left right own behind r is.1.1))

pub leftist-merged : (one other : Heap) → IsLeftist one → IsLeftist other → IsLeftist (merged one other)
leftist-merged Empty other first second = second
leftist-merged (Fork number key left right) other first second = leftist_into number key left right first (λ heap is. leftist-merged right heap first.1.1 is) other second

-- the order
above_fork : (x : ℕ) (k : ℤ) (number : ℕ) (key : ℤ) (left right : Heap) → IsAbove x k (Fork number key left right) → IsAbove x k (fork number key left right)
above_fork x k number key left right h = by (nat_lt (spine left) (spine right))
  where
    by : (b : Bool) → IsAbove x k (if b then Fork number key right left else Fork number key left right)
    by true = (h.0, (h.1.1, h.1.0))
    by false = h

above_by : (x : ℕ) (k : ℤ) (a b : Heap) (t : Bool) → IsAbove x k a → IsAbove x k b → IsAbove x k (if t then a else b)
above_by x k a b true first second = first
above_by x k a b false first second = second

above_into : (x : ℕ) (k : ℤ) (number : ℕ) (key : ℤ) (left right : Heap) → IsAbove x k (Fork number key left right) → ((heap : Heap) → IsAbove x k heap → IsAbove x k (merged right heap)) →
    (other : Heap) → IsAbove x k other → IsAbove x k (merged (Fork number key left right) other)
above_into x k number key left right own behind Empty is = own
above_into x k number key left right own behind (Fork m mkey l r) is =
    above_by x k (fork number key left (merged right (Fork m mkey l r))) (fork m mkey l (merged (Fork number key left right) r)) (comes_before number key m mkey)
    (above_fork x k number key left (merged right (Fork m mkey l r)) (own.0, (own.1.0, behind (Fork m mkey l r) is)))
    (above_fork x k m mkey l (merged (Fork number key left right) r) (is.0, (is.1.0, above_into x k number key left right own behind r is.1.1)))

pub above-merged : (x : ℕ) (k : ℤ) (one other : Heap) → IsAbove x k one → IsAbove x k other → IsAbove x k (merged one other)
above-merged x k Empty other first second = second
above-merged x k (Fork number key left right) other first second = above_into x k number key left right first (λ heap is. above-merged x k right heap first.1.1 is) other second

pub above-lower : (x m : ℕ) (k mkey : ℤ) (heap : Heap) → comes_before x k m mkey ≡ true → IsAbove m mkey heap → IsAbove x k heap
above-lower x m k mkey Empty before is = tt
above-lower x m k mkey (Fork number key left right) before is =
    (before-trans x m number k mkey key before is.0, (above-lower x m k mkey left before is.1.0, above-lower x m k mkey right before is.1.1))

ordered_fork : (number : ℕ) (key : ℤ) (left right : Heap) → IsOrdered (Fork number key left right) → IsOrdered (fork number key left right)
ordered_fork number key left right h = by (nat_lt (spine left) (spine right))
  where
    by : (b : Bool) → IsOrdered (if b then Fork number key right left else Fork number key left right)
    by true = ((h.0.1, h.0.0), (h.1.1, h.1.0))
    by false = h

ordered_by : (a b : Heap) (t : Bool) → (t ≡ true → IsOrdered a) → (t ≡ false → IsOrdered b) → IsOrdered (if t then a else b)
ordered_by a b true first second = first refl
ordered_by a b false first second = second refl

-- no number stands in both
abbrev pub AreDisjoint : Heap → Heap → Type 0
AreDisjoint one other = (number : ℕ) → occurs one number + occurs other number ≤ 1

tops_apart : (number m a b c d : ℕ) → ((if number == number then 1 else 0) + (a + b)) + ((if m == number then 1 else 0) + (c + d)) ≤ 1 → number ≢ m
tops_apart number m a b c d h same =
    let here : (number == number) ≡ true = grind arith in
    let there : (m == number) ≡ true = grind (arith, same) in
    let P : Bool → Type 0 = λ t. ((if t then 1 else 0) + (a + b)) + ((if m == number then 1 else 0) + (c + d)) ≤ 1 in
    let Q : Bool → Type 0 = λ t. (1 + (a + b)) + ((if t then 1 else 0) + (c + d)) ≤ 1 in
    let all : (1 + (a + b)) + (1 + (c + d)) ≤ 1 = subst Q there (subst P here h) in
    absurd (omega (arith, all))

part_right : (own l r o : ℕ) → (own + (l + r)) + o ≤ 1 → r + o ≤ 1
part_right own l r o h = omega (arith, h)

part_other : (all own l r : ℕ) → all + (own + (l + r)) ≤ 1 → all + r ≤ 1
part_other all own l r h = omega (arith, h)

ordered_into : (number : ℕ) (key : ℤ) (left right : Heap) → IsOrdered (Fork number key left right) →
    ((heap : Heap) → IsOrdered heap → AreDisjoint right heap → IsOrdered (merged right heap)) →
    (other : Heap) → IsOrdered other → AreDisjoint (Fork number key left right) other → IsOrdered (merged (Fork number key left right) other)
ordered_into number key left right own behind Empty is apart = own
ordered_into number key left right own behind (Fork m mkey l r) is apart =
    let one : Heap = Fork number key left right in
    let two : Heap = Fork m mkey l r in
    ordered_by (fork number key left (merged right two)) (fork m mkey l (merged one r)) (comes_before number key m mkey)
    (λ before. ordered_fork number key left (merged right two) (
      (
        own.0.0,
        above-merged number key right two own.0.1
            (before, (above-lower number m key mkey l before is.0.0, above-lower number m key mkey r before is.0.1)),
      ),
      (own.1.0, behind two is (λ i. part_right (if number == i then 1 else 0) (occurs left i) (occurs right i) (occurs two i) (apart i))),
    ))
    (λ not_before.
    let before : comes_before m mkey number key ≡ true =
    else-before number m key mkey not_before (tops_apart number m (occurs left number) (occurs right number) (occurs l number) (occurs r number) (apart number)) in
    ordered_fork m mkey l (merged one r) (
      (
        is.0.0,
        above-merged m mkey one r
            (before, (above-lower m number mkey key left before own.0.0, above-lower m number mkey key right before own.0.1)) is.0.1,
      ),
      (
        is.1.0,
        ordered_into number key left right own behind r is.1.1
            (λ i. part_other (occurs one i) (if m == i then 1 else 0) (occurs l i) (occurs r i) (apart i)),
      ),
    ))

pub ordered-merged : (one other : Heap) → IsOrdered one → IsOrdered other → AreDisjoint one other → IsOrdered (merged one other)
ordered-merged Empty other first second apart = second
ordered-merged (Fork number key left right) other first second apart =
    ordered_into number key left right first (λ heap is disjoint. ordered-merged right heap first.1.1 is disjoint) other second apart

-- a way to the right is short
double : (n : ℕ) → 2 ^ (n + 1) ≡ 2 * 2 ^ n
double n = rw add-one (pow-succ' 2 n)

pub spines-short : SpinesAreShort
spines-short Empty is = omega arith
spines-short (Fork number key left right) is =
    let first : 2 ^ spine left ≤ size left + 1 = spines-short left is.1.0 in
    let second : 2 ^ spine right ≤ size right + 1 = spines-short right is.1.1 in
    let lower : 2 ^ spine right ≤ 2 ^ spine left = pow-le-pow_right {n = 2} (omega arith) is.0 in
    let twice : 2 ^ (spine right + 1) ≡ 2 * 2 ^ spine right = double (spine right) in
    omega (arith, first, second, lower, twice)
