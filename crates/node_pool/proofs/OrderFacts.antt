-- The order of nodes: by key, and then by number.
use Rattle.std.proofs.Common.{◌≡◌, ◌≢◌, ◌∙◌, ◌⊎◌, ℕ, ◌<◌, ◌≤◌, ℤ, ◌<ℤ◌, true, false, nat_lt, sym, ap, subst, arith, inl, inr}
use Rattle.std.proofs.lemmas.Cmp.{int_cmp_total}
use Rattle.std.specs.Cmp.{int_cmp_is, int_ranks}
use Rattle.std.specs.Ordering.{MatchOrdering, int_cmp}
use Rattle.std.specs.declared.cmp.Ordering.{Ordering}
use Rattle.std.specs.declared.cmp.Ordering.TheVariants.{Equal, Greater, Less}
use Rattle.node_pool.specs.Heap.{before_by, comes_before}

-- by keys, or by numbers where they are equal
abbrev pub IsBefore : ℕ → ℤ → ℕ → ℤ → Type 0
IsBefore number key other other_key = (key <ℤ other_key) ⊎ ((key ≡ other_key) × (number < other))

means_by : (o : Ordering) (number other : ℕ) (key other_key : ℤ) → MatchOrdering o (key <ℤ other_key) (key ≡ other_key) (other_key <ℤ key) → before_by o number other ≡ true →
    IsBefore number key other other_key
means_by Less number other key other_key rank h = inl rank
means_by Equal number other key other_key rank h = inr (rank, grind (arith, h))
means_by Greater number other key other_key rank h = absurd (cc)

after_by : (o : Ordering) (number other : ℕ) (key other_key : ℤ) → MatchOrdering o (key <ℤ other_key) (key ≡ other_key) (other_key <ℤ key) → before_by o number other ≡ false →
    number ≢ other → IsBefore other other_key number key
after_by Less number other key other_key rank h apart = absurd (cc)
after_by Equal number other key other_key rank h apart = inr (sym rank, let not_less : other ≤ number = grind (arith, h) in omega (arith, not_less, apart))
after_by Greater number other key other_key rank h apart = inl rank

pub before-means : (number other : ℕ) (key other_key : ℤ) → comes_before number key other other_key ≡ true → IsBefore number key other other_key
before-means number other key other_key h = means_by (int_cmp key other_key) number other key other_key (int_ranks key other_key) h

pub else-after : (number other : ℕ) (key other_key : ℤ) → comes_before number key other other_key ≡ false → number ≢ other → IsBefore other other_key number key
else-after number other key other_key h apart = after_by (int_cmp key other_key) number other key other_key (int_ranks key other_key) h apart

less_than : (number other : ℕ) → number < other → nat_lt number other ≡ true
less_than number other h = grind (arith, h)

pub means-before : (number other : ℕ) (key other_key : ℤ) → IsBefore number key other other_key → comes_before number key other other_key ≡ true
means-before number other key other_key (inl less) = ap (λ (o : Ordering). before_by o number other) (sym (int_cmp_is key other_key Less less))
means-before number other key other_key (inr same) =
    ap (λ (o : Ordering). before_by o number other) (sym (int_cmp_is key other_key Equal same.0)) ∙ less_than number other same.1

lt_trans : (x y z : ℤ) → x <ℤ y → y <ℤ z → x <ℤ z
lt_trans x y z first second =
    let less : int_cmp x z ≡ Less = int_cmp_total.trans x y z (sym (int_cmp_is x y Less first)) (sym (int_cmp_is y z Less second)) in
    let P : Ordering → Type 0 = λ o. MatchOrdering o (x <ℤ z) (x ≡ z) (z <ℤ x) in subst P less (int_ranks x z)

chain : (a b c : ℕ) (x y z : ℤ) → IsBefore a x b y → IsBefore b y c z → IsBefore a x c z
chain a b c x y z (inl first) (inl second) = inl (lt_trans x y z first second)
chain a b c x y z (inl first) (inr second) = inl (rw (sym second.0) first)
chain a b c x y z (inr first) (inl second) = inl (rw first.0 second)
chain a b c x y z (inr first) (inr second) = inr (first.0 ∙ second.0, omega (arith, first.1, second.1))

pub before-trans : (a b c : ℕ) (x y z : ℤ) → comes_before a x b y ≡ true → comes_before b y c z ≡ true → comes_before a x c z ≡ true
before-trans a b c x y z first second =
    means-before a c x z (chain a b c x y z (before-means a b x y first) (before-means b c y z second))

pub else-before : (number other : ℕ) (key other_key : ℤ) → comes_before number key other other_key ≡ false → number ≢ other → comes_before other other_key number key ≡ true
else-before number other key other_key h apart = means-before other number other_key key (else-after number other key other_key h apart)
