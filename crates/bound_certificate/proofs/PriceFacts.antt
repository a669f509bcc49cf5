-- Numbers in their ranges, prices that never rise, and bytes without a line feed.
use Rattle.std.proofs.Common.{◌≡◌, ◌∙◌, ℕ, ◌*◌, ◌≤◌, Bool, true, false, ◌==◌, ◌||◌, not, nat_lt, if◌then◌else◌, List, [], ◌∷◌, ◌++◌, All, AllPairs, zero, suc, refl, sym, ap, arith, decimal}
use Rattle.std.specs.List.{list_all}
use Rattle.std.proofs.lemmas.Bool.{and_parts}
use Rattle.std.proofs.lemmas.List.Elements.{All-append, All-cons, All-head, All-nil, All-tail}
use Rattle.std.proofs.lemmas.List.Kept.{AllPairs-cons}
use Rattle.proof_tree.specs.declared.prices.TheConstants.{PRICE_SCALE}
use Rattle.bound_certificate.specs.declared.limits.TheConstants.{GREATEST_GAP}
use Rattle.bound_certificate.specs.declared.weighing.Weighing.{Weighing}
use Rattle.bound_certificate.specs.declared.weighing.Weighing.TheVariants as weighing
use Rattle.bound_certificate.specs.Weights.{IsSayable, IsWholeOrNone, most_weight, rho_number, rho_said}
use Rattle.bound_certificate.specs.Grammar.{rises}
use Rattle.bound_certificate.specs.Text.{IsOneLine, NotFeed, spaced_numbers}
use Rattle.line_words.specs.Words.{is_in, is_space}
use Rattle.bound_certificate.proofs.RowFacts.{AreWritten, IsDigit, IsWord, decimal-digits}

pub equal_by : (m n : ℕ) → (m == n) ≡ true → m ≡ n
equal_by m n h = grind (arith, h)

pub in_range : (least most number : ℕ) → is_in (record { least = least; most = most }) number ≡ true → (least ≤ number) × (number ≤ most)
in_range least most number h = (grind (arith, h), grind (arith, h))

pub within : (least most number : ℕ) → least ≤ number → number ≤ most → is_in (record { least = least; most = most }) number ≡ true
within least most number low high = grind (arith, low, high)

not_feed : (byte : ℕ) → IsDigit byte → NotFeed byte
not_feed byte h e = absurd (omega (arith, h.0, e))

decimal_line : (n : ℕ) → n ≤ GREATEST_GAP → IsOneLine (decimal n)
decimal_line n limit i d h = not_feed _ (decimal-digits n limit i d h)

pub numbers_line : (numbers : List ℕ) → AreWritten numbers → IsOneLine (spaced_numbers numbers)
numbers_line [] few = All-nil NotFeed
numbers_line (number ∷ numbers) few =
    All-cons NotFeed 32 (decimal number ++ spaced_numbers numbers) (λ e. absurd (omega (arith, e)))
    (All-append NotFeed (decimal number) (spaced_numbers numbers) (decimal_line number few.0) (numbers_line numbers few.1))

pub line_by : (word : List ℕ) → list_all (λ byte. not (byte == 10)) word ≡ true → IsOneLine word
line_by [] h = All-nil NotFeed
line_by (byte ∷ word) h =
    let both : (not (byte == 10) ≡ true) × (list_all (λ b. not (b == 10)) word ≡ true) = and_parts _ _ h in
    All-cons NotFeed byte word (λ e. absurd (grind (arith, both.0, e))) (line_by word both.1)

-- a word without a space
pub word_by : (word : List ℕ) → list_all (λ byte. not (is_space byte)) word ≡ true → IsWord word
word_by [] h = All-nil (λ byte. is_space byte ≡ false)
word_by (byte ∷ word) h =
    let both : (not (is_space byte) ≡ true) × (list_all (λ b. not (is_space b)) word ≡ true) = and_parts _ _ h in
    All-cons (λ b. is_space b ≡ false) byte word (grind (arith, both.0)) (word_by word both.1)

abbrev pub IsPrice : ℕ → Type 0
IsPrice price = price ≤ 2 * PRICE_SCALE

pub prices-written : (prices : List ℕ) → All IsPrice prices → AreWritten prices
prices-written [] all = tt
prices-written (price ∷ prices) all =
    (let low : price ≤ 2 * PRICE_SCALE = All-head IsPrice price prices all in omega (arith, low), prices-written prices (All-tail IsPrice price prices all))

-- prices that never rise
abbrev pub NotAbove : ℕ → ℕ → Type 0
NotAbove earlier later = later ≤ earlier

pairs_tail : (x : ℕ) (xs : List ℕ) → AllPairs NotAbove (x ∷ xs) → AllPairs NotAbove xs
pairs_tail x xs h i j d before inside = h (suc i) (suc j) d (omega arith) (omega arith)

pairs_head : (x : ℕ) (xs : List ℕ) → AllPairs NotAbove (x ∷ xs) → All (NotAbove x) xs
pairs_head x xs h i d inside = h 0 (suc i) d (omega arith) (omega arith)

pub falling-order : (prices : List ℕ) → AllPairs NotAbove prices → rises prices ≡ false
falling-order [] h = refl
falling-order (x ∷ []) h = refl
falling-order (x ∷ y ∷ prices) h =
    let first : y ≤ x = All-head (NotAbove x) y prices (pairs_head x (y ∷ prices) h) in
    let rest : rises (y ∷ prices) ≡ false = falling-order (y ∷ prices) (pairs_tail x (y ∷ prices) h) in
    let here : nat_lt x y ≡ false = grind (arith, first) in
    ap (λ (b : Bool). b || rises (y ∷ prices)) here ∙ rest

below : (x y : ℕ) (prices : List ℕ) → y ≤ x → All (NotAbove y) prices → All (NotAbove x) prices
below x y prices low all i d inside = let here = all i d inside in omega (arith, here, low)

pub neither : (a b : Bool) → (a || b) ≡ false → (a ≡ false) × (b ≡ false)
neither true b h = absurd (cc)
neither false b h = (refl, h)

pub order-falling : (prices : List ℕ) → rises prices ≡ false → AllPairs NotAbove prices
order-falling [] h = λ i j d before inside. absurd (omega (arith, before, inside))
order-falling (x ∷ []) h = λ i j d before inside. absurd (omega (arith, before, inside))
order-falling (x ∷ y ∷ prices) h =
    let both : (nat_lt x y ≡ false) × (rises (y ∷ prices) ≡ false) = neither (nat_lt x y) (rises (y ∷ prices)) h in
    let rest : AllPairs NotAbove (y ∷ prices) = order-falling (y ∷ prices) both.1 in
    let first : y ≤ x = grind (arith, both.0) in
    AllPairs-cons NotAbove x (y ∷ prices) (All-cons (NotAbove x) y prices first (below x y prices first (pairs_head y prices rest))) rest

-- the weight of the cost, and the number that says it
number_within : (none : Bool) → is_in (record { least = 0; most = 1 }) (if none then 0 else 1) ≡ true
number_within true = refl
number_within false = refl

pub weight_within : (how : Weighing) (rho : ℕ) → rho ≤ PRICE_SCALE → is_in (record { least = 0; most = most_weight how }) (rho_number how rho) ≡ true
weight_within weighing.WholeOrNone rho small = number_within (rho == 0)
weight_within weighing.Number rho small = within 0 PRICE_SCALE rho (omega arith) small

number_small : (none : Bool) → (if none then 0 else 1) ≤ 1
number_small true = omega arith
number_small false = omega arith

pub weight-small : (how : Weighing) (rho : ℕ) → rho ≤ PRICE_SCALE → rho_number how rho ≤ PRICE_SCALE
weight-small weighing.WholeOrNone rho small = let one : rho_number weighing.WholeOrNone rho ≤ 1 = number_small (rho == 0) in omega (arith, one)
weight-small weighing.Number rho small = small

pub weight_written : (how : Weighing) (rho : ℕ) → rho ≤ PRICE_SCALE → rho_number how rho ≤ GREATEST_GAP
weight_written how rho small = omega (arith, weight-small how rho small)

whole_read : (rho : ℕ) → IsWholeOrNone rho → rho_said weighing.WholeOrNone (rho_number weighing.WholeOrNone rho) ≡ rho
whole_read zero counts = refl
whole_read (suc rho) counts =
    let all : suc rho ≡ PRICE_SCALE = counts (omega arith) in
    ap (λ w. rho_said weighing.WholeOrNone (rho_number weighing.WholeOrNone w)) all ∙ sym all

pub weight_read : (how : Weighing) (rho : ℕ) → IsSayable how rho → rho_said how (rho_number how rho) ≡ rho
weight_read weighing.WholeOrNone rho counts = whole_read rho counts
weight_read weighing.Number rho counts = refl

said_counts : (one : Bool) → IsWholeOrNone (if one then PRICE_SCALE else 0)
said_counts true = λ some. refl
said_counts false = λ some. absurd (omega (arith, some))

pub rho-sayable : (how : Weighing) (number : ℕ) → IsSayable how (rho_said how number)
rho-sayable weighing.WholeOrNone number = said_counts (number == 1)
rho-sayable weighing.Number number = tt

said_small : (one : Bool) → (if one then PRICE_SCALE else 0) ≤ PRICE_SCALE
said_small true = omega arith
said_small false = omega arith

pub rho-small : (how : Weighing) (number : ℕ) → number ≤ most_weight how → rho_said how number ≤ PRICE_SCALE
rho-small weighing.WholeOrNone number few = said_small (number == 1)
rho-small weighing.Number number few = few

whole_found : (number : ℕ) → number ≤ 1 → rho_number weighing.WholeOrNone (rho_said weighing.WholeOrNone number) ≡ number
whole_found zero h = refl
whole_found (suc zero) h = refl
whole_found (suc (suc more)) h = absurd (omega (arith, h))

pub weight-found : (how : Weighing) (number : ℕ) → number ≤ most_weight how → rho_number how (rho_said how number) ≡ number
weight-found weighing.WholeOrNone number h = whole_found number h
weight-found weighing.Number number h = refl
