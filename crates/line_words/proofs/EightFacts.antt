-- Eight digits read together.
use Rattle.std.proofs.Common.{◌≡◌, ◌∙◌, ℕ, subst, length-take, ◌+◌, ◌-◌, ◌*◌, ◌/◌, ◌%◌, ◌<◌, ◌≤◌, ◌^◌, List, [], ◌∷◌, All, length, take, get_or, bit_and, refl, sym, ap, arith, inl, inr}
use Rattle.std.specs.Int.{from_le_bytes, w128}
use Rattle.std.specs.Int.Digits.{number_from_digits}
use Rattle.std.proofs.lemmas.Bool.{cases_eq}
use Rattle.std.proofs.lemmas.Int.Digits.{number_more}
use Rattle.std.proofs.lemmas.List.{get_or-take, take_all}
use Rattle.std.proofs.lemmas.List.Elements.{All-cons, All-nil}
use Rattle.std.proofs.lemmas.Nat.{and_block, and_mask}
use Rattle.line_words.specs.Digits.{HoldsDigits}

-- ---- pairs of digits
-- a number of two bytes or more
low : (q rest : ℕ) → q < 256 → (q + 256 * rest) % 256 ≡ q
low q rest small = omega arith

high : (q r rest : ℕ) → q < 256 → r < 256 → (q + 256 * (r + 256 * rest)) / 65536 ≡ rest
high q r rest small also = omega arith

-- the sum of ten times a word and the word without its lowest byte
shifted : (a b c d e f g h word : ℕ) → a < 256 → word ≡ a + 256 * (b + 256 * (c + 256 * (d + 256 * (e + 256 * (f + 256 * (g + 256 * h)))))) → 10 * word + word / 256
    ≡ (10 * a + b) + 256 * ((10 * b + c) + 256 * ((10 * c + d) + 256 * ((10 * d + e) + 256 * ((10 * e + f) + 256 * ((10 * f + g) + 256 * ((10 * g + h) + 256 * (10 * h)))))))
shifted a b c d e f g h word small is =
    let rest : word / 256 ≡ b + 256 * (c + 256 * (d + 256 * (e + 256 * (f + 256 * (g + 256 * h))))) = omega (arith, is, small) in
    omega (arith, is, rest)

-- each second byte of two that a word's first four have behind each other
masked : (p q r s t : ℕ) → p < 256 → q < 256 → r < 256 → s < 256 → bit_and (p + 256 * (q + 256 * (r + 256 * (s + 256 * t)))) 1095216660735 ≡ p + 4294967296 * (t % 256)
masked p q r s t pl ql rl sl =
    let low : ℕ = p + 256 * (q + 256 * (r + 256 * s)) in
    let split : p + 256 * (q + 256 * (r + 256 * (s + 256 * t))) ≡ t * 2 ^ 32 + low = omega arith in
    ap (λ n. bit_and n 1095216660735) split
    ∙ and_block 32 t 255 low 255 (omega (arith, pl, ql, rl, sl)) (omega arith)
    ∙ omega (arith, and_mask t 8, and_mask low 8, pl)

-- a product of two numbers in a word and two weights: the upper half
weighed : (p r t v : ℕ) → p < 100 → r < 100 → t < 100 → v < 100
    → ((p + 4294967296 * t) * 4294967296000100 % 18446744073709551616 + (r + 4294967296 * v) * 42949672960001 % 18446744073709551616) % 18446744073709551616 / 4294967296
    ≡ 1000000 * p + 10000 * r + 100 * t + v
weighed p r t v pl rl tl vl =
    let first : (p + 4294967296 * t) * 4294967296000100 % 18446744073709551616 ≡ 100 * p + 4294967296 * (1000000 * p + 100 * t) = omega (arith, pl, tl) in
    let second : (r + 4294967296 * v) * 42949672960001 % 18446744073709551616 ≡ r + 4294967296 * (10000 * r + v) = omega (arith, rl, vl) in
    omega (arith, first, second, pl, rl, tl, vl)

-- what the pairs write
abbrev pub paired : ℕ → ℕ
paired pairs =
    (bit_and pairs 1095216660735 * 4294967296000100 % 18446744073709551616 + bit_and (pairs / 65536) 1095216660735 * 42949672960001 % 18446744073709551616) % 18446744073709551616 / 4294967296

pairs_are : (p q r s t u v w pairs : ℕ) → p < 100 → q < 256 → r < 100 → s < 256 → t < 100 → u < 256 → v < 100
    → pairs ≡ p + 256 * (q + 256 * (r + 256 * (s + 256 * (t + 256 * (u + 256 * (v + 256 * w)))))) → paired pairs ≡ 1000000 * p + 10000 * r + 100 * t + v
pairs_are p q r s t u v w pairs pl ql rl sl tl ul vl is =
    let after_t : ℕ = t + 256 * (u + 256 * (v + 256 * w)) in
    let after_r : ℕ = r + 256 * (s + 256 * after_t) in
    let one : pairs / 65536 ≡ after_r = ap (λ n. n / 65536) is ∙ high p q after_r (omega (arith, pl)) ql in
    let first : bit_and pairs 1095216660735 ≡ p + 4294967296 * t =
    ap (λ n. bit_and n 1095216660735) is ∙ masked p q r s after_t (omega (arith, pl)) ql (omega (arith, rl)) sl ∙ ap (λ n. p + 4294967296 * n) (low t (u + 256 * (v + 256 * w)) (omega (arith, tl))) in
    let second : bit_and (pairs / 65536) 1095216660735 ≡ r + 4294967296 * v =
    ap (λ n. bit_and n 1095216660735) one ∙ masked r s t u (v + 256 * w) (omega (arith, rl)) sl (omega (arith, tl)) ul ∙ ap (λ n. r + 4294967296 * n) (low v w (omega (arith, vl))) in
    ap (λ n. (n * 4294967296000100 % 18446744073709551616 + bit_and (pairs / 65536) 1095216660735 * 42949672960001 % 18446744073709551616) % 18446744073709551616 / 4294967296) first
    ∙ ap (λ n. ((p + 4294967296 * t) * 4294967296000100 % 18446744073709551616 + n * 42949672960001 % 18446744073709551616) % 18446744073709551616 / 4294967296) second
    ∙ weighed p r t v pl rl tl vl

-- the number that digits write, by one more
step : (digits : List ℕ) (k : ℕ) → k < length digits → number_from_digits 10 (take (k + 1) digits) ≡ number_from_digits 10 (take k digits) * 10 + get_or digits k 0
step digits k few = number_more 10 digits k few

-- eight digits and their number
pub eight-written : (digits : List ℕ) → 8 ≤ length digits → number_from_digits 10 (take 8 digits)
    ≡ 10000000 * get_or digits 0 0 + 1000000 * get_or digits 1 0 + 100000 * get_or digits 2 0 + 10000 * get_or digits 3 0
    + 1000 * get_or digits 4 0 + 100 * get_or digits 5 0 + 10 * get_or digits 6 0 + get_or digits 7 0
eight-written digits long =
    let front : number_from_digits 10 (take 4 digits) ≡ 1000 * get_or digits 0 0 + 100 * get_or digits 1 0 + 10 * get_or digits 2 0 + get_or digits 3 0 =
    omega (arith, step digits 0 (omega (arith, long)), step digits 1 (omega (arith, long)), step digits 2 (omega (arith, long)), step digits 3 (omega (arith, long))) in
    omega (arith, front, step digits 4 (omega (arith, long)), step digits 5 (omega (arith, long)), step digits 6 (omega (arith, long)), step digits 7 (omega (arith, long)))

-- the number that eight digits write, by their pairs
pub by_pairs : (digits : List ℕ) (word : ℕ) → HoldsDigits word digits → paired (10 * word + word / 256) ≡ number_from_digits 10 digits
by_pairs digits word holds =
    let small : (k : ℕ) → k < 8 → get_or digits k 0 ≤ 9 = λ k few. holds.each k 0 (omega (arith, holds.count, few)) in
    let al = small 0 (omega arith) in
    let bl = small 1 (omega arith) in
    let cl = small 2 (omega arith) in
    let dl = small 3 (omega arith) in
    let el = small 4 (omega arith) in
    let fl = small 5 (omega arith) in
    let gl = small 6 (omega arith) in
    let hl = small 7 (omega arith) in
    let nested : word ≡ get_or digits 0 0 + 256 * (get_or digits 1 0 + 256 * (get_or digits 2 0 + 256 * (get_or digits 3 0 + 256 * (get_or digits 4 0 + 256 * (get_or digits 5 0 + 256 * (get_or digits 6 0 + 256 * get_or digits 7 0)))))) =
    omega (arith, holds.is) in
    let pairs = shifted (get_or digits 0 0) (get_or digits 1 0) (get_or digits 2 0) (get_or digits 3 0) (get_or digits 4 0) (get_or digits 5 0) (get_or digits 6 0) (get_or digits 7 0) word (omega (arith, al)) nested in
    let parts =
    pairs_are (10 * get_or digits 0 0 + get_or digits 1 0) (10 * get_or digits 1 0 + get_or digits 2 0) (10 * get_or digits 2 0 + get_or digits 3 0) (10 * get_or digits 3 0 + get_or digits 4 0)
    (10 * get_or digits 4 0 + get_or digits 5 0) (10 * get_or digits 5 0 + get_or digits 6 0) (10 * get_or digits 6 0 + get_or digits 7 0) (10 * get_or digits 7 0) (10 * word + word / 256)
    (omega (arith, al, bl)) (omega (arith, bl, cl)) (omega (arith, cl, dl)) (omega (arith, dl, el)) (omega (arith, el, fl)) (omega (arith, fl, gl)) (omega (arith, gl, hl)) pairs in
    let whole : take 8 digits ≡ digits = take_all 8 digits (omega (arith, holds.count)) in
    parts ∙ omega (arith, eight-written digits (omega (arith, holds.count))) ∙ ap (number_from_digits 10) whole

-- ---- sixteen lanes, of which more than eight are digits
-- what a multiple of a number's room leaves
drop_high : (whole low high : ℕ) → low < 18446744073709551616 → whole ≡ low + 18446744073709551616 * high → whole % 18446744073709551616 ≡ low
drop_high whole low high small is = omega (arith, is, small)

abbrev Nine : ℕ → Type 0
Nine digit = digit ≤ 9

-- eight digits in a word
eight-held : (a b c d e f g h word : ℕ) → a ≤ 9 → b ≤ 9 → c ≤ 9 → d ≤ 9 → e ≤ 9 → f ≤ 9 → g ≤ 9 → h ≤ 9
    → word ≡ a + 256 * (b + 256 * (c + 256 * (d + 256 * (e + 256 * (f + 256 * (g + 256 * h)))))) → HoldsDigits word (a ∷ b ∷ c ∷ d ∷ e ∷ f ∷ g ∷ h ∷ [])
eight-held a b c d e f g h word al bl cl dl el fl gl hl is = record {
  count = refl;
  each =
      All-cons Nine a (b ∷ c ∷ d ∷ e ∷ f ∷ g ∷ h ∷ []) al (All-cons Nine b (c ∷ d ∷ e ∷ f ∷ g ∷ h ∷ []) bl (All-cons Nine c (d ∷ e ∷ f ∷ g ∷ h ∷ []) cl
      (All-cons Nine d (e ∷ f ∷ g ∷ h ∷ []) dl (All-cons Nine e (f ∷ g ∷ h ∷ []) el (All-cons Nine f (g ∷ h ∷ []) fl (All-cons Nine g (h ∷ []) gl (All-cons Nine h [] hl (All-nil Nine))))))));
  is = omega (arith, is);
}

-- a word that holds digits leaves room
pub holds-fits : (word : ℕ) (digits : List ℕ) → HoldsDigits word digits → 11 * word < 18446744073709551616
holds-fits word digits holds =
    let small : (k : ℕ) → k < 8 → get_or digits k 0 ≤ 9 = λ k few. holds.each k 0 (omega (arith, holds.count, few)) in
    omega (arith, holds.is, small 0 (omega arith), small 1 (omega arith), small 2 (omega arith), small 3 (omega arith), small 4 (omega arith), small 5 (omega arith), small 6 (omega arith), small 7 (omega arith))

-- the powers of ten
abbrev pub powers : List ℕ
powers = 1 ∷ 10 ∷ 100 ∷ 1000 ∷ 10000 ∷ 100000 ∷ 1000000 ∷ 10000000 ∷ []

-- what the digits behind the first eight write, from the end of a word
pub record IsMoved (lanes : List ℕ) (count high : ℕ) : Type 0 where
  pub digits : List ℕ
  pub holds : HoldsDigits (high * 2 ^ (8 * (16 - count)) % 18446744073709551616) digits
  pub written : number_from_digits 10 (take 8 lanes) * get_or powers (count - 8) 0 + number_from_digits 10 digits ≡ number_from_digits 10 (take count lanes)
  pub few : number_from_digits 10 (take count lanes) < 1000000000000000

-- what more than eight of sixteen lanes write, which a word holds
module _ (lanes : List ℕ) (word count : ℕ) (long : length lanes ≡ 16) (is : word ≡ from_le_bytes w128 lanes) (many : 8 < count) (few : count < 16)
    (each : All (λ digit. digit ≤ 9) (take count lanes)) where
  abbrev pub front : ℕ
  front = get_or lanes 0 0 + 256 * (get_or lanes 1 0 + 256 * (get_or lanes 2 0 + 256 * (get_or lanes 3 0 + 256 * (get_or lanes 4 0 + 256 * (get_or lanes 5 0 + 256 * (get_or lanes 6 0 + 256 * (get_or lanes 7 0)))))))

  abbrev pub behind : ℕ
  behind = get_or lanes 8 0 + 256 * (get_or lanes 9 0 + 256 * (get_or lanes 10 0 + 256 * (get_or lanes 11 0 + 256 * (get_or lanes 12 0 + 256 * (get_or lanes 13 0 + 256 * (get_or lanes 14 0 + 256 * (get_or lanes 15 0)))))))

  halves : word ≡ front + 18446744073709551616 * behind
  halves = omega (arith, is)

  small : (k : ℕ) → k < count → get_or lanes k 0 ≤ 9
  small k inside = subst (λ n. n ≤ 9) (get_or-take count lanes k 0 inside) (each k 0 (omega (arith, length-take count lanes, long, few, inside)))

  first : (k : ℕ) → k < 9 → get_or lanes k 0 ≤ 9
  first k inside = small k (omega (arith, many, inside))

  front-room : front < 18446744073709551616
  front-room = omega (arith, first 0 (omega arith), first 1 (omega arith), first 2 (omega arith), first 3 (omega arith), first 4 (omega arith), first 5 (omega arith), first 6 (omega arith), first 7 (omega arith))

  pub front-is : word % 18446744073709551616 ≡ front
  front-is = drop_high word front behind front-room halves

  pub behind-is : word / 18446744073709551616 ≡ behind
  behind-is = omega (arith, halves, front-room)

  pub front-held : HoldsDigits (word % 18446744073709551616) (get_or lanes 0 0 ∷ get_or lanes 1 0 ∷ get_or lanes 2 0 ∷ get_or lanes 3 0 ∷ get_or lanes 4 0 ∷ get_or lanes 5 0 ∷ get_or lanes 6 0 ∷ get_or lanes 7 0 ∷ [])
  front-held =
      eight-held (get_or lanes 0 0) (get_or lanes 1 0) (get_or lanes 2 0) (get_or lanes 3 0) (get_or lanes 4 0) (get_or lanes 5 0) (get_or lanes 6 0) (get_or lanes 7 0) (word % 18446744073709551616)
      (first 0 (omega arith)) (first 1 (omega arith)) (first 2 (omega arith)) (first 3 (omega arith)) (first 4 (omega arith)) (first 5 (omega arith)) (first 6 (omega arith)) (first 7 (omega arith)) front-is

  eight : number_from_digits 10 (take 8 lanes) ≡ 10000000 * get_or lanes 0 0 + 1000000 * get_or lanes 1 0 + 100000 * get_or lanes 2 0 + 10000 * get_or lanes 3 0
      + 1000 * get_or lanes 4 0 + 100 * get_or lanes 5 0 + 10 * get_or lanes 6 0 + get_or lanes 7 0
  eight = eight-written lanes (omega (arith, long))

  pub front-written : number_from_digits 10 (get_or lanes 0 0 ∷ get_or lanes 1 0 ∷ get_or lanes 2 0 ∷ get_or lanes 3 0 ∷ get_or lanes 4 0 ∷ get_or lanes 5 0 ∷ get_or lanes 6 0 ∷ get_or lanes 7 0 ∷ []) ≡ number_from_digits 10 (take 8 lanes)
  front-written = omega (arith, eight)

  eight-few : number_from_digits 10 (take 8 lanes) ≤ 99999999
  eight-few = omega (arith, eight, first 0 (omega arith), first 1 (omega arith), first 2 (omega arith), first 3 (omega arith), first 4 (omega arith), first 5 (omega arith), first 6 (omega arith), first 7 (omega arith))

  more : (k : ℕ) → k < 16 → number_from_digits 10 (take (k + 1) lanes) ≡ number_from_digits 10 (take k lanes) * 10 + get_or lanes k 0
  more k inside = step lanes k (omega (arith, long, inside))

  moved-9 : count ≡ 9 → IsMoved lanes 9 behind
  moved-9 at = record {
    digits = 0 ∷ 0 ∷ 0 ∷ 0 ∷ 0 ∷ 0 ∷ 0 ∷ get_or lanes 8 0 ∷ [];
    holds =
        eight-held 0 0 0 0 0 0 0 (get_or lanes 8 0) (behind * 72057594037927936 % 18446744073709551616)
        (omega arith) (omega arith) (omega arith) (omega arith) (omega arith) (omega arith) (omega arith) (small 8 (omega (arith, at)))
        (drop_high (behind * 72057594037927936) (0 + 256 * (0 + 256 * (0 + 256 * (0 + 256 * (0 + 256 * (0 + 256 * (0 + 256 * (get_or lanes 8 0)))))))) (get_or lanes 9 0 + 256 * (get_or lanes 10 0 + 256 * (get_or lanes 11 0 + 256 * (get_or lanes 12 0 + 256 * (get_or lanes 13 0 + 256 * (get_or lanes 14 0 + 256 * (get_or lanes 15 0))))))) (omega (arith, small 8 (omega (arith, at)))) (omega arith));
    written = omega (arith, more 8 (omega arith));
    few = omega (arith, eight-few, more 8 (omega arith), small 8 (omega (arith, at)));
  }

  moved-10 : count ≡ 10 → IsMoved lanes 10 behind
  moved-10 at = record {
    digits = 0 ∷ 0 ∷ 0 ∷ 0 ∷ 0 ∷ 0 ∷ get_or lanes 8 0 ∷ get_or lanes 9 0 ∷ [];
    holds =
        eight-held 0 0 0 0 0 0 (get_or lanes 8 0) (get_or lanes 9 0) (behind * 281474976710656 % 18446744073709551616)
        (omega arith) (omega arith) (omega arith) (omega arith) (omega arith) (omega arith) (small 8 (omega (arith, at))) (small 9 (omega (arith, at)))
        (drop_high (behind * 281474976710656) (0 + 256 * (0 + 256 * (0 + 256 * (0 + 256 * (0 + 256 * (0 + 256 * (get_or lanes 8 0 + 256 * (get_or lanes 9 0)))))))) (get_or lanes 10 0 + 256 * (get_or lanes 11 0 + 256 * (get_or lanes 12 0 + 256 * (get_or lanes 13 0 + 256 * (get_or lanes 14 0 + 256 * (get_or lanes 15 0)))))) (omega (arith, small 8 (omega (arith, at)), small 9 (omega (arith, at)))) (omega arith));
    written = omega (arith, more 8 (omega arith), more 9 (omega arith));
    few = omega (arith, eight-few, more 8 (omega arith), more 9 (omega arith), small 8 (omega (arith, at)), small 9 (omega (arith, at)));
  }

  moved-11 : count ≡ 11 → IsMoved lanes 11 behind
  moved-11 at = record {
    digits = 0 ∷ 0 ∷ 0 ∷ 0 ∷ 0 ∷ get_or lanes 8 0 ∷ get_or lanes 9 0 ∷ get_or lanes 10 0 ∷ [];
    holds =
        eight-held 0 0 0 0 0 (get_or lanes 8 0) (get_or lanes 9 0) (get_or lanes 10 0) (behind * 1099511627776 % 18446744073709551616)
        (omega arith) (omega arith) (omega arith) (omega arith) (omega arith) (small 8 (omega (arith, at))) (small 9 (omega (arith, at))) (small 10 (omega (arith, at)))
        (drop_high (behind * 1099511627776) (0 + 256 * (0 + 256 * (0 + 256 * (0 + 256 * (0 + 256 * (get_or lanes 8 0 + 256 * (get_or lanes 9 0 + 256 * (get_or lanes 10 0)))))))) (get_or lanes 11 0 + 256 * (get_or lanes 12 0 + 256 * (get_or lanes 13 0 + 256 * (get_or lanes 14 0 + 256 * (get_or lanes 15 0))))) (omega (arith, small 8 (omega (arith, at)), small 9 (omega (arith, at)), small 10 (omega (arith, at)))) (omega arith));
    written = omega (arith, more 8 (omega arith), more 9 (omega arith), more 10 (omega arith));
    few = omega (arith, eight-few, more 8 (omega arith), more 9 (omega arith), more 10 (omega arith), small 8 (omega (arith, at)), small 9 (omega (arith, at)), small 10 (omega (arith, at)));
  }

  moved-12 : count ≡ 12 → IsMoved lanes 12 behind
  moved-12 at = record {
    digits = 0 ∷ 0 ∷ 0 ∷ 0 ∷ get_or lanes 8 0 ∷ get_or lanes 9 0 ∷ get_or lanes 10 0 ∷ get_or lanes 11 0 ∷ [];
    holds =
        eight-held 0 0 0 0 (get_or lanes 8 0) (get_or lanes 9 0) (get_or lanes 10 0) (get_or lanes 11 0) (behind * 4294967296 % 18446744073709551616)
        (omega arith) (omega arith) (omega arith) (omega arith) (small 8 (omega (arith, at))) (small 9 (omega (arith, at))) (small 10 (omega (arith, at))) (small 11 (omega (arith, at)))
        (drop_high (behind * 4294967296) (0 + 256 * (0 + 256 * (0 + 256 * (0 + 256 * (get_or lanes 8 0 + 256 * (get_or lanes 9 0 + 256 * (get_or lanes 10 0 + 256 * (get_or lanes 11 0)))))))) (get_or lanes 12 0 + 256 * (get_or lanes 13 0 + 256 * (get_or lanes 14 0 + 256 * (get_or lanes 15 0)))) (omega (arith, small 8 (omega (arith, at)), small 9 (omega (arith, at)), small 10 (omega (arith, at)), small 11 (omega (arith, at)))) (omega arith));
    written = omega (arith, more 8 (omega arith), more 9 (omega arith), more 10 (omega arith), more 11 (omega arith));
    few = omega (arith, eight-few, more 8 (omega arith), more 9 (omega arith), more 10 (omega arith), more 11 (omega arith), small 8 (omega (arith, at)), small 9 (omega (arith, at)), small 10 (omega (arith, at)), small 11 (omega (arith, at)));
  }

  moved-13 : count ≡ 13 → IsMoved lanes 13 behind
  moved-13 at = record {
    digits = 0 ∷ 0 ∷ 0 ∷ get_or lanes 8 0 ∷ get_or lanes 9 0 ∷ get_or lanes 10 0 ∷ get_or lanes 11 0 ∷ get_or lanes 12 0 ∷ [];
    holds =
        eight-held 0 0 0 (get_or lanes 8 0) (get_or lanes 9 0) (get_or lanes 10 0) (get_or lanes 11 0) (get_or lanes 12 0) (behind * 16777216 % 18446744073709551616)
        (omega arith) (omega arith) (omega arith) (small 8 (omega (arith, at))) (small 9 (omega (arith, at))) (small 10 (omega (arith, at))) (small 11 (omega (arith, at))) (small 12 (omega (arith, at)))
        (drop_high (behind * 16777216) (0 + 256 * (0 + 256 * (0 + 256 * (get_or lanes 8 0 + 256 * (get_or lanes 9 0 + 256 * (get_or lanes 10 0 + 256 * (get_or lanes 11 0 + 256 * (get_or lanes 12 0)))))))) (get_or lanes 13 0 + 256 * (get_or lanes 14 0 + 256 * (get_or lanes 15 0))) (omega (arith, small 8 (omega (arith, at)), small 9 (omega (arith, at)), small 10 (omega (arith, at)), small 11 (omega (arith, at)), small 12 (omega (arith, at)))) (omega arith));
    written = omega (arith, more 8 (omega arith), more 9 (omega arith), more 10 (omega arith), more 11 (omega arith), more 12 (omega arith));
    few = omega (arith, eight-few, more 8 (omega arith), more 9 (omega arith), more 10 (omega arith), more 11 (omega arith), more 12 (omega arith), small 8 (omega (arith, at)), small 9 (omega (arith, at)), small 10 (omega (arith, at)), small 11 (omega (arith, at)), small 12 (omega (arith, at)));
  }

  moved-14 : count ≡ 14 → IsMoved lanes 14 behind
  moved-14 at = record {
    digits = 0 ∷ 0 ∷ get_or lanes 8 0 ∷ get_or lanes 9 0 ∷ get_or lanes 10 0 ∷ get_or lanes 11 0 ∷ get_or lanes 12 0 ∷ get_or lanes 13 0 ∷ [];
    holds =
        eight-held 0 0 (get_or lanes 8 0) (get_or lanes 9 0) (get_or lanes 10 0) (get_or lanes 11 0) (get_or lanes 12 0) (get_or lanes 13 0) (behind * 65536 % 18446744073709551616)
        (omega arith) (omega arith) (small 8 (omega (arith, at))) (small 9 (omega (arith, at))) (small 10 (omega (arith, at))) (small 11 (omega (arith, at))) (small 12 (omega (arith, at))) (small 13 (omega (arith, at)))
        (drop_high (behind * 65536) (0 + 256 * (0 + 256 * (get_or lanes 8 0 + 256 * (get_or lanes 9 0 + 256 * (get_or lanes 10 0 + 256 * (get_or lanes 11 0 + 256 * (get_or lanes 12 0 + 256 * (get_or lanes 13 0)))))))) (get_or lanes 14 0 + 256 * (get_or lanes 15 0)) (omega (arith, small 8 (omega (arith, at)), small 9 (omega (arith, at)), small 10 (omega (arith, at)), small 11 (omega (arith, at)), small 12 (omega (arith, at)), small 13 (omega (arith, at)))) (omega arith));
    written = omega (arith, more 8 (omega arith), more 9 (omega arith), more 10 (omega arith), more 11 (omega arith), more 12 (omega arith), more 13 (omega arith));
    few = omega (arith, eight-few, more 8 (omega arith), more 9 (omega arith), more 10 (omega arith), more 11 (omega arith), more 12 (omega arith), more 13 (omega arith), small 8 (omega (arith, at)), small 9 (omega (arith, at)), small 10 (omega (arith, at)), small 11 (omega (arith, at)), small 12 (omega (arith, at)), small 13 (omega (arith, at)));
  }

  moved-15 : count ≡ 15 → IsMoved lanes 15 behind
  moved-15 at = record {
    digits = 0 ∷ get_or lanes 8 0 ∷ get_or lanes 9 0 ∷ get_or lanes 10 0 ∷ get_or lanes 11 0 ∷ get_or lanes 12 0 ∷ get_or lanes 13 0 ∷ get_or lanes 14 0 ∷ [];
    holds =
        eight-held 0 (get_or lanes 8 0) (get_or lanes 9 0) (get_or lanes 10 0) (get_or lanes 11 0) (get_or lanes 12 0) (get_or lanes 13 0) (get_or lanes 14 0) (behind * 256 % 18446744073709551616)
        (omega arith) (small 8 (omega (arith, at))) (small 9 (omega (arith, at))) (small 10 (omega (arith, at))) (small 11 (omega (arith, at))) (small 12 (omega (arith, at))) (small 13 (omega (arith, at))) (small 14 (omega (arith, at)))
        (drop_high (behind * 256) (0 + 256 * (get_or lanes 8 0 + 256 * (get_or lanes 9 0 + 256 * (get_or lanes 10 0 + 256 * (get_or lanes 11 0 + 256 * (get_or lanes 12 0 + 256 * (get_or lanes 13 0 + 256 * (get_or lanes 14 0)))))))) (get_or lanes 15 0) (omega (arith, small 8 (omega (arith, at)), small 9 (omega (arith, at)), small 10 (omega (arith, at)), small 11 (omega (arith, at)), small 12 (omega (arith, at)), small 13 (omega (arith, at)), small 14 (omega (arith, at)))) (omega arith));
    written = omega (arith, more 8 (omega arith), more 9 (omega arith), more 10 (omega arith), more 11 (omega arith), more 12 (omega arith), more 13 (omega arith), more 14 (omega arith));
    few = omega (arith, eight-few, more 8 (omega arith), more 9 (omega arith), more 10 (omega arith), more 11 (omega arith), more 12 (omega arith), more 13 (omega arith), more 14 (omega arith), small 8 (omega (arith, at)), small 9 (omega (arith, at)), small 10 (omega (arith, at)), small 11 (omega (arith, at)), small 12 (omega (arith, at)), small 13 (omega (arith, at)), small 14 (omega (arith, at)));
  }

  pub moved : IsMoved lanes count behind
  moved =
      elim (cases_eq count 9) [
        | inl at ↦ subst (λ n. IsMoved lanes n behind) (sym at) (moved-9 at)
        | inr not-9 ↦
            elim (cases_eq count 10) [
              | inl at ↦ subst (λ n. IsMoved lanes n behind) (sym at) (moved-10 at)
              | inr not-10 ↦
                  elim (cases_eq count 11) [
                    | inl at ↦ subst (λ n. IsMoved lanes n behind) (sym at) (moved-11 at)
                    | inr not-11 ↦
                        elim (cases_eq count 12) [
                          | inl at ↦ subst (λ n. IsMoved lanes n behind) (sym at) (moved-12 at)
                          | inr not-12 ↦
                              elim (cases_eq count 13) [
                                | inl at ↦ subst (λ n. IsMoved lanes n behind) (sym at) (moved-13 at)
                                | inr not-13 ↦
                                    elim (cases_eq count 14) [
                                      | inl at ↦ subst (λ n. IsMoved lanes n behind) (sym at) (moved-14 at)
                                      | inr not-14 ↦
                                          let at : count ≡ 15 = omega (arith, many, few, not-9, not-10, not-11, not-12, not-13, not-14) in subst (λ n. IsMoved lanes n behind) (sym at) (moved-15 at)
                                    ]
                              ]
                        ]
                  ]
            ]
      ]
