-- Lanes of bytes, which are digits.
use Rattle.std.proofs.Common.{◌≡◌, ◌∙◌, ℕ, map, subst, length-take, replicate, cond, ltb, ltb-false, w8, ◌-◌, ◌+◌, ◌%◌, ◌^◌, ◌<◌, ◌≤◌, Bool, not, List, [], ◌∷◌, All, length, take, get_or, Some, refl, sym, ap, arith, inl, inr}
use Rattle.std.specs.Char.{digit_value}
use Rattle.std.specs.Int.Digits.{number_from_digits}
use Rattle.std.specs.List.{prefix_len}
use Rattle.std.specs.Str.Parse.{digits_value}
use lib.Count.{count_trailing_zeros}
use lib.Lanes.{mask_l, top, zip2}
use Rattle.std.proofs.lemmas.Bool.{cases_eq, not-true}
use Rattle.std.proofs.lemmas.Int.Digits.{digits_value_is}
use Rattle.std.proofs.lemmas.List.{get_or-take, length-map, take-map, take-take}
use Rattle.std.proofs.lemmas.List.Elements.{All-cons, All-head, All-nil, All-tail, All-take}
use Rattle.std.proofs.lemmas.List.Sums.{prefix_len-le-length, prefix_len_passes}
use Rattle.std.proofs.lemmas.Simd.{mask_l-mod, tops_compared, trailing_mask_l, zip2_splat, zip2_splat_left}
use Rattle.std.proofs.lemmas.Str.{digit_value_digit}
use Rattle.line_words.specs.declared.digits.Digits.{Digits}
use Rattle.line_words.specs.Digits.{IsFirstNumber}
use Rattle.line_words.proofs.DigitFacts.{Digit}
use Rattle.line_words.proofs.NumberFacts.{digits-written}

-- the mask of the lanes that aren't digits
abbrev others : List ℕ → ℕ
others lanes = mask_l (map (top 7) (zip2 (λ a b. cond (ltb a b) 255 0) (replicate 16 9) lanes)) % 2 ^ 64

masked : (lanes : List ℕ) → length lanes ≡ 16 → others lanes ≡ mask_l (map (λ x. ltb 9 x) lanes)
masked lanes long =
    ap (λ (ms : List Bool). mask_l ms % 2 ^ 64) (tops_compared w8 ltb (replicate 16 9) lanes ∙ zip2_splat_left ltb 9 16 lanes long)
    ∙ mask_l-mod (map (λ x. ltb 9 x) lanes) 64 (omega (arith, length-map lanes (λ x. ltb 9 x), long))

nothing : count_trailing_zeros 64 0 ≡ 64
unfolding count_trailing_zeros
nothing = refl

-- where some lane isn't a digit, those before the first of them are
pub leading : (lanes : List ℕ) → length lanes ≡ 16 → count_trailing_zeros 64 (others lanes) < 16 → All (λ digit. digit ≤ 9) (take (count_trailing_zeros 64 (others lanes)) lanes)
leading lanes long few =
    elim (cases_eq (mask_l (map (λ x. ltb 9 x) lanes)) 0) [
      | inl none ↦ absurd (omega (arith, few, ap (λ n. count_trailing_zeros 64 n) (masked lanes long ∙ none), nothing))
      | inr some ↦
          let counted : count_trailing_zeros 64 (others lanes) ≡ prefix_len (λ x. not (ltb 9 x)) lanes =
          ap (λ n. count_trailing_zeros 64 n) (masked lanes long) ∙ trailing_mask_l (λ x. ltb 9 x) 64 lanes (omega (arith, long)) (omega (arith, some)) in
          subst (λ n. All (λ digit. digit ≤ 9) (take n lanes)) (sym counted)
          (λ k d inside.
          let before : k < prefix_len (λ x. not (ltb 9 x)) lanes = omega (arith, inside, length-take (prefix_len (λ x. not (ltb 9 x)) lanes) lanes, prefix_len-le-length (λ x. not (ltb 9 x)) lanes) in
          subst (λ n. n ≤ 9) (sym (get_or-take (prefix_len (λ x. not (ltb 9 x)) lanes) lanes k d before))
          (ltb-false 9 (get_or lanes k d) (not-true (ltb 9 (get_or lanes k d)) (prefix_len_passes (λ x. not (ltb 9 x)) lanes k d before))))
    ]

-- ---- bytes without the zero's
abbrev pub less : ℕ → ℕ → ℕ
less a b = (a + (2 ^ 8 - b)) % 2 ^ 8

-- a byte that is at most nine above the zero's is a digit, and that is what it writes
digit_lane : (byte : ℕ) → byte < 256 → less byte 48 ≤ 9 → Digit byte × (less byte 48 ≡ digit_value byte)
digit_lane byte fits small =
    let least : 48 ≤ byte = omega (arith, fits, small) in
    let most : byte ≤ 57 = omega (arith, fits, small) in
    (grind (arith, least, most), omega (arith, least, most, digit_value_digit byte (least, most)))

digit_lanes : (bytes : List ℕ) → All (λ byte. byte < 256) bytes → All (λ digit. digit ≤ 9) (map (λ x. less x 48) bytes) → All Digit bytes × (map (λ x. less x 48) bytes ≡ map digit_value bytes)
digit_lanes [] fit small = (All-nil Digit, refl)
digit_lanes (byte ∷ bytes) fit small =
    let own = digit_lane byte (All-head (λ b. b < 256) byte bytes fit) (All-head (λ d. d ≤ 9) (less byte 48) (map (λ x. less x 48) bytes) small) in
    let rest = digit_lanes bytes (All-tail (λ b. b < 256) byte bytes fit) (All-tail (λ d. d ≤ 9) (less byte 48) (map (λ x. less x 48) bytes) small) in
    (All-cons Digit byte bytes own.0 rest.0, ap (λ (n : ℕ). n ∷ map (λ x. less x 48) bytes) own.1 ∙ ap (λ (ns : List ℕ). digit_value byte ∷ ns) rest.1)

-- lanes that lead, of the first bytes of a piece, are those of its first bytes
lead : (piece : List ℕ) (count : ℕ) → 16 ≤ length piece → count < 16 → take count (zip2 less (take 16 piece) (replicate 16 48)) ≡ map (λ x. less x 48) (take count piece)
lead piece count long few =
    ap (take count) (zip2_splat less (take 16 piece) 16 48 (omega (arith, length-take 16 piece, long)))
    ∙ take-map (λ x. less x 48) count (take 16 piece) ∙ ap (map (λ x. less x 48)) (take-take count 16 piece (omega (arith, few)))

-- fewer than sixteen digits at the front of a piece, the first of them above 0, by their lanes
pub lanes-number : (piece : List ℕ) (digits : Digits) → 16 ≤ length piece → All (λ byte. byte < 256) piece → (get_or piece 0 0 ≡ 48 → ⊥) → 0 < digits.count → digits.count < 16
    → All (λ digit. digit ≤ 9) (take digits.count (zip2 less (take 16 piece) (replicate 16 48)))
    → digits.number ≡ number_from_digits 10 (take digits.count (zip2 less (take 16 piece) (replicate 16 48))) → digits.number < 1000000000000000 → IsFirstNumber piece digits
lanes-number piece digits long fit above some few each written small =
    let count : ℕ = digits.count in
    let same = lead piece count long few in
    let both = digit_lanes (take count piece) (All-take (λ byte. byte < 256) count piece fit) (subst (All (λ digit. digit ≤ 9)) same each) in
    let value : digits.number ≡ digits_value 10 (take count piece) =
    written ∙ ap (number_from_digits 10) (same ∙ both.1) ∙ sym (digits_value_is 10 (take count piece)) in
    let first : get_or (take count piece) 0 0 ≡ get_or piece 0 0 = get_or-take count piece 0 0 some in
    record {
      within = omega (arith, few, long);
      is =
          digits-written (take count piece) both.0 (omega (arith, length-take count piece, some, few, long)) (λ zero. absurd (above (sym first ∙ zero))) (omega (arith, value, small))
          ∙ ap (λ (n : ℕ). Some n) (sym value);
    }
