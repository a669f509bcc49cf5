-- A number at the front of bytes, behind which a space stands, or nothing.
use Rattle.std.proofs.Common.{◌≡◌, ◌∙◌, ℕ, suc, ◌+◌, ◌-◌, ◌<◌, false, List, [], ◌∷◌, ◌++◌, All, length, take, drop, drop-cons, get_or, refl, sym, ap, arith, Some, None, length-drop, slice_index_or, subst}
use Rattle.std.proofs.lemmas.List.{take-append-drop, take_all}
use Rattle.std.proofs.lemmas.List.Splits.{slice_split_at, slice_split_none}
use Rattle.line_words.specs.declared.digits.Digits.{Digits}
use Rattle.line_words.specs.Digits.{IsFirstNumber, IsFrontNumber}
use Rattle.line_words.specs.Words.{first_word, is_space, whole_number, words_of}
use Rattle.line_words.proofs.DigitFacts.{Digit}
use Rattle.line_words.proofs.NumberFacts.{number-digits}

no_space : (byte : ℕ) → Digit byte → is_space byte ≡ false
no_space byte h = grind (arith, h)

digit_word : (bytes : List ℕ) → All Digit bytes → All (λ byte. is_space byte ≡ false) bytes
digit_word bytes all i d inside = no_space (get_or bytes i d) (all i d inside)

-- all of the bytes
pub front-all : (bytes : List ℕ) (digits : Digits) → IsFirstNumber bytes digits → digits.count ≡ length bytes →
    IsFrontNumber bytes (record { number = digits.number; rest = None })
front-all bytes digits is all =
    let whole : take digits.count bytes ≡ bytes = take_all digits.count bytes (omega (arith, all)) in
    let one : words_of bytes ≡ bytes ∷ [] = slice_split_none is_space bytes (subst (λ (bs : List ℕ). All (λ byte. is_space byte ≡ false) bs) whole (digit_word (take digits.count bytes) (number-digits (take digits.count bytes) digits.number is.is))) in
    let first : first_word bytes ≡ bytes = ap (λ (ws : List (List ℕ)). slice_index_or ws 0 []) one in
    record {
      words = one ∙ ap (λ (w : List ℕ). w ∷ []) (sym first);
      number = ap whole_number (first ∙ sym whole) ∙ is.is;
    }

-- up to a space
pub front-space : (bytes : List ℕ) (digits : Digits) → IsFirstNumber bytes digits → digits.count < length bytes → get_or bytes digits.count 0 ≡ 32 →
    (words_of bytes ≡ first_word bytes ∷ words_of (take (length bytes - (digits.count + 1)) (drop (digits.count + 1) bytes)))
    × (whole_number (first_word bytes) ≡ Some digits.number)
front-space bytes digits is inside space =
    let count : ℕ = digits.count in
    let next : suc count ≡ count + 1 = omega arith in
    let behind : drop count bytes ≡ 32 ∷ drop (count + 1) bytes =
    drop-cons bytes count 0 inside ∙ ap (λ (b : ℕ). b ∷ drop (suc count) bytes) space ∙ ap (λ (k : ℕ). 32 ∷ drop k bytes) next in
    let parts : bytes ≡ take count bytes ++ 32 ∷ drop (count + 1) bytes = sym (take-append-drop count bytes) ∙ ap (λ (bs : List ℕ). take count bytes ++ bs) behind in
    let words : words_of bytes ≡ take count bytes ∷ words_of (drop (count + 1) bytes) =
    ap words_of parts ∙ slice_split_at is_space (take count bytes) 32 (drop (count + 1) bytes) (digit_word (take count bytes) (number-digits (take count bytes) digits.number is.is)) refl in
    let first : first_word bytes ≡ take count bytes = ap (λ (ws : List (List ℕ)). slice_index_or ws 0 []) words in
    let rest : take (length bytes - (count + 1)) (drop (count + 1) bytes) ≡ drop (count + 1) bytes =
    take_all (length bytes - (count + 1)) (drop (count + 1) bytes) (omega (arith, length-drop (count + 1) bytes)) in (
      words ∙ ap (λ (w : List ℕ). w ∷ words_of (drop (count + 1) bytes)) (sym first) ∙ ap (λ (bs : List ℕ). first_word bytes ∷ words_of bs) (sym rest),
      ap whole_number first ∙ is.is,
    )
