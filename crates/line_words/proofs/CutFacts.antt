-- Bytes up to a mark.
use Rattle.std.proofs.Common.{◌≡◌, ◌∙◌, ℕ, ◌+◌, ◌-◌, ◌<◌, ◌≤◌, Bool, true, false, ◌==◌, cond, List, [], ◌∷◌, length, take, drop, get_or, All, refl, sym, ap, arith, Option, Some, None, position, nat_lt, not, length-drop}
use Rattle.std.specs.List.{position_or_len, slice_split}
use Rattle.std.proofs.lemmas.List.{take_all}
use Rattle.std.proofs.lemmas.List.Splits.{slice_split_first, slice_split_none}
use Rattle.std.proofs.lemmas.List.Sums.{position_or_len_is, prefix_len_passes}
use Rattle.memchr.specs.Find.{IsFirstByte}

-- bytes in which a mark stands
some_by : (p : ℕ → Bool) (bytes : List ℕ) (place : ℕ) (b : Bool) → nat_lt (position_or_len p bytes) (length bytes) ≡ b →
    cond b (Some (position_or_len p bytes)) None ≡ Some place → slice_split p bytes ≡ take place bytes ∷ slice_split p (drop (place + 1) bytes)
some_by p bytes place false e h = absurd (cc)
some_by p bytes place true e h =
    let same : position_or_len p bytes ≡ place = cc in
    let inside : position_or_len p bytes < length bytes = grind (arith, e) in
    slice_split_first p bytes 0 inside ∙ ap (λ (k : ℕ). take k bytes ∷ slice_split p (drop (k + 1) bytes)) same

pub cut_some : (mark : ℕ) (bytes : List ℕ) (place : ℕ) → position (λ byte. byte == mark) bytes ≡ Some place →
    slice_split (λ byte. byte == mark) bytes ≡ take place bytes ∷ slice_split (λ byte. byte == mark) (take (length bytes - (place + 1)) (drop (place + 1) bytes))
cut_some mark bytes place h =
    let p : ℕ → Bool = λ byte. byte == mark in
    some_by p bytes place _ refl h
    ∙ ap (λ (rest : List ℕ). take place bytes ∷ slice_split p rest) (sym (take_all (length bytes - (place + 1)) (drop (place + 1) bytes) (omega (arith, length-drop (place + 1) bytes))))

-- bytes in which none stands
not_yes : (b : Bool) → not b ≡ true → b ≡ false
not_yes true h = absurd (cc)
not_yes false h = refl

none_at : (p : ℕ → Bool) (bytes : List ℕ) (b : Bool) → nat_lt (position_or_len p bytes) (length bytes) ≡ b → cond b (Some (position_or_len p bytes)) None ≡ None →
    length bytes ≤ position_or_len p bytes
none_at p bytes true e h = absurd (cc)
none_at p bytes false e h = grind (arith, e)

none_here : (p : ℕ → Bool) (bytes : List ℕ) → length bytes ≤ position_or_len p bytes → All (λ byte. p byte ≡ false) bytes
none_here p bytes h i d inside = not_yes _ (prefix_len_passes (λ x. not (p x)) bytes i d (omega (arith, inside, h)))

pub cut_none : (mark : ℕ) (bytes : List ℕ) → position (λ byte. byte == mark) bytes ≡ None → slice_split (λ byte. byte == mark) bytes ≡ bytes ∷ []
cut_none mark bytes h = slice_split_none (λ byte. byte == mark) bytes (none_here (λ byte. byte == mark) bytes (none_at (λ byte. byte == mark) bytes _ refl h))

-- where a mark first stands
pub first_place : (p : ℕ → Bool) (bytes : List ℕ) (place : ℕ) → place < length bytes → ((k : ℕ) → k < place → p (get_or bytes k 0) ≡ false) →
    p (get_or bytes place 0) ≡ true → position p bytes ≡ Some place
first_place p bytes place inside before here =
    let at : position_or_len p bytes ≡ place = position_or_len_is p bytes place 0 (omega (arith, inside)) before (λ _. here) in
    let low : nat_lt place (length bytes) ≡ true = grind (arith, inside) in
    ap (λ (k : ℕ). cond (nat_lt k (length bytes)) (Some k) None) at ∙ ap (λ (b : Bool). cond b (Some place) None) low

pub no_place : (p : ℕ → Bool) (bytes : List ℕ) → ((k : ℕ) → k < length bytes → p (get_or bytes k 0) ≡ false) → position p bytes ≡ None
no_place p bytes none =
    let at : position_or_len p bytes ≡ length bytes = position_or_len_is p bytes (length bytes) 0 (omega arith) none (λ inside. absurd (omega (arith, inside))) in
    let high : nat_lt (length bytes) (length bytes) ≡ false = grind arith in
    ap (λ (k : ℕ). cond (nat_lt k (length bytes)) (Some k) None) at ∙ ap (λ (b : Bool). cond b (Some (length bytes)) None) high

not_true : (b : Bool) → (b ≡ true → ⊥) → b ≡ false
not_true true h = absurd (h refl)
not_true false h = refl

pub place-found : (p : ℕ → Bool) (bytes : List ℕ) (found : Option ℕ) → IsFirstByte p bytes found → found ≡ position p bytes
place-found p bytes None none = sym (no_place p bytes (λ k inside. not_true _ (none k (omega arith) inside)))
place-found p bytes (Some place) is = sym (first_place p bytes place is.0.high (λ k low. not_true _ (is.0.before k (omega arith) low)) is.1)
