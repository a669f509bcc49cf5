-- How reads, and what is said, add up.
use Rattle.std.proofs.Common.{◌≡◌, ◌∙◌, ℕ, ◌+◌, ◌-◌, ◌≤◌, ◌++◌, List, [], length, take, drop, Option, Some, None, refl, ap, sym, arith, append_assoc, length-append}
use Rattle.std.proofs.lemmas.List.{append-nil}
use Rattle.std.proofs.Math.Seq.{take-add, take-append_seam, take-length}
use Rattle.std.proofs.lemmas.List.{length-take-le, length-drop}
use Rattle.std.specs.Option.{MatchOption, IsSomeAnd}
use Rattle.escrow_desk.specs.Content.{Told, Said, Given, PartOf, file_of}

-- these bytes are a prefix of the file, and with any byte the file is there
abbrev pub IsFront : Told → List ℕ → List ℕ → Type 0
IsFront told name bytes = MatchOption told (Unit {0}) (λ content. MatchOption (file_of content name) (bytes ≡ []) (λ file. (bytes ≡ take (length bytes) file) × (length bytes ≤ length file)))

pub said_none : (t : Told) (bytes : List ℕ) → Said t 0 bytes t
said_none None bytes = refl
said_none (Some c) bytes = ap (λ s. Some (record c { said = s })) (sym (append-nil c.said))

pub said_more : (t₀ t₁ t₂ : Told) (bytes : List ℕ) (k n : ℕ) → Said t₀ k bytes t₁ → Said t₁ n (drop k bytes) t₂ → Said t₀ (k + n) bytes t₂
said_more None t₁ t₂ bytes k n a b = rw a at b
said_more (Some c) t₁ t₂ bytes k n a b =
    (rw a at b) ∙ ap (λ s. Some (record c { said = s })) (append_assoc c.said (take k bytes) (take n (drop k bytes)) ∙ ap (λ s. c.said ++ s) (sym (take-add k n bytes)))

part_more : (file bs old new : List ℕ) (n : ℕ) → bs ≡ take (length bs) file → length bs ≤ length file → PartOf file (length bs) old n new
    → (bs ++ take n new ≡ take (length (bs ++ take n new)) file) × (length (bs ++ take n new) ≤ length file)
part_more file bs old new n front whole p =
    let fits : n ≤ length (drop (length bs) file) = omega (arith, length-drop (length bs) file, p.within) in
    let long : length (take n (drop (length bs) file)) ≡ n = length-take-le n (drop (length bs) file) fits in
    let part : take n new ≡ take n (drop (length bs) file) =
    ap (take n) p.bytes ∙ ap (λ k. take k (take n (drop (length bs) file) ++ drop n old)) (sym long) ∙ take-append_seam (take n (drop (length bs) file)) (drop n old) in
    let size : length (bs ++ take n new) ≡ length bs + n = length-append bs (take n new) ∙ ap (λ s. length bs + length s) part ∙ ap (λ k. length bs + k) long in
    (ap (λ s. bs ++ s) part ∙ ap (λ s. s ++ take n (drop (length bs) file)) front ∙ sym (take-add (length bs) n file) ∙ ap (λ k. take k file) (sym size), omega (arith, p.within))

front_file : (o : Option (List ℕ)) (bs old new : List ℕ) (n : ℕ) → MatchOption o (bs ≡ []) (λ file. (bs ≡ take (length bs) file) × (length bs ≤ length file))
    → IsSomeAnd o (λ file. PartOf file (length bs) old n new)
    → MatchOption o (bs ++ take n new ≡ []) (λ file. (bs ++ take n new ≡ take (length (bs ++ take n new)) file) × (length (bs ++ take n new) ≤ length file))
front_file None bs old new n f p = absurd p
front_file (Some file) bs old new n f p = part_more file bs old new n f.0 f.1 p

-- a front part of the file with the part that a read gave
pub front_more : (t : Told) (name bs old new : List ℕ) (n : ℕ) → IsFront t name bs → Given t name (length bs) old n new → IsFront t name (bs ++ take n new)
front_more None name bs old new n f p = tt
front_more (Some c) name bs old new n f p = front_file (file_of c name) bs old new n f p

-- what `&bytes[k..]` is
pub rest_whole : (k : ℕ) (bytes : List ℕ) → take (length bytes - k) (drop k bytes) ≡ drop k bytes
rest_whole k bytes = ap (λ n. take n (drop k bytes)) (sym (length-drop k bytes)) ∙ take-length (drop k bytes)

pub said_rest : (t₀ t₁ t₂ : Told) (bytes : List ℕ) (k n : ℕ) → Said t₀ k bytes t₁ → Said t₁ n (take (length bytes - k) (drop k bytes)) t₂ → Said t₀ (k + n) bytes t₂
said_rest t₀ t₁ t₂ bytes k n a b = said_more t₀ t₁ t₂ bytes k n a (rw (rest_whole k bytes) at b)
