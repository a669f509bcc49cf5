-- Facts about lists that are kept as parts.
use Rattle.std.proofs.Common.{◌≡◌, ◌∙◌, ◌≤◌, ◌<◌, ◌-◌, ◌+◌, ℕ, zero, suc, get_or, List, [], ◌∷◌, ◌++◌, take, drop, length, refl, ap, arith, length-append, Some, None}
use Rattle.std.proofs.lemmas.List.{drop-append-le, length-drop, length-take-le, take-append-le, take_all, get_or-take, get_or-drop}
use Rattle.csv.specs.Records.{Rising, field_at, last_end, prev}
use Rattle.csv.proofs.RecordFacts.{field-bounds, last-append, rising-end, rising-first, rising-more}
use Rattle.escrow_desk.specs.Parts.{AreEnds, parts, parts_from}

pub length-parts : {A : Type 0} (start : ℕ) (ends : List ℕ) (xs : List A) → length (parts_from start ends xs) ≡ length ends
unfolding parts_from
length-parts start [] xs = refl
length-parts start (end ∷ ends) xs = ap suc (length-parts end ends xs)

-- a part that begins and ends within a list is the same part of a longer one
front_part : {A : Type 0} (start end : ℕ) (xs ys : List A) → start ≤ end → end ≤ length xs → take (end - start) (drop start (xs ++ ys)) ≡ take (end - start) (drop start xs)
front_part start end xs ys low high =
    let size = length-drop start xs in
    let fits : end - start ≤ length (drop start xs) = omega arith in
    rw (drop-append-le start xs ys (omega arith)) (take-append-le (end - start) (drop start xs) ys fits)

-- what is added after the last end is one more part
pub parts-push : {A : Type 0} (start : ℕ) (ends : List ℕ) (xs ys : List A) → Rising start ends (length xs) → last_end start ends ≡ length xs
    → parts_from start (ends ++ length (xs ++ ys) ∷ []) (xs ++ ys) ≡ parts_from start ends xs ++ ys ∷ []
unfolding parts_from Rising last_end
parts-push start [] xs ys rising last =
    let rest : drop start (xs ++ ys) ≡ ys = rw last (drop-append-le (length xs) xs ys (omega arith) ∙ ap (λ zs. zs ++ ys) (drop-whole xs)) in
    let size : length ys ≤ length (xs ++ ys) - start = omega (arith, length-append xs ys, last) in
    rw (rest, take_all (length (xs ++ ys) - start) ys size) refl
  where
    drop-whole : {A : Type 0} (xs : List A) → drop (length xs) xs ≡ []
    drop-whole [] = refl
    drop-whole (x ∷ xs) = drop-whole xs
parts-push start (end ∷ ends) xs ys rising last =
    let high = rising-first end ends (length xs) rising.1 in
    rw (front_part start end xs ys rising.0 high, parts-push end ends xs ys rising.1 last) refl

pub ends-push : (ends : List ℕ) (size more : ℕ) → AreEnds ends size → size ≤ more → AreEnds (ends ++ more ∷ []) more
ends-push ends size more are le = record {
  rising = rising-end 0 ends more (rising-more 0 ends size more are.rising le);
  last = last-append 0 ends more;
}

-- the part of a number lies between its start and its end
pub get_or-parts : {A : Type 0} (start : ℕ) (ends : List ℕ) (xs : List A) (i : ℕ) → i < length ends
    → get_or (parts_from start ends xs) i [] ≡ take (get_or ends i 0 - prev start ends i) (drop (prev start ends i) xs)
unfolding parts_from prev
get_or-parts start [] xs i lt = absurd (omega arith)
get_or-parts start (end ∷ ends) xs zero lt = refl
get_or-parts start (end ∷ ends) xs (suc i) lt = get_or-parts end ends xs i (omega arith)

-- and has as many items
pub length-part : {A : Type 0} (ends : List ℕ) (xs : List A) (i : ℕ) → Rising 0 ends (length xs) → i < length ends
    → length (get_or (parts ends xs) i []) ≡ get_or ends i 0 - prev 0 ends i
length-part ends xs i rising lt =
    let bounds = field-bounds 0 ends (length xs) i rising lt in
    let size = length-drop (prev 0 ends i) xs in
    let fits : get_or ends i 0 - prev 0 ends i ≤ length (drop (prev 0 ends i) xs) = omega (arith, size, bounds.0, bounds.1) in
    rw (get_or-parts 0 ends xs i lt) (length-take-le (get_or ends i 0 - prev 0 ends i) (drop (prev 0 ends i) xs) fits)

-- an item of a part is an item of the list
pub item-of-part : {A : Type 0} (ends : List ℕ) (xs : List A) (i j : ℕ) (d : A) → Rising 0 ends (length xs) → i < length ends → j < length (get_or (parts ends xs) i [])
    → (prev 0 ends i + j < length xs) × (get_or (get_or (parts ends xs) i []) j d ≡ get_or xs (prev 0 ends i + j) d)
item-of-part ends xs i j d rising lt less =
    let bounds = field-bounds 0 ends (length xs) i rising lt in
    let size = length-part ends xs i rising lt in
    let within : j < get_or ends i 0 - prev 0 ends i = omega (arith, size, less) in (
      omega (arith, within, bounds.0, bounds.1),
      rw (get_or-parts 0 ends xs i lt) (get_or-take (get_or ends i 0 - prev 0 ends i) (drop (prev 0 ends i) xs) j d within ∙ get_or-drop (prev 0 ends i) xs j d),
    )

pub no_ends : (ends : List ℕ) (size : ℕ) → ends ≡ [] → size ≡ 0 → AreEnds ends size
unfolding Rising last_end
no_ends ends size e z = rw (e, z) (record { rising = omega arith; last = refl })

pub no_parts : {A : Type 0} (ends : List ℕ) (xs : List A) → ends ≡ [] → parts ends xs ≡ []
unfolding parts_from
no_parts ends xs e = rw e refl

-- the first fields, and one more
pub take-field : (fields : List (List ℕ)) (i : ℕ) (field : List ℕ) → field_at fields i ≡ Some field → take (suc i) fields ≡ take i fields ++ field ∷ []
unfolding field_at
take-field [] i field e = absurd (cc e)
take-field (f ∷ fields) zero field e = let same : f ≡ field = cc e in rw same refl
take-field (f ∷ fields) (suc i) field e = ap (λ rest. f ∷ rest) (take-field fields i field e)

-- there is none past the last
pub take-fields : (fields : List (List ℕ)) (i : ℕ) → field_at fields i ≡ None → take i fields ≡ fields
unfolding field_at
take-fields [] zero e = refl
take-fields [] (suc i) e = refl
take-fields (f ∷ fields) zero e = absurd (cc e)
take-fields (f ∷ fields) (suc i) e = ap (λ rest. f ∷ rest) (take-fields fields i e)
