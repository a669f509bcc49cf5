-- Files in a list, as a map.
use Rattle.std.proofs.Common.{take, drop, ◌-◌, ◌≡◌, ◌≢◌, ◌∙◌, ℕ, zero, suc, ◌+◌, ◌<◌, List, [], ◌∷◌, ◌++◌, length, get_or, set, map, Option, Some, None, Bool, true, false, cond, refl, sym, ap, arith, string_bytes, inl, inr}
use Rattle.std.specs.Ordering.{nat_cmp, eq_by_cmp}
use Rattle.std.specs.Cmp.Lexicographic.{slice_cmp, nat_list_cmp_total}
use Rattle.std.specs.FinMap.{find, get, insert, get-insert, get-from_entries, same_map, from_entries, from_entries_push, slice_cmp-IsAntisymmetric, nat_cmp-IsAntisymmetric}
use Rattle.std.proofs.lemmas.Map.Text.{is_eq-slice_cmp}
use Rattle.std.proofs.lemmas.Slice.Eq.{bytes_eq-Decides}
use Rattle.std.proofs.lemmas.Bool.{false_from_ne_true, cases_Bool}
use Rattle.escrow_desk.specs.declared.named.NamedBytes.{NamedBytes}
use Rattle.std.proofs.lemmas.List.{map-append}
use Rattle.std.proofs.Math.Seq.{take-add}
use Rattle.escrow_desk.specs.Content.{Files, Told, Wrote, Appended}
use Rattle.escrow_desk.proofs.ContentFacts.{rest_whole}
use Rattle.escrow_desk.specs.NamedFiles.{entry_of, files_of}

-- whether two names are one
abbrev is_name : List ℕ → List ℕ → Bool
is_name = eq_by_cmp (slice_cmp nat_cmp)

same_name : (p q : List ℕ) → p ≡ q → is_name p q ≡ true
same_name p q e = is_eq-slice_cmp p q ∙ (bytes_eq-Decides p q).1 e

other_name : (p q : List ℕ) → p ≢ q → is_name p q ≡ false
other_name p q n = is_eq-slice_cmp p q ∙ false_from_ne_true _ (λ t. n ((bytes_eq-Decides p q).0 t))

name_of : (p q : List ℕ) → is_name p q ≡ true → p ≡ q
name_of p q t = (bytes_eq-Decides p q).0 (sym (is_eq-slice_cmp p q) ∙ t)

pub get-files : (fs : List NamedBytes) (q : List ℕ) → get (files_of fs) q ≡ find (slice_cmp nat_cmp) q (map entry_of fs)
get-files fs q = get-from_entries nat_list_cmp_total (map entry_of fs) q

find_none : (fs : List NamedBytes) (q : List ℕ) → ((j : ℕ) (d : NamedBytes) → j < length fs → string_bytes (get_or fs j d).name ≢ q) → find (slice_cmp nat_cmp) q (map entry_of fs) ≡ None
find_none [] q h = refl
find_none (f ∷ fs) q h = rw (other_name q (string_bytes f.name) (λ e. h 0 f (omega arith) (sym e))) (find_none fs q (λ j d lt. h (suc j) d (omega arith)))

find_place : (fs : List NamedBytes) (q : List ℕ) (i : ℕ) (d : NamedBytes) → i < length fs → string_bytes (get_or fs i d).name ≡ q
    → ((j : ℕ) (d : NamedBytes) → j < i → string_bytes (get_or fs j d).name ≢ q) → find (slice_cmp nat_cmp) q (map entry_of fs) ≡ Some (get_or fs i d).bytes.items
find_place [] q i d lt e h = absurd (omega arith)
find_place (f ∷ fs) q zero d lt e h = rw (same_name q (string_bytes f.name) (sym e)) refl
find_place (f ∷ fs) q (suc i) d lt e h = rw (other_name q (string_bytes f.name) (λ a. h 0 f (omega arith) (sym a))) (find_place fs q i d (omega arith) e (λ j k lt. h (suc j) k (omega arith)))

pub get_none : (fs : List NamedBytes) (q : List ℕ) → ((j : ℕ) (d : NamedBytes) → j < length fs → string_bytes (get_or fs j d).name ≢ q) → get (files_of fs) q ≡ None
get_none fs q h = get-files fs q ∙ find_none fs q h

pub get_place : (fs : List NamedBytes) (q : List ℕ) (i : ℕ) (d : NamedBytes) → i < length fs → string_bytes (get_or fs i d).name ≡ q
    → ((j : ℕ) (d : NamedBytes) → j < i → string_bytes (get_or fs j d).name ≢ q) → get (files_of fs) q ≡ Some (get_or fs i d).bytes.items
get_place fs q i d lt e h = get-files fs q ∙ find_place fs q i d lt e h

-- a file that takes another's place under its name
find-set : (fs : List NamedBytes) (n : List ℕ) (i : ℕ) (d new : NamedBytes) (q : List ℕ) → i < length fs → string_bytes (get_or fs i d).name ≡ n
    → ((j : ℕ) (d : NamedBytes) → j < i → string_bytes (get_or fs j d).name ≢ n) → string_bytes new.name ≡ n
    → find (slice_cmp nat_cmp) q (map entry_of (set fs i new)) ≡ cond (is_name q n) (Some new.bytes.items) (find (slice_cmp nat_cmp) q (map entry_of fs))
find-set [] n i d new q lt e h a = absurd (omega arith)
find-set (f ∷ fs) n zero d new q lt e h a =
    elim (cases_Bool (is_name q n)) [
      | inl t ↦ rw (a, t) refl
      | inr u ↦ rw (a, e, u) refl
    ]
find-set (f ∷ fs) n (suc i) d new q lt e h a =
    elim (cases_Bool (is_name q (string_bytes f.name))) [
      | inl t ↦ let apart : q ≢ n = λ same. h 0 f (omega arith) (sym (name_of q (string_bytes f.name) t) ∙ same) in rw (t, other_name q n apart) refl
      | inr u ↦ rw u (find-set fs n i d new q (omega arith) e (λ j k lt. h (suc j) k (omega arith)) a)
    ]

pub files-set : (fs : List NamedBytes) (n : List ℕ) (i : ℕ) (d new : NamedBytes) → i < length fs → string_bytes (get_or fs i d).name ≡ n
    → ((j : ℕ) (d : NamedBytes) → j < i → string_bytes (get_or fs j d).name ≢ n) → string_bytes new.name ≡ n
    → files_of (set fs i new) ≡ insert (files_of fs) n new.bytes.items
files-set fs n i d new lt e h a = same_map nat_list_cmp_total (slice_cmp-IsAntisymmetric nat_cmp-IsAntisymmetric) _ _ (λ q.
    get-files (set fs i new) q ∙ find-set fs n i d new q lt e h a
    ∙ sym (get-insert nat_list_cmp_total (files_of fs) n new.bytes.items q ∙ ap (cond (is_name q n) (Some new.bytes.items)) (get-files fs q)))

-- to write what is there changes nothing
pub insert_same : (m : Files) (n v : List ℕ) → get m n ≡ Some v → insert m n v ≡ m
insert_same m n v e = same_map nat_list_cmp_total (slice_cmp-IsAntisymmetric nat_cmp-IsAntisymmetric) _ _ (λ q.
    get-insert nat_list_cmp_total m n v q ∙ elim (cases_Bool (is_name q n)) [
      | inl t ↦ rw (t, name_of q n t, e) refl
      | inr u ↦ rw u refl
    ])

-- a new file at the end
pub files-push : (fs : List NamedBytes) (n : List ℕ) (new : NamedBytes) → get (files_of fs) n ≡ None → string_bytes new.name ≡ n
    → files_of (fs ++ new ∷ []) ≡ insert (files_of fs) n new.bytes.items
files-push fs n new none a =
    ap from_entries (map-append entry_of fs (new ∷ []) ∙ ap (λ k. map entry_of fs ++ (k, new.bytes.items) ∷ []) a)
    ∙ from_entries_push nat_list_cmp_total (slice_cmp-IsAntisymmetric nat_cmp-IsAntisymmetric) (map entry_of fs) n new.bytes.items (sym (get-files fs n) ∙ none)

pub get_inserted : (m : Files) (n v : List ℕ) → get (insert m n v) n ≡ Some v
get_inserted m n v = get-insert nat_list_cmp_total m n v n ∙ rw (same_name n n refl) refl

-- a file of another name stays
pub get_other : (m : Files) (n v q : List ℕ) → q ≢ n → get (insert m n v) q ≡ get m q
get_other m n v q apart = get-insert nat_list_cmp_total m n v q ∙ rw (other_name q n apart) refl

pub insert_twice : (m : Files) (n v w : List ℕ) → insert (insert m n v) n w ≡ insert m n w
insert_twice m n v w = same_map nat_list_cmp_total (slice_cmp-IsAntisymmetric nat_cmp-IsAntisymmetric) _ _ (λ q.
    get-insert nat_list_cmp_total (insert m n v) n w q ∙ ap (cond (is_name q n) (Some w)) (get-insert nat_list_cmp_total m n v q)
    ∙ shadow (is_name q n) (Some w) (Some v) (get m q) ∙ sym (get-insert nat_list_cmp_total m n w q))
  where
    shadow : (b : Bool) (x y z : Option (List ℕ)) → cond b x (cond b y z) ≡ cond b x z
    shadow true x y z = refl
    shadow false x y z = refl

pub wrote_rest : (t₀ t₁ t₂ : Told) (name bytes : List ℕ) (k n : ℕ) → Wrote t₀ name k bytes t₁ → Appended t₁ name n (take (length bytes - k) (drop k bytes)) t₂ → Wrote t₀ name (k + n) bytes t₂
wrote_rest None t₁ t₂ name bytes k n a b = rw a at b
wrote_rest (Some c) t₁ t₂ name bytes k n a b =
    (rw (a, get_inserted, rest_whole k bytes) at b) ∙ ap (λ m. Some (record c { files = m }))
    (insert_twice c.files name (take k bytes) (take k bytes ++ take n (drop k bytes)) ∙ ap (insert c.files name) (sym (take-add k n bytes)))
