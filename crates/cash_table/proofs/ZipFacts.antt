-- Sums over lists and over the pairs of two lists, one after another.
use Rattle.std.proofs.Common.{◌≡◌, ℕ, ◌+◌, ◌<◌, ◌≤◌, List, [], ◌∷◌, Option, Some, None, refl, length, get_or, take, ap, arith}
use Rattle.std.proofs.iter.Yields.{fronts}
use Rattle.std.proofs.lemmas.Iterator.{zips}
use Rattle.std.specs.Iterator.{Yields}
use Rattle.std.specs.Iterator.Adapters.{zip_first, zip_second}
use Rattle.std.specs.Slice.Iter.{iter_rest}
use Rattle.std.specs.declared.iter.Zip.{Zip}
use Rattle.std.specs.declared.slice.Iter.{Iter}
use denote.Ref.{Bor}
use Rattle.std.specs.List.{All, sum_by, zip}
use Rattle.std.proofs.lemmas.List.Elements.{All-head, All-tail}
use Rattle.std.proofs.lemmas.List.Sums.{sum_by-cons, sum_by_more, sum_by_more_le}
use Rattle.std.proofs.lemmas.Slice.Zip.{length-zip, get_or-zip, zip_turn, zip_end}

-- a sum of nothings
pub sum_by-zero : {X : Type 0} (f : X → ℕ) (xs : List X) → All (λ x. f x ≡ 0) xs → sum_by f xs ≡ 0
sum_by-zero f [] none = refl
sum_by-zero f (x ∷ xs) none =
    omega (arith, sum_by-cons f x xs, All-head (λ y. f y ≡ 0) x xs none, sum_by-zero f xs (All-tail (λ y. f y ≡ 0) x xs none))

-- x and y stand at place i of two lists
pub record StandAt {A B : Type 0} (xs : List A) (ys : List B) (i : ℕ) (x : A) (y : B) : Type 0 where
  pub first_in : i < length xs
  pub second_in : i < length ys
  pub first : (d : A) → x ≡ get_or xs i d
  pub second : (d : B) → y ≡ get_or ys i d

pub in_zip : {A B : Type 0} (xs : List A) (ys : List B) (i : ℕ) (x : A) (y : B) → StandAt xs ys i x y → i < length (zip xs ys)
in_zip xs ys i x y s = omega (arith, length-zip xs ys, s.first_in, s.second_in)

pub pair_at : {A B : Type 0} (xs : List A) (ys : List B) (i : ℕ) (x : A) (y : B) → StandAt xs ys i x y → get_or (zip xs ys) i (x, y) ≡ (x, y)
pair_at xs ys i x y s =
    let first = s.first x in
    let second = s.second y in
    let at = get_or-zip xs ys i (x, y) s.first_in s.second_in in
    cc

-- the sum with one element more, which is within the whole sum
pub sum_by-at_more : {A : Type 0} (f : A → ℕ) (xs : List A) (i : ℕ) (x : A) → i < length xs → ((d : A) → x ≡ get_or xs i d) → sum_by f (take (i + 1) xs) ≡ sum_by f (take i xs) + f x
sum_by-at_more f xs i x within at =
    let more = sum_by_more f xs i x within in
    let same = ap f (at x) in
    omega (arith, more, same)

pub sum_by-at_room : {A : Type 0} (f : A → ℕ) (xs : List A) (i : ℕ) (x : A) → i < length xs → ((d : A) → x ≡ get_or xs i d) → sum_by f (take i xs) + f x ≤ sum_by f xs
sum_by-at_room f xs i x within at =
    let more = sum_by_more_le f xs i x within in
    let same = ap f (at x) in
    omega (arith, more, same)

-- the sum with one pair more, which is within the whole sum
pub sum_by-zip_more : {A B : Type 0} (f : A × B → ℕ) (xs : List A) (ys : List B) (i : ℕ) (x : A) (y : B) → StandAt xs ys i x y → sum_by f (take (i + 1) (zip xs ys)) ≡ sum_by f (take i (zip xs ys)) + f (x, y)
sum_by-zip_more f xs ys i x y s =
    let more = sum_by_more f (zip xs ys) i (x, y) (in_zip xs ys i x y s) in
    let same = ap f (pair_at xs ys i x y s) in
    omega (arith, more, same)

pub sum_by-zip_room : {A B : Type 0} (f : A × B → ℕ) (xs : List A) (ys : List B) (i : ℕ) (x : A) (y : B) → StandAt xs ys i x y → sum_by f (take i (zip xs ys)) + f (x, y) ≤ sum_by f (zip xs ys)
sum_by-zip_room f xs ys i x y s =
    let more = sum_by_more_le f (zip xs ys) i (x, y) (in_zip xs ys i x y s) in
    let same = ap f (pair_at xs ys i x y s) in
    omega (arith, more, same)

-- this iteration's pair of a loop over a zip of two slices
pub this_pair : {A B : Type 0} (xs : List A) (ys : List B) (done : List (Bor A × Bor B)) (s t u : Zip (Iter A) (Iter B)) (r : Option (Bor A × Bor B)) (p : Bor A × Bor B) → iter_rest (zip_first s) ≡ xs → iter_rest (zip_second s) ≡ ys → Yields (zips fronts fronts) s done t → r ≡ Some p → zips fronts fronts t r u → StandAt xs ys (length done) p.0.now p.1.now
this_pair xs ys done s t u r p first second yielded is step =
    let turn = zip_turn xs ys done s t u r first second yielded p is step in
    record { first_in = turn.0; second_in = turn.1; first = turn.2; second = turn.3 }

-- at the end of a loop over a zip of two slices every pair was there
pub all_pairs : {A B : Type 0} (xs : List A) (ys : List B) (done : List (Bor A × Bor B)) (s t u : Zip (Iter A) (Iter B)) (r : Option (Bor A × Bor B)) → iter_rest (zip_first s) ≡ xs → iter_rest (zip_second s) ≡ ys → Yields (zips fronts fronts) s done t → r ≡ None → zips fronts fronts t r u → length done ≡ length (zip xs ys)
all_pairs xs ys done s t u r first second yielded is step =
    let count = zip_end xs ys done s t u r first second yielded is step in
    omega (arith, count, length-zip xs ys)
