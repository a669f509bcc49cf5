-- Facts about the records of a text.
use Rattle.csv.specs.Reading.{is_bom}
use Rattle.escrow_desk.specs.Sizes.{AreSmall}
use Rattle.std.proofs.lemmas.Bool.{cases_Bool}
use Rattle.std.proofs.Common.{get_or, ◌≡◌, ◌<◌, ◌≤◌, ◌+◌, ℕ, zero, suc, List, [], ◌∷◌, ◌++◌, Option, Some, None, Bool, true, false, refl, ap, length, arith, length-append, cond, inl, inr}
use Rattle.csv.specs.Machine.{next_record, Read, step, is_end, fields_after, field_after, ends_at_end}
use Rattle.csv.specs.Reading.{records_from, records_next, records, Reached, AreRecords, default_config, strip_bom}
use Rattle.csv.specs.declared.parser.Config.{Config}
use Rattle.csv.specs.declared.parser.State.{State}
use Rattle.csv.specs.declared.parser.State.TheVariants as st
use Rattle.csv.specs.declared.parser.Action.{Action}
use Rattle.csv.specs.declared.parser.Action.TheVariants as act

-- what a read leaves is no longer than n bytes
abbrev pub Leaves : ℕ → Option Read → Type 0
Leaves n None = Unit {0}
Leaves n (Some p) = length p.2 ≤ n

leaves-cond : (n : ℕ) (b : Bool) (x y : Option Read) → Leaves n x → Leaves n y → Leaves n (cond b x y)
leaves-cond n true x y hx hy = hx
leaves-cond n false x y hx hy = hy

leaves-more : (n : ℕ) (o : Option Read) → Leaves n o → Leaves (suc n) o
leaves-more n None h = tt
leaves-more n (Some p) h = omega arith

-- a read leaves no more than there was
leaves : (cfg : Config) (s : State) (fs : List (List ℕ)) (f xs : List ℕ) → Leaves (length xs) (next_record cfg s fs f xs)
unfolding next_record
leaves cfg s fs f [] = leaves-cond 0 (ends_at_end s) _ None (omega arith) tt
leaves cfg s fs f (c ∷ xs) =
    leaves-cond (suc (length xs)) (is_end (step cfg s c).1) _ _ (omega arith)
    (leaves-more (length xs) _ (leaves cfg (step cfg s c).0 (fields_after (step cfg s c).1 fs f) (field_after (step cfg s c).1 c f) xs))

-- and less, where there was a byte
leaves_less : (cfg : Config) (s : State) (fs : List (List ℕ)) (f : List ℕ) (c : ℕ) (xs : List ℕ) → Leaves (length xs) (next_record cfg s fs f (c ∷ xs))
unfolding next_record
leaves_less cfg s fs f c xs =
    leaves-cond (length xs) (is_end (step cfg s c).1) _ _ (omega arith)
    (leaves cfg (step cfg s c).0 (fields_after (step cfg s c).1 fs f) (field_after (step cfg s c).1 c f) xs)

-- at the end of a text a read leaves a reader that has no more
abbrev pub Finishes : Option Read → Type 0
Finishes None = Unit {0}
Finishes (Some p) = (p.1 ≡ st.StartRecord) × (p.2 ≡ [])

finishes-cond : (b : Bool) (p : Read) → p.1 ≡ st.StartRecord → p.2 ≡ [] → Finishes (cond b (Some p) None)
finishes-cond true p a b = (a, b)
finishes-cond false p a b = tt

finishes : (cfg : Config) (s : State) (fs : List (List ℕ)) (f : List ℕ) → Finishes (next_record cfg s fs f [])
unfolding next_record
finishes cfg s fs f = finishes-cond (ends_at_end s) (fs ++ (f ∷ []), st.StartRecord, []) refl refl

-- a bound on how many records are still read: each takes a byte, but for one that the end of the text ends
abbrev pub reads_left : State → Option (List ℕ) → ℕ
reads_left s None = 0
reads_left s (Some xs) = length xs + length xs + cond (ends_at_end s) 1 0

fewer_left : (s : State) (n k : ℕ) → k ≤ n → k + k + cond (ends_at_end s) 1 0 < suc n + suc n
fewer_left s n k le = elim (cases_Bool (ends_at_end s)) [
  | inl t ↦ rw t (omega arith)
  | inr f ↦ rw f (omega arith)
]

pub fewer_reads : (cfg : Config) (s : State) (xs : List ℕ) (p : Read) → next_record cfg s [] [] xs ≡ Some p → reads_left p.1 (Some p.2) < reads_left s (Some xs)
unfolding next_record
fewer_reads cfg s (c ∷ xs) p e =
    let less = rw e at (leaves_less cfg s [] [] c xs) in
    let few = fewer_left p.1 (length xs) (length p.2) less in
    omega (arith, few)
fewer_reads cfg s [] p e = elim (cases_Bool (ends_at_end s)) [
  | inl t ↦ let end = rw e at (finishes cfg s [] []) in rw (end.0, end.1, t) (omega arith)
  | inr f ↦ absurd (cc (rw f at e))
]

-- the records that reads gave in turn, up to a read that gave none, are the records of the text
reached_end : (cfg : Config) (n : ℕ) (rows : List (List (List ℕ))) (s2 : State) (ys : List ℕ)
    → Reached cfg st.StartRecord [] rows s2 ys → records_from cfg n st.StartRecord [] ≡ rows
unfolding Reached records_from next_record
reached_end cfg zero [] s2 ys h = refl
reached_end cfg (suc n) [] s2 ys h = refl
reached_end cfg n (r ∷ rows) s2 ys h = cc h.1

pub records_reached : (cfg : Config) (n : ℕ) (s : State) (xs : List ℕ) (rows : List (List (List ℕ))) (s2 : State) (ys : List ℕ)
    → length xs < n → Reached cfg s xs rows s2 ys → next_record cfg s2 [] [] ys ≡ None → records_from cfg n s xs ≡ rows
unfolding Reached records_from
records_reached cfg zero s xs rows s2 ys lt h e = absurd (omega arith)
records_reached cfg (suc n) s xs [] s2 ys lt h e = rw (h.0, h.1, e) refl
records_reached cfg (suc n) s [] (r ∷ rows) s2 ys lt h e =
    let end = rw h.1 at (finishes cfg s [] []) in
    rw (h.1, h.2) (ap (λ t. h.0.0 ∷ t) (rw (end.0, end.1) (reached_end cfg n rows s2 ys (rw (end.0, end.1) at h.3))))
records_reached cfg (suc n) s (c ∷ xs) (r ∷ rows) s2 ys lt h e =
    let less = rw h.1 at (leaves_less cfg s [] [] c xs) in
    rw (h.1, h.2) (ap (λ t. h.0.0 ∷ t) (records_reached cfg n h.0.1 h.0.2 rows s2 ys (omega arith) h.3 e))

pub records-are : (xs : List ℕ) (rows : List (List (List ℕ))) → AreRecords default_config st.StartRecord xs rows → records default_config xs ≡ rows
records-are xs rows h = records_reached default_config (length xs + 1) st.StartRecord xs rows h.0 h.1 (omega arith) h.2 h.3

-- a text of n bytes has at most n + 1 records
pub length-records_from : (cfg : Config) (n : ℕ) (s : State) (xs : List ℕ) → length (records_from cfg n s xs) ≤ n
unfolding records_from
length-records_from cfg zero s xs = omega arith
length-records_from cfg (suc n) s xs = next_length (next_record cfg s [] [] xs) (records_from cfg n) n (length-records_from cfg n)
  where
    next_length : (o : Option Read) (more : State → List ℕ → List (List (List ℕ))) (n : ℕ) → ((s : State) (xs : List ℕ) → length (more s xs) ≤ n) → length (records_next more o) ≤ suc n
    next_length None more n h = omega arith
    next_length (Some p) more n h = omega (arith, h p.1 p.2)

-- a record of a text of n bytes has at most n + 1 fields
abbrev pub Few : ℕ → Option Read → Type 0
Few n None = Unit {0}
Few n (Some p) = length p.0 ≤ n

few-cond : (n : ℕ) (b : Bool) (x y : Option Read) → Few n x → Few n y → Few n (cond b x y)
few-cond n true x y hx hy = hx
few-cond n false x y hx hy = hy

few-more : (m n : ℕ) (o : Option Read) → m ≤ n → Few m o → Few n o
few-more m n None le h = tt
few-more m n (Some p) le h = omega arith

length-fields_after : (a : Action) (fs : List (List ℕ)) (f : List ℕ) → length (fields_after a fs f) ≤ length fs + 1
length-fields_after act.EndField fs f = omega (arith, length-append fs (f ∷ []))
length-fields_after act.Skip fs f = omega arith
length-fields_after act.Copy fs f = omega arith
length-fields_after act.EndRecord fs f = omega (arith, length-append fs (f ∷ []))

few : (cfg : Config) (s : State) (fs : List (List ℕ)) (f xs : List ℕ) → Few (length fs + length xs + 1) (next_record cfg s fs f xs)
unfolding next_record
few cfg s fs f [] = few-cond _ (ends_at_end s) _ None (omega (arith, length-append fs (f ∷ []))) tt
few cfg s fs f (c ∷ xs) =
    let more = length-fields_after (step cfg s c).1 fs f in
    few-cond _ (is_end (step cfg s c).1) _ _ (omega (arith, more))
    (few-more (length (fields_after (step cfg s c).1 fs f) + length xs + 1) _ _ (omega (arith, more)) (few cfg (step cfg s c).0 (fields_after (step cfg s c).1 fs f) (field_after (step cfg s c).1 c f) xs))

width_next : (n : ℕ) (o : Option Read) (more : State → List ℕ → List (List (List ℕ))) (k : ℕ) → Few (n + 1) o → Leaves n o
    → ((s : State) (xs : List ℕ) (k : ℕ) → length (get_or (more s xs) k []) ≤ length xs + 1) → length (get_or (records_next more o) k []) ≤ n + 1
width_next n None more k f l h = omega arith
width_next n (Some p) more zero f l h = f
width_next n (Some p) more (suc k) f l h = omega (arith, h p.1 p.2 k)

pub widths : (cfg : Config) (n : ℕ) (s : State) (xs : List ℕ) (k : ℕ) → length (get_or (records_from cfg n s xs) k []) ≤ length xs + 1
unfolding records_from
widths cfg zero s xs k = omega arith
widths cfg (suc n) s xs k = width_next (length xs) (next_record cfg s [] [] xs) (records_from cfg n) k (few-more _ _ _ (omega arith) (few cfg s [] [] xs)) (leaves cfg s [] [] xs) (widths cfg n)

strip_short : (xs : List ℕ) → length (strip_bom xs) ≤ length xs
unfolding strip_bom
strip_short [] = omega arith
strip_short (a ∷ []) = omega arith
strip_short (a ∷ b ∷ []) = omega arith
strip_short (a ∷ b ∷ c ∷ xs) = shorter (is_bom a b c) xs (a ∷ b ∷ c ∷ xs) (omega arith)
  where
    shorter : (t : Bool) (ys zs : List ℕ) → length ys ≤ length zs → length (cond t ys zs) ≤ length zs
    shorter true ys zs h = h
    shorter false ys zs h = omega arith

pub records-small : (xs : List ℕ) → length xs ≤ 1048576 → AreSmall (records default_config (strip_bom xs))
records-small xs h = record {
  count = omega (arith, strip_short xs, length-records_from default_config (length (strip_bom xs) + 1) st.StartRecord (strip_bom xs));
  widths = λ k. omega (arith, strip_short xs, widths default_config (length (strip_bom xs) + 1) st.StartRecord (strip_bom xs) k);
}

-- a text without bytes has no records
pub records-none : (bytes : List ℕ) → length bytes ≡ 0 → records default_config (strip_bom bytes) ≡ []
unfolding records_from next_record strip_bom
records-none [] none = refl
records-none (b ∷ bytes) none = absurd (omega (arith, none))

pub small-none : AreSmall []
small-none = record { count = omega arith; widths = λ k. omega arith }
