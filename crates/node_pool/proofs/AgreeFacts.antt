-- Ranges that are narrowed from the node up are those that are narrowed from the root down.
use Rattle.std.proofs.Common.{◌≡◌, ◌∙◌, ◌⊎◌, inl, inr, ℕ, zero, suc, ◌+◌, ◌<◌, ◌≤◌, List, [], ◌∷◌, map, refl, sym, ap, subst, arith, Bool, true, false, ◌&&◌, nat_lt, nat_le, IsTrue, if◌then◌else◌}
use Rattle.std.specs.List.{AllZip}
use Rattle.offer_book.specs.Portfolio.{IsPermittedUnits}
use Rattle.offer_book.specs.declared.line.Line.{Line}
use Rattle.node_ranges.specs.Ranges.{AreTight, IsTight, RangesContents, is_proper, narrowed, narrowed_lines, root_of, side_of, splits, tightened, whole_interval}
use Rattle.offer_book.specs.Book.{BookContents}
use Rattle.proof_tree.specs.declared.interval.Interval.{Interval}
use Rattle.proof_tree.specs.declared.tree.Part.TheVariants as part

-- a side of a split of a line
abbrev pub side : Line → Interval → ℕ → Bool → Interval
side line interval at right = tightened line (side_of interval at right)

-- the ranges of a node, as far as they are narrowed from below up to an ancestor: what isn't narrowed yet is as at the ancestor
pub record AgreesAt (line : Line) (above now all : Interval) : Type 0 where
  pub low : (now.low ≡ all.low) ⊎ ((now.low ≡ 0) × (all.low ≡ above.low))
  pub high : (now.high ≡ all.high) ⊎ ((now.high ≡ line.most) × (all.high ≡ above.high))
  pub from : above.low ≤ all.low
  pub to : all.high ≤ above.high

-- a low end that is permitted is tight
low_kept : (line : Line) (low : ℕ) → IsPermittedUnits line low → (if nat_lt 0 low && nat_lt low line.least then line.least else low) ≡ low
low_kept line low (inl none) = let no : (nat_lt 0 low && nat_lt low line.least) ≡ false = grind (arith, none) in ap (λ (b : Bool). if b then line.least else low) no
low_kept line low (inr some) = let no : (nat_lt 0 low && nat_lt low line.least) ≡ false = grind (arith, some) in ap (λ (b : Bool). if b then line.least else low) no

high_kept : (line : Line) (high : ℕ) → IsPermittedUnits line high → (if nat_lt high line.least then 0 else high) ≡ high
high_kept line high (inl none) = by (nat_lt high line.least)
  where
    by : (b : Bool) → (if b then 0 else high) ≡ high
    by true = sym none
    by false = refl
high_kept line high (inr some) = let no : nat_lt high line.least ≡ false = grind (arith, some) in ap (λ (b : Bool). if b then 0 else high) no

high_below : (at least : ℕ) → (if nat_lt at least then 0 else at) ≤ at
high_below at least = by (nat_lt at least)
  where
    by : (b : Bool) → (if b then 0 else at) ≤ at
    by true = omega arith
    by false = omega arith

low_above : (at least : ℕ) → at + 1 ≤ (if nat_lt 0 (at + 1) && nat_lt (at + 1) least then least else at + 1)
low_above at least = by (nat_lt 0 (at + 1) && nat_lt (at + 1) least) refl
  where
    by : (b : Bool) → (nat_lt 0 (at + 1) && nat_lt (at + 1) least) ≡ b → at + 1 ≤ (if b then least else at + 1)
    by true e = grind (arith, e)
    by false e = omega arith

permitted_most : (line : Line) (units : ℕ) → IsPermittedUnits line units → (units ≤ line.most) ⊎ (units ≡ 0)
permitted_most line units (inl none) = inr none
permitted_most line units (inr some) = inl some.1

at_most : (line : Line) (units n : ℕ) → IsPermittedUnits line units → n < units → n < line.most
at_most line units n (inl none) h = absurd (omega (arith, none, h))
at_most line units n (inr some) h = omega (arith, some.1, h)

within_yes : (low at high : ℕ) → low ≤ at → at < high → (nat_le low at && nat_lt at high) ≡ true
within_yes low at high first second = grind (arith, first, second)

beyond_no : (low at high : ℕ) → high ≤ at → (nat_le low at && nat_lt at high) ≡ false
beyond_no low at high h = by (nat_le low at)
  where
    by : (b : Bool) → (b && nat_lt at high) ≡ false
    by true = grind (arith, h)
    by false = refl

before_no : (low at high : ℕ) → at < low → (nat_le low at && nat_lt at high) ≡ false
before_no low at high h = let no : nat_le low at ≡ false = grind (arith, h) in ap (λ (b : Bool). b && nat_lt at high) no

-- one line, on the left of a split
left_step : (line : Line) (above now all : Interval) (at : ℕ) → IsTight line above → IsTight line now → IsTight line all → above.low ≤ at → at < above.high →
    AgreesAt line (side line above at false) now all →
    AgreesAt line above (if nat_le now.low at && nat_lt at now.high then side line now at false else now) all
left_step line above now all at tight tight_now tight_all from to agrees =
    high_case agrees.high
  where
    lows : (now.low ≡ all.low) ⊎ ((now.low ≡ 0) × (all.low ≡ above.low))
    lows = by agrees.low
      where
        by : (now.low ≡ all.low) ⊎ ((now.low ≡ 0) × (all.low ≡ (side line above at false).low)) → (now.low ≡ all.low) ⊎ ((now.low ≡ 0) × (all.low ≡ above.low))
        by (inl same) = inl same
        by (inr rest) = inr (rest.0, rest.1 ∙ low_kept line above.low tight.low)

    start : above.low ≤ all.low
    start = let h = agrees.from in omega (arith, h, low_kept line above.low tight.low)

    ends : all.high ≤ at
    ends = let h = agrees.to in omega (arith, h, high_below at line.least)

    small : now.low ≤ at
    small = by lows
      where
        by : (now.low ≡ all.low) ⊎ ((now.low ≡ 0) × (all.low ≡ above.low)) → now.low ≤ at
        by (inl same) = let o = tight_all.ordered in omega (arith, same, o, ends)
        by (inr rest) = omega (arith, rest.0)

    high_case : (now.high ≡ all.high) ⊎ ((now.high ≡ line.most) × (all.high ≡ (side line above at false).high)) →
        AgreesAt line above (if nat_le now.low at && nat_lt at now.high then side line now at false else now) all
    high_case (inl same) =
        let P : Bool → Type 0 = λ b. AgreesAt line above (if b then side line now at false else now) all in
        subst P (sym (beyond_no now.low at now.high (omega (arith, same, ends))))
        (record { low = lows; high = inl same; from = start; to = omega (arith, ends, to) })
    high_case (inr rest) =
        let P : Bool → Type 0 = λ b. AgreesAt line above (if b then side line now at false else now) all in
        let room : at < now.high = (let m = at_most line above.high at tight.high to in omega (arith, m, rest.0)) in
        subst P (sym (within_yes now.low at now.high small room))
        (record {
          low = moved lows;
          high = inl (sym rest.1);
          from = start;
          to = omega (arith, ends, to);
        })
      where
        moved : (now.low ≡ all.low) ⊎ ((now.low ≡ 0) × (all.low ≡ above.low)) → ((side line now at false).low ≡ all.low) ⊎ (((side line now at false).low ≡ 0) × (all.low ≡ above.low))
        moved (inl same) = inl (low_kept line now.low tight_now.low ∙ same)
        moved (inr r) = inr (low_kept line now.low tight_now.low ∙ r.0, r.1)

-- one line, on the right of a split
right_step : (line : Line) (above now all : Interval) (at : ℕ) → IsTight line above → IsTight line now → IsTight line all → above.low ≤ at → at < above.high →
    AgreesAt line (side line above at true) now all →
    AgreesAt line above (if nat_le now.low at && nat_lt at now.high then side line now at true else now) all
right_step line above now all at tight tight_now tight_all from to agrees =
    low_case agrees.low
  where
    highs : (now.high ≡ all.high) ⊎ ((now.high ≡ line.most) × (all.high ≡ above.high))
    highs = by agrees.high
      where
        by : (now.high ≡ all.high) ⊎ ((now.high ≡ line.most) × (all.high ≡ (side line above at true).high)) → (now.high ≡ all.high) ⊎ ((now.high ≡ line.most) × (all.high ≡ above.high))
        by (inl same) = inl same
        by (inr rest) = inr (rest.0, rest.1 ∙ high_kept line above.high tight.high)

    ends : all.high ≤ above.high
    ends = let h = agrees.to in omega (arith, h, high_kept line above.high tight.high)

    start : at + 1 ≤ all.low
    start = let h = agrees.from in omega (arith, h, low_above at line.least)

    room : at < now.high
    room = by highs
      where
        by : (now.high ≡ all.high) ⊎ ((now.high ≡ line.most) × (all.high ≡ above.high)) → at < now.high
        by (inl same) = let o = tight_all.ordered in omega (arith, same, o, start)
        by (inr rest) = (let m = at_most line above.high at tight.high to in omega (arith, rest.0, m))

    low_case : (now.low ≡ all.low) ⊎ ((now.low ≡ 0) × (all.low ≡ (side line above at true).low)) →
        AgreesAt line above (if nat_le now.low at && nat_lt at now.high then side line now at true else now) all
    low_case (inl same) =
        let P : Bool → Type 0 = λ b. AgreesAt line above (if b then side line now at true else now) all in
        subst P (sym (before_no now.low at now.high (omega (arith, same, start))))
        (record { low = inl same; high = highs; from = omega (arith, from, start); to = ends })
    low_case (inr rest) =
        let P : Bool → Type 0 = λ b. AgreesAt line above (if b then side line now at true else now) all in
        subst P (sym (within_yes now.low at now.high (omega (arith, rest.0)) room))
        (record {
          low = inl (sym rest.1);
          high = moved highs;
          from = omega (arith, from, start);
          to = ends;
        })
      where
        moved : (now.high ≡ all.high) ⊎ ((now.high ≡ line.most) × (all.high ≡ above.high)) → ((side line now at true).high ≡ all.high) ⊎ (((side line now at true).high ≡ line.most) × (all.high ≡ above.high))
        moved (inl same) = inl (high_kept line now.high tight_now.high ∙ same)
        moved (inr r) = inr (high_kept line now.high tight_now.high ∙ r.0, r.1)

side_step : (line : Line) (above now all : Interval) (at : ℕ) (right : Bool) → IsTight line above → IsTight line now → IsTight line all → above.low ≤ at → at < above.high →
    AgreesAt line (side line above at right) now all →
    AgreesAt line above (if nat_le now.low at && nat_lt at now.high then side line now at right else now) all
side_step line above now all at false tight tight_now tight_all from to agrees = left_step line above now all at tight tight_now tight_all from to agrees
side_step line above now all at true tight tight_now tight_all from to agrees = right_step line above now all at tight tight_now tight_all from to agrees

-- all lines
abbrev pub LinesAgree : List Line → List Interval → List Interval → List Interval → Type 0
LinesAgree [] [] [] [] = Unit {0}
LinesAgree (line ∷ lines) (above ∷ aboves) (now ∷ nows) (all ∷ alls) = AgreesAt line above now all × LinesAgree lines aboves nows alls
LinesAgree lines above now all = ⊥

pushed_by : (line : Line) (above now all : Interval) (lines : List Line) (aboves nows other alls : List Interval) (b : Bool) → AgreesAt line above now all →
    LinesAgree lines aboves (if b then other else nows) alls → LinesAgree (line ∷ lines) (above ∷ aboves) (if b then now ∷ other else now ∷ nows) (all ∷ alls)
pushed_by line above now all lines aboves nows other alls true own rest = (own, rest)
pushed_by line above now all lines aboves nows other alls false own rest = (own, rest)

head_by : (line : Line) (above now side all : Interval) (lines : List Line) (aboves nows alls : List Interval) (b : Bool) → AgreesAt line above (if b then side else now) all →
    LinesAgree lines aboves nows alls → LinesAgree (line ∷ lines) (above ∷ aboves) (if b then side ∷ nows else now ∷ nows) (all ∷ alls)
head_by line above now side all lines aboves nows alls true own rest = (own, rest)
head_by line above now side all lines aboves nows alls false own rest = (own, rest)

proper_parts : (low at high : ℕ) → IsTrue (nat_le low at && nat_lt at high) → (low ≤ at) × (at < high)
proper_parts low at high h = (grind (arith, h), grind (arith, h))

lines-step : (lines : List Line) (above now all : List Interval) (line at : ℕ) (right : Bool) → AllZip IsTight lines above → AllZip IsTight lines now → AllZip IsTight lines all →
    IsTrue (splits above line at) → LinesAgree lines (narrowed_lines lines above line at right) now all →
    LinesAgree lines above (if splits now line at then narrowed_lines lines now line at right else now) all
lines-step [] [] now all line at right tight tight_now tight_all proper agrees = absurd (grind (arith, proper))
lines-step [] (a ∷ above) now all line at right tight tight_now tight_all proper agrees = absurd tight
lines-step (own ∷ lines) [] now all line at right tight tight_now tight_all proper agrees = absurd tight
lines-step (own ∷ lines) (a ∷ above) [] all line at right tight tight_now tight_all proper agrees = absurd tight_now
lines-step (own ∷ lines) (a ∷ above) (n ∷ now) [] line at right tight tight_now tight_all proper agrees = absurd tight_all
lines-step (own ∷ lines) (a ∷ above) (n ∷ now) (t ∷ all) zero at right tight tight_now tight_all proper agrees =
    let parts : (a.low ≤ at) × (at < a.high) = proper_parts a.low at a.high proper in
    head_by own a n (side own n at right) t lines above now all (nat_le n.low at && nat_lt at n.high)
    (side_step own a n t at right tight.0 tight_now.0 tight_all.0 parts.0 parts.1 agrees.0) agrees.1
lines-step (own ∷ lines) (a ∷ above) (n ∷ now) (t ∷ all) (suc line) at right tight tight_now tight_all proper agrees =
    pushed_by own a n t lines above now (narrowed_lines lines now line at right) all (splits now line at) agrees.0
    (lines-step lines above now all line at right tight.1 tight_now.1 tight_all.1 proper agrees.1)

-- at the node nothing is narrowed yet, and at the root all is
lines-start : (lines : List Line) (all : List Interval) → AllZip IsTight lines all → LinesAgree lines all (map whole_interval lines) all
lines-start [] [] tight = tt
lines-start [] (t ∷ all) tight = absurd tight
lines-start (line ∷ lines) [] tight = absurd tight
lines-start (line ∷ lines) (t ∷ all) tight = (record { low = inr (refl, refl); high = inr (refl, refl); from = omega arith; to = omega arith }, lines-start lines all tight.1)

end_low : (now all : ℕ) → (now ≡ all) ⊎ ((now ≡ 0) × (all ≡ 0)) → now ≡ all
end_low now all (inl same) = same
end_low now all (inr both) = both.0 ∙ sym both.1

end_high : (now all most : ℕ) → (now ≡ all) ⊎ ((now ≡ most) × (all ≡ most)) → now ≡ all
end_high now all most (inl same) = same
end_high now all most (inr both) = both.0 ∙ sym both.1

lines-end : (lines : List Line) (now all : List Interval) → LinesAgree lines (map whole_interval lines) now all → now ≡ all
lines-end [] [] [] agrees = refl
lines-end [] [] (t ∷ all) agrees = absurd agrees
lines-end [] (n ∷ now) all agrees = absurd agrees
lines-end (line ∷ lines) [] all agrees = absurd agrees
lines-end (line ∷ lines) (n ∷ now) [] agrees = absurd agrees
lines-end (line ∷ lines) (n ∷ now) (t ∷ all) agrees =
    let low : n.low ≡ t.low = end_low n.low t.low agrees.0.low in
    let high : n.high ≡ t.high = end_high n.high t.high line.most agrees.0.high in
    let here : n ≡ t = ap (λ (k : ℕ). record { low = k; high = n.high }) low ∙ ap (λ (k : ℕ). record { low = t.low; high = k }) high in
    ap (λ (i : Interval). i ∷ now) here ∙ ap (λ (is : List Interval). t ∷ is) (lines-end lines now all agrees.1)

-- ranges agree where those of their lines do; those of their sums are all the root's, as splits are of lines
pub record Agree (book : BookContents) (above now all : RangesContents) : Type 0 where
  pub lines : LinesAgree book.lines above.lines now.lines all.lines
  pub sums : now.sums ≡ all.sums

step_by : (book : BookContents) (above now all : RangesContents) (line at : ℕ) (right : Bool) (b : Bool) → splits now.lines line at ≡ b → now.sums ≡ all.sums
    → LinesAgree book.lines above.lines (if splits now.lines line at then narrowed_lines book.lines now.lines line at right else now.lines) all.lines
    → Agree book above (if splits now.lines line at then narrowed book now (part.Line line) at right else now) all
step_by book above now all line at right b is sums agrees =
    let P : Bool → Type 0 = λ c. LinesAgree book.lines above.lines (if c then narrowed_lines book.lines now.lines line at right else now.lines) all.lines in
    let Q : Bool → Type 0 = λ c. Agree book above (if c then narrowed book now (part.Line line) at right else now) all in
    subst Q (sym is) (by b (subst P is agrees))
  where
    by : (c : Bool) → LinesAgree book.lines above.lines (if c then narrowed_lines book.lines now.lines line at right else now.lines) all.lines
        → Agree book above (if c then narrowed book now (part.Line line) at right else now) all
    by true own = record { lines = own; sums = sums }
    by false own = record { lines = own; sums = sums }

pub agree-step : (book : BookContents) (above now all : RangesContents) (line at : ℕ) (right : Bool) → AreTight book above → AreTight book now → AreTight book all →
    IsTrue (is_proper above (part.Line line) at) → Agree book (narrowed book above (part.Line line) at right) now all →
    Agree book above (if is_proper now (part.Line line) at then narrowed book now (part.Line line) at right else now) all
agree-step book above now all line at right tight tight_now tight_all proper agrees =
    step_by book above now all line at right (splits now.lines line at) refl agrees.sums
    (lines-step book.lines above.lines now.lines all.lines line at right tight.lines tight_now.lines tight_all.lines proper agrees.lines)

pub agree-start : (book : BookContents) (all : RangesContents) → AreTight book all → all.sums ≡ (root_of book).sums → Agree book all (root_of book) all
agree-start book all tight sums = record { lines = lines-start book.lines all.lines tight.lines; sums = sym sums }

pub agree-end : (book : BookContents) (now all : RangesContents) → Agree book (root_of book) now all → now ≡ all
agree-end book now all agrees = (λ i. record { lines = lines-end book.lines now.lines all.lines agrees.lines i; sums = agrees.sums i })
