-- Ranges at a place.
use Rattle.std.proofs.Common.{◌≡◌, ◌∙◌, inl, inr, ℕ, zero, suc, ◌+◌, ◌<◌, ◌≤◌, ◌==◌, List, [], ◌∷◌, length, get_or, map, set, refl, sym, ap, arith, Bool, true, false, ◌&&◌, nat_lt, nat_le, IsTrue, if◌then◌else◌, All}
use Rattle.std.proofs.lemmas.List.Elements.{All-cons, All-head, All-nil, All-tail}
use Rattle.std.specs.List.{AllZip}
use Rattle.offer_book.specs.Portfolio.{IsPermittedUnits}
use Rattle.escrow_units.specs.declared.security.Flow.{Flow}
use Rattle.offer_book.specs.Book.{BookContents}
use Rattle.offer_book.specs.Sums.{depths, sums_from}
use Rattle.offer_book.specs.declared.line.Line.{Line}
use Rattle.node_ranges.specs.Ranges.{AreOf, AreTight, HasRoomFor, IsOrdered, IsTight, IsUpTo, RangesContents, are_single, is_proper, most_sums, narrowed, narrowed_lines, narrowed_sums, root_of, side_of, splits, tightened, up_to, whole_interval}
use Rattle.proof_tree.specs.declared.interval.Interval.{Interval}
use Rattle.proof_tree.specs.declared.tree.Part.{Part}
use Rattle.proof_tree.specs.declared.tree.Part.TheVariants as part

-- tight ranges have an interval for each line
pub tight-length : (lines : List Line) (ranges : List Interval) → AllZip IsTight lines ranges → length lines ≡ length ranges
tight-length [] [] tight = refl
tight-length [] (interval ∷ ranges) tight = absurd tight
tight-length (line ∷ lines) [] tight = absurd tight
tight-length (line ∷ lines) (interval ∷ ranges) tight = ap suc (tight-length lines ranges tight.1)

pub tight-at : (lines : List Line) (ranges : List Interval) (place : ℕ) (d : Line) (e : Interval) → AllZip IsTight lines ranges → place < length ranges → IsTight (get_or lines place d) (get_or ranges place e)
tight-at [] [] place d e tight few = absurd (omega arith)
tight-at [] (interval ∷ ranges) place d e tight few = absurd tight
tight-at (line ∷ lines) [] place d e tight few = absurd (omega arith)
tight-at (line ∷ lines) (interval ∷ ranges) zero d e tight few = tight.0
tight-at (line ∷ lines) (interval ∷ ranges) (suc place) d e tight few = tight-at lines ranges place d e tight.1 (omega arith)

-- a split that is proper is of a line of the ranges, and both sides have numbers
pub record SplitsAt (ranges : List Interval) (line at : ℕ) : Type 0 where
  pub there : line < length ranges
  pub left : (d : Interval) → (get_or ranges line d).low ≤ at
  pub right : (d : Interval) → at < (get_or ranges line d).high

pub splits-at : (ranges : List Interval) (line at : ℕ) → IsTrue (splits ranges line at) → SplitsAt ranges line at
splits-at [] line at proper = absurd (grind arith)
splits-at (interval ∷ ranges) zero at proper = record {
  there = omega arith;
  left = λ d. grind arith;
  right = λ d. grind arith;
}
splits-at (interval ∷ ranges) (suc line) at proper =
    let rest = splits-at ranges line at proper in
    record { there = omega (arith, rest.there); left = λ d. rest.left d; right = λ d. rest.right d }

pub proper-at : (ranges : List Interval) (line at : ℕ) (d : Interval) → line < length ranges
    → splits ranges line at ≡ (nat_le (get_or ranges line d).low at && nat_lt at (get_or ranges line d).high)
proper-at [] line at d few = absurd (omega arith)
proper-at (interval ∷ ranges) zero at d few = refl
proper-at (interval ∷ ranges) (suc line) at d few = proper-at ranges line at d (omega arith)

pub proper-past : (ranges : List Interval) (line at : ℕ) → length ranges ≤ line → splits ranges line at ≡ false
proper-past [] line at past = refl
proper-past (interval ∷ ranges) zero at past = absurd (omega arith)
proper-past (interval ∷ ranges) (suc line) at past = proper-past ranges line at (omega arith)

-- one line's interval becomes its side
pub narrowed-set : (lines : List Line) (ranges : List Interval) (line at : ℕ) (right : Bool) (own : Line) (interval : Interval) → line < length ranges → length lines ≡ length ranges
    → own ≡ get_or lines line own → interval ≡ get_or ranges line interval
    → set ranges line (tightened own (side_of interval at right)) ≡ narrowed_lines lines ranges line at right
narrowed-set [] ranges line at right own interval few same own_is interval_is = absurd (omega arith)
narrowed-set (first ∷ lines) [] line at right own interval few same own_is interval_is = absurd (omega arith)
narrowed-set (first ∷ lines) (there ∷ ranges) zero at right own interval few same own_is interval_is =
    (λ i. tightened (own_is i) (side_of (interval_is i) at right) ∷ ranges)
narrowed-set (first ∷ lines) (there ∷ ranges) (suc line) at right own interval few same own_is interval_is =
    ap (λ rest. there ∷ rest) (narrowed-set lines ranges line at right own interval (omega arith) (omega arith) own_is interval_is)

pub single-all : (ranges : List Interval) → All (λ interval. interval.low ≡ interval.high) ranges → are_single ranges ≡ true
single-all [] all = refl
single-all (interval ∷ ranges) all =
    let first : (interval.low == interval.high) ≡ true = grind (arith, all 0 interval) in
    rw first (single-all ranges (λ k d few. all (suc k) d (omega arith)))

pub not-single : (ranges : List Interval) (place : ℕ) (d : Interval) → place < length ranges → ((get_or ranges place d).low ≡ (get_or ranges place d).high → ⊥) → are_single ranges ≡ false
not-single [] place d few apart = absurd (omega arith)
not-single (first ∷ ranges) zero d few apart =
    let apart_first : (first.low == first.high) ≡ false = grind (arith, apart) in
    rw apart_first refl
not-single (first ∷ ranges) (suc place) d few apart = at (first.low == first.high) (not-single ranges place d (omega arith) apart)
  where
    at : (t : Bool) → are_single ranges ≡ false → (t && are_single ranges) ≡ false
    at true rest = rest
    at false rest = refl

-- the sides of a tight interval that is split are tight
side-tight : (line : Line) (interval : Interval) (at : ℕ) (right : Bool) → IsTight line interval → interval.low ≤ at → at < interval.high → IsTight line (tightened line (side_of interval at right))
side-tight line interval at false tight from to = left (nat_lt 0 interval.low && nat_lt interval.low line.least) refl (nat_lt at line.least) refl tight.low tight.high
  where
    left : (rises : Bool) → (nat_lt 0 interval.low && nat_lt interval.low line.least) ≡ rises → (falls : Bool) → nat_lt at line.least ≡ falls
        → IsPermittedUnits line interval.low → IsPermittedUnits line interval.high
        → IsTight line (record { low = if rises then line.least else interval.low; high = if falls then 0 else at })
    left true r falls f (inl none) high = absurd (grind arith)
    left true r falls f (inr some) high = absurd (grind arith)
    left false r true f (inl none) high = record { low = inl none; high = inl refl; ordered = omega arith }
    left false r true f (inr some) high = absurd (grind arith)
    left false r false f low (inl none) = absurd (omega arith)
    left false r false f low (inr some) = record { low = low; high = inr (grind arith, omega arith); ordered = from }
side-tight line interval at true tight from to = right (nat_lt 0 (at + 1) && nat_lt (at + 1) line.least) refl (nat_lt interval.high line.least) refl tight.high
  where
    right : (rises : Bool) → (nat_lt 0 (at + 1) && nat_lt (at + 1) line.least) ≡ rises → (falls : Bool) → nat_lt interval.high line.least ≡ falls
        → IsPermittedUnits line interval.high
        → IsTight line (record { low = if rises then line.least else at + 1; high = if falls then 0 else interval.high })
    right rises r falls f (inl none) = absurd (omega arith)
    right rises r true f (inr some) = absurd (grind arith)
    right true r false f (inr some) = record { low = inr (omega arith, omega (arith, some.0, some.1)); high = inr some; ordered = some.0 }
    right false r false f (inr some) = record { low = inr (grind arith, omega (arith, some.1)); high = inr some; ordered = omega arith }

pub sides-tight : (lines : List Line) (ranges : List Interval) (line at : ℕ) (right : Bool) → AllZip IsTight lines ranges → IsTrue (splits ranges line at)
    → AllZip IsTight lines (narrowed_lines lines ranges line at right)
sides-tight [] [] line at right tight proper = absurd (grind arith)
sides-tight [] (interval ∷ ranges) line at right tight proper = absurd tight
sides-tight (own ∷ lines) [] line at right tight proper = absurd tight
sides-tight (own ∷ lines) (interval ∷ ranges) zero at right tight proper =
    let split = splits-at (interval ∷ ranges) 0 at proper in
    (side-tight own interval at right tight.0 (split.left interval) (split.right interval), tight.1)
sides-tight (own ∷ lines) (interval ∷ ranges) (suc line) at right tight proper = (tight.0, sides-tight lines ranges line at right tight.1 proper)

-- the interval that is read is that of the line
pub proper-from : (ranges items : List Interval) (line place at : ℕ) (interval : Interval) → items ≡ ranges → place ≡ line → place < length items
    → interval ≡ get_or items place interval → splits ranges line at ≡ (nat_le interval.low at && nat_lt at interval.high)
proper-from ranges items line place at interval same here few is =
    let there : line < length ranges = omega (arith, ap length same) in
    let own : get_or ranges line interval ≡ interval = (λ i. get_or (sym same i) (sym here i) interval) ∙ sym is in
    proper-at ranges line at interval there ∙ ap (λ (x : Interval). nat_le x.low at && nat_lt at x.high) own

pub proper-both : (low high at : ℕ) → low ≤ at → nat_lt at high ≡ (nat_le low at && nat_lt at high)
proper-both low high at first =
    let yes : nat_le low at ≡ true = grind arith in
    rw yes refl

pub proper-first : (low high at : ℕ) → at < low → nat_le low at ≡ (nat_le low at && nat_lt at high)
proper-first low high at before =
    let no : nat_le low at ≡ false = grind arith in
    rw no refl

-- intervals that are each the whole of their line are the root's
pub all-whole : (lines : List Line) (ranges : List Interval) → length ranges ≡ length lines
    → ((k : ℕ) (d : Interval) (e : Line) → k < length ranges → get_or ranges k d ≡ whole_interval (get_or lines k e)) → ranges ≡ map whole_interval lines
all-whole [] [] same each = refl
all-whole [] (interval ∷ ranges) same each = absurd (omega arith)
all-whole (line ∷ lines) [] same each = absurd (omega arith)
all-whole (line ∷ lines) (interval ∷ ranges) same each =
    let first : interval ≡ whole_interval line = each 0 interval line (omega arith) in
    (λ i. first i ∷ all-whole lines ranges (omega arith) (λ k d e few. each (suc k) d e (omega arith)) i)

-- in each interval the low end is at most the high one
pub tight-ordered : (lines : List Line) (ranges : List Interval) → AllZip IsTight lines ranges → All (λ interval. interval.low ≤ interval.high) ranges
tight-ordered [] [] tight = All-nil (λ (i : Interval). i.low ≤ i.high)
tight-ordered [] (interval ∷ ranges) tight = absurd tight
tight-ordered (line ∷ lines) [] tight = absurd tight
tight-ordered (line ∷ lines) (interval ∷ ranges) tight =
    All-cons (λ (i : Interval). i.low ≤ i.high) interval ranges tight.0.ordered (tight-ordered lines ranges tight.1)

pub root-ordered : (lines : List Line) → All (λ interval. interval.low ≤ interval.high) (map whole_interval lines)
root-ordered [] = All-nil (λ (i : Interval). i.low ≤ i.high)
root-ordered (line ∷ lines) = All-cons (λ (i : Interval). i.low ≤ i.high) (whole_interval line) (map whole_interval lines) (omega arith) (root-ordered lines)

-- each range of the root has room in its line
pub root-room : (lines : List Line) → AllZip HasRoomFor lines (map whole_interval lines)
root-room [] = tt
root-room (line ∷ lines) = (omega arith, root-room lines)

-- tight ranges have room in their lines
pub tight-room : (lines : List Line) (ranges : List Interval) → AllZip IsTight lines ranges → AllZip HasRoomFor lines ranges
tight-room [] [] tight = tt
tight-room [] (interval ∷ ranges) tight = absurd tight
tight-room (line ∷ lines) [] tight = absurd tight
tight-room (line ∷ lines) (interval ∷ ranges) tight = (room tight.0.high, tight-room lines ranges tight.1)
  where
    room : IsPermittedUnits line interval.high → interval.high ≤ line.most
    room (inl none) = omega (arith, none)
    room (inr some) = some.1

-- ---- sums
-- there is one sum for each need date
pub sums-length : (sum : ℕ) (needs : List Flow) (own plan : List ℕ) → length (sums_from sum needs own plan) ≡ length needs
sums-length sum [] own plan = refl
sums-length sum (need ∷ needs) own plan = ap suc (sums-length (suc sum) needs own plan)

-- intervals from 0 on
pub up-length : (most : List ℕ) → length (map up_to most) ≡ length most
up-length [] = refl
up-length (high ∷ most) = ap suc (up-length most)

pub up-ordered : (most : List ℕ) → All IsOrdered (map up_to most)
up-ordered [] = All-nil IsOrdered
up-ordered (high ∷ most) = All-cons IsOrdered (up_to high) (map up_to most) (omega arith) (up-ordered most)

-- one sum's interval becomes its side
pub narrowed_sums-set : (sums : List Interval) (sum at : ℕ) (right : Bool) (interval : Interval) → sum < length sums → interval ≡ get_or sums sum interval
    → set sums sum (side_of interval at right) ≡ narrowed_sums sums sum at right
narrowed_sums-set [] sum at right interval few is = absurd (omega arith)
narrowed_sums-set (there ∷ sums) zero at right interval few is = (λ i. side_of (is i) at right ∷ sums)
narrowed_sums-set (there ∷ sums) (suc sum) at right interval few is = ap (λ rest. there ∷ rest) (narrowed_sums-set sums sum at right interval (omega arith) is)

pub narrowed_sums-length : (sums : List Interval) (sum at : ℕ) (right : Bool) → length (narrowed_sums sums sum at right) ≡ length sums
narrowed_sums-length [] sum at right = refl
narrowed_sums-length (interval ∷ sums) zero at right = refl
narrowed_sums-length (interval ∷ sums) (suc sum) at right = ap suc (narrowed_sums-length sums sum at right)

side-ordered : (interval : Interval) (at : ℕ) (right : Bool) → interval.low ≤ at → at < interval.high → IsOrdered (side_of interval at right)
side-ordered interval at false from to = from
side-ordered interval at true from to = omega arith

pub narrowed_sums-ordered : (sums : List Interval) (sum at : ℕ) (right : Bool) → All IsOrdered sums → IsTrue (splits sums sum at) → All IsOrdered (narrowed_sums sums sum at right)
narrowed_sums-ordered [] sum at right ordered proper = ordered
narrowed_sums-ordered (interval ∷ sums) zero at right ordered proper =
    let split = splits-at (interval ∷ sums) 0 at proper in
    All-cons IsOrdered (side_of interval at right) sums (side-ordered interval at right (split.left interval) (split.right interval)) (All-tail IsOrdered interval sums ordered)
narrowed_sums-ordered (interval ∷ sums) (suc sum) at right ordered proper =
    All-cons IsOrdered interval (narrowed_sums sums sum at right) (All-head IsOrdered interval sums ordered) (narrowed_sums-ordered sums sum at right (All-tail IsOrdered interval sums ordered) proper)

-- intervals up to numbers, one each
pub up-length_of : (most : List ℕ) (sums : List Interval) → AllZip IsUpTo most sums → length sums ≡ length most
up-length_of [] [] room = refl
up-length_of [] (interval ∷ sums) room = absurd room
up-length_of (high ∷ most) [] room = absurd room
up-length_of (high ∷ most) (interval ∷ sums) room = ap suc (up-length_of most sums room.1)

up-room : (most : List ℕ) → AllZip IsUpTo most (map up_to most)
up-room [] = tt
up-room (high ∷ most) = (omega arith, up-room most)

side-room : (most : ℕ) (interval : Interval) (at : ℕ) (right : Bool) → at < interval.high → IsUpTo most interval → IsUpTo most (side_of interval at right)
side-room most interval at false to room = omega (arith, to, room)
side-room most interval at true to room = room

pub narrowed_sums-room : (most : List ℕ) (sums : List Interval) (sum at : ℕ) (right : Bool) → AllZip IsUpTo most sums → IsTrue (splits sums sum at) → AllZip IsUpTo most (narrowed_sums sums sum at right)
narrowed_sums-room [] [] sum at right room proper = tt
narrowed_sums-room [] (interval ∷ sums) sum at right room proper = absurd room
narrowed_sums-room (high ∷ most) [] sum at right room proper = absurd room
narrowed_sums-room (high ∷ most) (interval ∷ sums) zero at right room proper =
    let split = splits-at (interval ∷ sums) 0 at proper in
    (side-room high interval at right (split.right interval) room.0, room.1)
narrowed_sums-room (high ∷ most) (interval ∷ sums) (suc sum) at right room proper = (room.0, narrowed_sums-room most sums sum at right room.1 proper)

-- ---- ranges of a book
pub part-tight : (book : BookContents) (ranges : RangesContents) (split : Part) (at : ℕ) (right : Bool) → AreTight book ranges → IsTrue (is_proper ranges split at) → AreTight book (narrowed book ranges split at right)
part-tight book ranges (part.Line line) at right tight proper =
    record { lines = sides-tight book.lines ranges.lines line at right tight.lines proper; ordered = tight.ordered; sums = tight.sums }
part-tight book ranges (part.Sum sum) at right tight proper =
    record { lines = tight.lines; ordered = narrowed_sums-ordered ranges.sums sum at right tight.ordered proper; sums = narrowed_sums-room (most_sums book) ranges.sums sum at right tight.sums proper }

-- tight ranges are of their book
pub tight-of : (book : BookContents) (ranges : RangesContents) → AreTight book ranges → AreOf book ranges
tight-of book ranges tight = record { lines = tight-room book.lines ranges.lines tight.lines; sums = tight.sums }

pub root-of : (book : BookContents) → AreOf book (root_of book)
root-of book = record { lines = root-room book.lines; sums = up-room (most_sums book) }

-- there is an interval for each need date
pub sums-count : (book : BookContents) (ranges : RangesContents) → AreOf book ranges → length ranges.sums ≡ length book.needs
sums-count book ranges are = up-length_of (most_sums book) ranges.sums are.sums ∙ sums-length 0 book.needs (depths book) (map (λ (line : Line). line.most) book.lines)

-- a split of a line keeps the intervals of sums
pub line-keeps_sums : (book : BookContents) (ranges : RangesContents) (line at : ℕ) (right : Bool) → (narrowed book ranges (part.Line line) at right).sums ≡ ranges.sums
line-keeps_sums book ranges line at right = refl

-- what is read at a place is what is read there with itself as what stands past the end
pub read-at : (intervals : List Interval) (place : ℕ) → place < length intervals
    → get_or intervals place (record { low = 0; high = 0 }) ≡ get_or intervals place (get_or intervals place (record { low = 0; high = 0 }))
read-at [] place few = absurd (omega arith)
read-at (interval ∷ intervals) zero few = refl
read-at (interval ∷ intervals) (suc place) few = read-at intervals place (omega arith)
