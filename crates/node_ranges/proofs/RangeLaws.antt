-- What the ranges of a tree keep.
use Rattle.std.proofs.Common.{◌≡◌, ◌⊎◌, inl, inr, ℕ, zero, suc, ◌+◌, ◌<◌, ◌≤◌, ◌==◌, List, [], ◌∷◌, drop, get_or, length, map, refl, ap, subst, sym, arith, Bool, true, false, ◌&&◌, nat_lt, nat_le, IsTrue, if◌then◌else◌, All}
use Rattle.std.proofs.lemmas.List.Elements.{All-cons, All-head, All-nil, All-tail}
use Rattle.std.proofs.lemmas.List.Sums.{sum_by-cons}
use Rattle.std.specs.List.{AllZip, zip}
use Rattle.escrow_units.specs.declared.security.Flow.{Flow}
use Rattle.offer_book.specs.Book.{AreLines, BookContents, IsCashLine, IsSecurityLine}
use Rattle.offer_book.specs.Sums.{counted, depths, sums_from, sums_of}
use Rattle.offer_book.specs.Portfolio.{IsPermittedUnits}
use Rattle.offer_book.specs.declared.line.Line.{Line}
use Rattle.node_ranges.specs.Ranges.{IsTight, LieIn, LinesHold, RootHoldsAll, RootIsTight, SidesAreTight, SingleHoldOne, SplitsCover, TightHold, are_single, narrowed_lines, narrowed_sums, root_of, side_of, splits, tightened, up_to, whole_interval}
use Rattle.proof_tree.specs.declared.interval.Interval.{Interval}
use Rattle.proof_tree.specs.declared.tree.Part.TheVariants as part
use Rattle.node_ranges.proofs.RangeFacts.{part-tight, root-of, splits-at, up-ordered}
use Rattle.offer_book.specs.declared.payment_days.PaymentDays.{PaymentDays}

pub sides_are_tight : SidesAreTight
sides_are_tight book ranges split at right tight proper = part-tight book ranges split at right tight proper

-- each portfolio that the intervals of lines hold is held by exactly one side
record LinesCover (lines : List Line) (ranges : List Interval) (line at : ℕ) (plan : List ℕ) : Type 0 where
  pub one : LinesHold lines ranges plan → LinesHold lines (narrowed_lines lines ranges line at false) plan ⊎ LinesHold lines (narrowed_lines lines ranges line at true) plan
  pub apart : LinesHold lines (narrowed_lines lines ranges line at false) plan → LinesHold lines (narrowed_lines lines ranges line at true) plan → ⊥
  pub inside : (right : Bool) → LinesHold lines (narrowed_lines lines ranges line at right) plan → LinesHold lines ranges plan

-- ---- one interval
-- permitted units within an interval are within it tightened, and the other way
tighten-keeps : (line : Line) (interval : Interval) (units : ℕ) → IsPermittedUnits line units → LieIn interval units → LieIn (tightened line interval) units
tighten-keeps line interval units permitted inside =
    at (nat_lt 0 interval.low && nat_lt interval.low line.least) refl (nat_lt interval.high line.least) refl permitted
  where
    at : (rises : Bool) → (nat_lt 0 interval.low && nat_lt interval.low line.least) ≡ rises → (falls : Bool) → nat_lt interval.high line.least ≡ falls → IsPermittedUnits line units
        → LieIn (record { low = if rises then line.least else interval.low; high = if falls then 0 else interval.high }) units
    at true r falls f (inl none) = absurd (grind (arith, inside.low))
    at true r true f (inr some) = absurd (grind (arith, inside.high))
    at true r false f (inr some) = record { low = some.0; high = inside.high }
    at false r true f (inl none) = record { low = inside.low; high = omega arith }
    at false r true f (inr some) = absurd (grind (arith, inside.high))
    at false r false f permitted = inside

tighten-adds : (line : Line) (interval : Interval) (units : ℕ) → LieIn (tightened line interval) units → interval.low ≤ interval.high → LieIn interval units
tighten-adds line interval units inside order =
    at (nat_lt 0 interval.low && nat_lt interval.low line.least) refl (nat_lt interval.high line.least) refl inside
  where
    at : (rises : Bool) → (nat_lt 0 interval.low && nat_lt interval.low line.least) ≡ rises → (falls : Bool) → nat_lt interval.high line.least ≡ falls
        → LieIn (record { low = if rises then line.least else interval.low; high = if falls then 0 else interval.high }) units → LieIn interval units
    at true r true f inside = absurd (grind (arith, inside.low, inside.high))
    at true r false f inside = record { low = grind (arith, inside.low); high = inside.high }
    at false r true f inside = record { low = inside.low; high = omega (arith, inside.high) }
    at false r false f inside = inside

-- ---- a split
side-one : (line : Line) (interval : Interval) (at units : ℕ) → IsPermittedUnits line units → LieIn interval units
    → LieIn (tightened line (side_of interval at false)) units ⊎ LieIn (tightened line (side_of interval at true)) units
side-one line interval at units permitted inside = by (nat_le units at) refl
  where
    by : (t : Bool) → nat_le units at ≡ t → LieIn (tightened line (side_of interval at false)) units ⊎ LieIn (tightened line (side_of interval at true)) units
    by true e = inl (tighten-keeps line (record { low = interval.low; high = at }) units permitted (record { low = inside.low; high = grind arith }))
    by false e = inr (tighten-keeps line (record { low = at + 1; high = interval.high }) units permitted (record { low = grind arith; high = inside.high }))

side-inside : (line : Line) (interval : Interval) (at : ℕ) (right : Bool) (units : ℕ) → interval.low ≤ at → at < interval.high
    → LieIn (tightened line (side_of interval at right)) units → LieIn interval units
side-inside line interval at false units from to inside =
    let own = tighten-adds line (record { low = interval.low; high = at }) units inside from in
    record { low = own.low; high = omega (arith, own.high) }
side-inside line interval at true units from to inside =
    let own = tighten-adds line (record { low = at + 1; high = interval.high }) units inside (omega arith) in
    record { low = omega (arith, own.low); high = own.high }

side-apart : (line : Line) (interval : Interval) (at units : ℕ) → interval.low ≤ at → at < interval.high
    → LieIn (tightened line (side_of interval at false)) units → LieIn (tightened line (side_of interval at true)) units → ⊥
side-apart line interval at units from to left right =
    let own = tighten-adds line (record { low = interval.low; high = at }) units left from in
    let other = tighten-adds line (record { low = at + 1; high = interval.high }) units right (omega arith) in
    omega (arith, own.high, other.low)

-- a portfolio, one line more
hold-more : (own : Line) (lines : List Line) (interval : Interval) (ranges : List Interval) (units : ℕ) (plan : List ℕ)
    → IsPermittedUnits own units → LieIn interval units → LinesHold lines ranges plan → LinesHold (own ∷ lines) (interval ∷ ranges) (units ∷ plan)
hold-more own lines interval ranges units plan permitted inside hold = record { permitted = (permitted, hold.permitted); within = (inside, hold.within) }

hold-rest : (own : Line) (lines : List Line) (interval : Interval) (ranges : List Interval) (units : ℕ) (plan : List ℕ)
    → LinesHold (own ∷ lines) (interval ∷ ranges) (units ∷ plan) → LinesHold lines ranges plan
hold-rest own lines interval ranges units plan hold = record { permitted = hold.permitted.1; within = hold.within.1 }

split-covers : (lines : List Line) (ranges : List Interval) (line at : ℕ) → AllZip IsTight lines ranges → IsTrue (splits ranges line at) → (plan : List ℕ) → LinesCover lines ranges line at plan
split-covers [] [] line at tight proper plan = absurd (grind arith)
split-covers [] (interval ∷ ranges) line at tight proper plan = absurd tight
split-covers (own ∷ lines) [] line at tight proper plan = absurd tight
split-covers (own ∷ lines) (interval ∷ ranges) line at tight proper [] = record {
  one = λ hold. absurd hold.permitted;
  apart = λ left right. left.permitted;
  inside = λ right hold. absurd hold.permitted;
}
split-covers (own ∷ lines) (interval ∷ ranges) zero at tight proper (units ∷ plan) =
    let split = splits-at (interval ∷ ranges) 0 at proper in
    let from = split.left interval in
    let to = split.right interval in
    record {
      one = λ hold. elim (side-one own interval at units hold.permitted.0 hold.within.0) [
        | inl left ↦ inl (hold-more own lines (tightened own (side_of interval at false)) ranges units plan hold.permitted.0 left (hold-rest own lines interval ranges units plan hold))
        | inr right ↦ inr (hold-more own lines (tightened own (side_of interval at true)) ranges units plan hold.permitted.0 right (hold-rest own lines interval ranges units plan hold))
      ];
      apart = λ left right. side-apart own interval at units from to left.within.0 right.within.0;
      inside = λ right hold. hold-more own lines interval ranges units plan hold.permitted.0 (side-inside own interval at right units from to hold.within.0)
          (hold-rest own lines (tightened own (side_of interval at right)) ranges units plan hold);
    }
split-covers (own ∷ lines) (interval ∷ ranges) (suc line) at tight proper (units ∷ plan) =
    let rest = split-covers lines ranges line at tight.1 proper plan in
    record {
      one = λ hold. elim (rest.one (hold-rest own lines interval ranges units plan hold)) [
        | inl left ↦ inl (hold-more own lines interval (narrowed_lines lines ranges line at false) units plan hold.permitted.0 hold.within.0 left)
        | inr right ↦ inr (hold-more own lines interval (narrowed_lines lines ranges line at true) units plan hold.permitted.0 hold.within.0 right)
      ];
      apart = λ left right. rest.apart (hold-rest own lines interval (narrowed_lines lines ranges line at false) units plan left) (hold-rest own lines interval (narrowed_lines lines ranges line at true) units plan right);
      inside = λ right hold. hold-more own lines interval ranges units plan hold.permitted.0 hold.within.0
          (rest.inside right (hold-rest own lines interval (narrowed_lines lines ranges line at right) units plan hold));
    }

-- ---- a split of a sum
sum-one : (interval : Interval) (at units : ℕ) → LieIn interval units → LieIn (side_of interval at false) units ⊎ LieIn (side_of interval at true) units
sum-one interval at units inside = by (nat_le units at) refl
  where
    by : (t : Bool) → nat_le units at ≡ t → LieIn (side_of interval at false) units ⊎ LieIn (side_of interval at true) units
    by true e = inl (record { low = inside.low; high = grind arith })
    by false e = inr (record { low = grind arith; high = inside.high })

sum-inside : (interval : Interval) (at : ℕ) (right : Bool) (units : ℕ) → interval.low ≤ at → at < interval.high → LieIn (side_of interval at right) units → LieIn interval units
sum-inside interval at false units from to inside = record { low = inside.low; high = omega (arith, inside.high) }
sum-inside interval at true units from to inside = record { low = omega (arith, inside.low); high = inside.high }

-- numbers that lie in the intervals of sums lie in those of exactly one side
record SumsCover (sums : List Interval) (sum at : ℕ) (numbers : List ℕ) : Type 0 where
  pub one : AllZip LieIn sums numbers → AllZip LieIn (narrowed_sums sums sum at false) numbers ⊎ AllZip LieIn (narrowed_sums sums sum at true) numbers
  pub apart : AllZip LieIn (narrowed_sums sums sum at false) numbers → AllZip LieIn (narrowed_sums sums sum at true) numbers → ⊥
  pub inside : (right : Bool) → AllZip LieIn (narrowed_sums sums sum at right) numbers → AllZip LieIn sums numbers

sums-cover : (sums : List Interval) (sum at : ℕ) → IsTrue (splits sums sum at) → (numbers : List ℕ) → SumsCover sums sum at numbers
sums-cover [] sum at proper numbers = absurd (grind arith)
sums-cover (interval ∷ sums) zero at proper [] = record { one = λ all. absurd all; apart = λ left right. left; inside = λ right all. absurd all }
sums-cover (interval ∷ sums) (suc sum) at proper [] = record { one = λ all. absurd all; apart = λ left right. left; inside = λ right all. absurd all }
sums-cover (interval ∷ sums) zero at proper (units ∷ numbers) =
    let split = splits-at (interval ∷ sums) 0 at proper in
    record {
      one = λ all. elim (sum-one interval at units all.0) [
        | inl left ↦ inl (left, all.1)
        | inr right ↦ inr (right, all.1)
      ];
      apart = λ left right. omega (arith, left.0.high, right.0.low);
      inside = λ right all. (sum-inside interval at right units (split.left interval) (split.right interval) all.0, all.1);
    }
sums-cover (interval ∷ sums) (suc sum) at proper (units ∷ numbers) =
    let rest = sums-cover sums sum at proper numbers in
    record {
      one = λ all. elim (rest.one all.1) [
        | inl left ↦ inl (all.0, left)
        | inr right ↦ inr (all.0, right)
      ];
      apart = λ left right. rest.apart left.1 right.1;
      inside = λ right all. (all.0, rest.inside right all.1);
    }

pub splits_cover : SplitsCover
splits_cover book ranges (part.Line line) at tight proper plan =
    let own = split-covers book.lines ranges.lines line at tight.lines proper plan in
    record {
      one = λ hold. elim (own.one hold.lines) [
        | inl left ↦ inl (record { lines = left; sums = hold.sums })
        | inr right ↦ inr (record { lines = right; sums = hold.sums })
      ];
      apart = λ left right. own.apart left.lines right.lines;
      inside = λ right hold. record { lines = own.inside right hold.lines; sums = hold.sums };
    }
splits_cover book ranges (part.Sum sum) at tight proper plan =
    let own = sums-cover ranges.sums sum at proper (sums_of book plan) in
    record {
      one = λ hold. elim (own.one hold.sums) [
        | inl left ↦ inl (record { lines = hold.lines; sums = left })
        | inr right ↦ inr (record { lines = hold.lines; sums = right })
      ];
      apart = λ left right. own.apart left.sums right.sums;
      inside = λ right hold. record { lines = hold.lines; sums = own.inside right hold.sums };
    }

-- ---- sums rise with the units
abbrev AreBelow : List ℕ → List ℕ → Type 0
AreBelow plan more = AllZip (λ units most. units ≤ most) plan more

counted-below : (sum : ℕ) (own plan more : List ℕ) → AreBelow plan more → counted sum own plan ≤ counted sum own more
counted-below sum [] plan more below = omega arith
counted-below sum (depth ∷ own) [] [] below = omega arith
counted-below sum (depth ∷ own) [] (most ∷ more) below = absurd below
counted-below sum (depth ∷ own) (units ∷ plan) [] below = absurd below
counted-below sum (depth ∷ own) (units ∷ plan) (most ∷ more) below =
    let low = sum_by-cons (λ (p : ℕ × ℕ). if nat_lt sum p.0 then p.1 else 0) (depth, units) (zip own plan) in
    let high = sum_by-cons (λ (p : ℕ × ℕ). if nat_lt sum p.0 then p.1 else 0) (depth, most) (zip own more) in
    let rest = counted-below sum own plan more below.1 in
    let first = by (nat_lt sum depth) in
    omega (arith, low, high, rest, first)
  where
    by : (t : Bool) → (if t then units else 0) ≤ (if t then most else 0)
    by true = below.0
    by false = omega arith

sums-below : (sum : ℕ) (needs : List Flow) (own plan more : List ℕ) → AreBelow plan more → AllZip LieIn (map up_to (sums_from sum needs own more)) (sums_from sum needs own plan)
sums-below sum [] own plan more below = tt
sums-below sum (need ∷ needs) own plan more below =
    (record { low = omega arith; high = counted-below sum own plan more below }, sums-below (suc sum) needs own plan more below)

permitted-below : (lines : List Line) (plan : List ℕ) → AllZip IsPermittedUnits lines plan → AreBelow plan (map (λ (line : Line). line.most) lines)
permitted-below [] [] permitted = tt
permitted-below [] (units ∷ plan) permitted = absurd permitted
permitted-below (line ∷ lines) [] permitted = absurd permitted
permitted-below (line ∷ lines) (units ∷ plan) permitted = (few permitted.0, permitted-below lines plan permitted.1)
  where
    few : IsPermittedUnits line units → units ≤ line.most
    few (inl none) = omega arith
    few (inr some) = some.1

-- the sums of a permitted portfolio lie in those of the root
root-sums_hold : (book : BookContents) (plan : List ℕ) → AllZip IsPermittedUnits book.lines plan → AllZip LieIn (root_of book).sums (sums_of book plan)
root-sums_hold book plan permitted = sums-below 0 book.needs (depths book) plan (map (λ (line : Line). line.most) book.lines) (permitted-below book.lines plan permitted)

-- ---- what tight ranges hold
pub lows-held : (lines : List Line) (ranges : List Interval) → AllZip IsTight lines ranges → LinesHold lines ranges (map (λ (interval : Interval). interval.low) ranges)
lows-held [] [] tight = record { permitted = tt; within = tt }
lows-held [] (interval ∷ ranges) tight = absurd tight
lows-held (line ∷ lines) [] tight = absurd tight
lows-held (line ∷ lines) (interval ∷ ranges) tight =
    hold-more line lines interval ranges interval.low (map (λ (i : Interval). i.low) ranges) tight.0.low (record { low = omega arith; high = tight.0.ordered }) (lows-held lines ranges tight.1)

pub tight_hold : TightHold
tight_hold book ranges tight whole =
    let held = lows-held book.lines ranges.lines tight.lines in (
      map (λ (interval : Interval). interval.low) ranges.lines,
      record {
        lines = held;
        sums = subst (λ (sums : List Interval). AllZip LieIn sums (sums_of book (map (λ (interval : Interval). interval.low) ranges.lines))) (sym whole)
            (root-sums_hold book (map (λ (interval : Interval). interval.low) ranges.lines) held.permitted);
      },
    )

highs-held : (lines : List Line) (ranges : List Interval) → AllZip IsTight lines ranges → LinesHold lines ranges (map (λ (interval : Interval). interval.high) ranges)
highs-held [] [] tight = record { permitted = tt; within = tt }
highs-held [] (interval ∷ ranges) tight = absurd tight
highs-held (line ∷ lines) [] tight = absurd tight
highs-held (line ∷ lines) (interval ∷ ranges) tight =
    hold-more line lines interval ranges interval.high (map (λ (i : Interval). i.high) ranges) tight.0.high (record { low = tight.0.ordered; high = omega arith }) (highs-held lines ranges tight.1)

pub only-one : (lines : List Line) (ranges : List Interval) → IsTrue (are_single ranges) → (plan other : List ℕ) → LinesHold lines ranges plan → LinesHold lines ranges other → plan ≡ other
only-one lines [] single [] [] hold holds = refl
only-one lines [] single [] (units ∷ other) hold holds = absurd holds.within
only-one lines [] single (units ∷ plan) other hold holds = absurd hold.within
only-one lines (interval ∷ ranges) single [] other hold holds = absurd hold.within
only-one lines (interval ∷ ranges) single (units ∷ plan) [] hold holds = absurd holds.within
only-one [] (interval ∷ ranges) single (units ∷ plan) (more ∷ other) hold holds = absurd hold.permitted
only-one (line ∷ lines) (interval ∷ ranges) single (units ∷ plan) (more ∷ other) hold holds =
    let ends : interval.low ≡ interval.high = grind arith in
    let rest : IsTrue (are_single ranges) = grind arith in
    let first : units ≡ more = omega (arith, hold.within.0.low, hold.within.0.high, holds.within.0.low, holds.within.0.high) in
    (λ i. first i ∷ only-one lines ranges rest plan other (hold-rest line lines interval ranges units plan hold) (hold-rest line lines interval ranges more other holds) i)

ends-same : (ranges : List Interval) → map (λ (interval : Interval). interval.low) ranges ≡ map (λ (interval : Interval). interval.high) ranges → IsTrue (are_single ranges)
ends-same [] same = refl
ends-same (interval ∷ ranges) same =
    let first : interval.low ≡ interval.high = ap (λ (xs : List ℕ). get_or xs 0 0) same in
    let test : (interval.low == interval.high) ≡ true = grind arith in
    rw test (ends-same ranges (ap (drop 1) same))

pub single_hold_one : SingleHoldOne
single_hold_one book ranges tight = (
  λ single. only-one book.lines ranges.lines single,
  λ only. ends-same ranges.lines (only (map (λ (interval : Interval). interval.low) ranges.lines) (map (λ (interval : Interval). interval.high) ranges.lines) (lows-held book.lines ranges.lines tight.lines)
      (highs-held book.lines ranges.lines tight.lines)),
)

-- ---- the root
whole-tight : (line : Line) → (line.least ≤ line.most) ⊎ (line.most ≡ 0) → IsTight line (whole_interval line)
whole-tight line (inl order) = record { low = inl refl; high = inr (order, omega arith); ordered = omega arith }
whole-tight line (inr none) = record { low = inl refl; high = inl none; ordered = omega arith }

cash-order : (line : Line) → IsCashLine line → (line.least ≤ line.most) ⊎ (line.most ≡ 0)
cash-order line cash = by line.most refl
  where
    by : (most : ℕ) → line.most ≡ most → (line.least ≤ line.most) ⊎ (line.most ≡ 0)
    by zero e = inr e
    by (suc n) e = inl (omega (arith, cash.least, e))

securities-tight : (days : PaymentDays) (lines : List Line) → All (IsSecurityLine days) lines → AllZip IsTight lines (map whole_interval lines)
securities-tight days [] are = tt
securities-tight days (line ∷ lines) are =
    (whole-tight line (inl (All-head (IsSecurityLine days) line lines are).ordered), securities-tight days lines (All-tail (IsSecurityLine days) line lines are))

lines-tight : (days : PaymentDays) (lines : List Line) → AreLines days lines → AllZip IsTight lines (map whole_interval lines)
lines-tight days [] are = absurd are
lines-tight days (cash ∷ securities) are = (whole-tight cash (cash-order cash are.0), securities-tight days securities are.1)

pub root_is_tight : RootIsTight
root_is_tight book limits = record {
  lines = lines-tight book.days book.lines limits.lines;
  ordered = up-ordered (sums_of book (map (λ (line : Line). line.most) book.lines));
  sums = (root-of book).sums;
}

abbrev PairIsPermitted : Line × ℕ → Type 0
PairIsPermitted p = IsPermittedUnits p.0 p.1

in-root : (lines : List Line) (plan : List ℕ) → length plan ≡ length lines → All PairIsPermitted (zip lines plan) → LinesHold lines (map whole_interval lines) plan
in-root [] [] same permitted = record { permitted = tt; within = tt }
in-root [] (units ∷ plan) same permitted = absurd (omega arith)
in-root (line ∷ lines) [] same permitted = absurd (omega arith)
in-root (line ∷ lines) (units ∷ plan) same permitted =
    let own = All-head PairIsPermitted (line, units) (zip lines plan) permitted in
    hold-more line lines (whole_interval line) (map whole_interval lines) units plan own (record { low = omega arith; high = few own }) (in-root lines plan (omega arith) (All-tail PairIsPermitted (line, units) (zip lines plan) permitted))
  where
    few : IsPermittedUnits line units → units ≤ line.most
    few (inl none) = omega arith
    few (inr some) = some.1

from-root : (lines : List Line) (plan : List ℕ) → AllZip IsPermittedUnits lines plan → (length plan ≡ length lines) × All PairIsPermitted (zip lines plan)
from-root [] [] permitted = (refl, All-nil PairIsPermitted)
from-root [] (units ∷ plan) permitted = absurd permitted
from-root (line ∷ lines) [] permitted = absurd permitted
from-root (line ∷ lines) (units ∷ plan) permitted =
    let rest = from-root lines plan permitted.1 in
    (ap suc rest.0, All-cons PairIsPermitted (line, units) (zip lines plan) permitted.0 rest.1)

pub root_holds_all : RootHoldsAll
root_holds_all book plan = (
  λ permitted. (let lines = in-root book.lines plan permitted.same_length permitted.units in record { lines = lines; sums = root-sums_hold book plan lines.permitted }),
  λ hold. (let both = from-root book.lines plan hold.lines.permitted in record { same_length = both.0; units = both.1 }),
)
