-- Open splits, and what the innermost one does.
use Rattle.std.proofs.Common.{◌≡◌, ◌∙◌, ℕ, zero, suc, ◌<◌, Bool, true, false, if◌then◌else◌, List, [], ◌∷◌, ◌++◌, length, get_or, set, refl, sym, subst, ap, arith, append_assoc, Result, Ok, Err, is_ok, All}
use Rattle.std.specs.Prelude.{IsOk, IsTrue}
use Rattle.std.proofs.lemmas.List.{append-nil, get_or_default}
use Rattle.offer_book.specs.declared.line.Line.{Line}
use Rattle.offer_book.specs.Book.{BookContents}
use Rattle.node_ranges.specs.Ranges.{AreTight, IsOrdered, RangesContents, intervals_of, is_proper, narrowed, narrowed_lines, narrowed_sums, place_of, root_of, with_interval}
use Rattle.proof_tree.specs.declared.interval.Interval.{Interval}
use Rattle.proof_tree.specs.declared.tree.Part.{Part}
use Rattle.proof_tree.specs.declared.tree.Part.TheVariants as parts
use Rattle.node_ranges.proofs.RangeFacts.{narrowed_sums-length, splits-at, tight-ordered}
use Rattle.node_ranges.proofs.RangeLaws.{sides_are_tight}
use Rattle.escrow_check.specs.declared.walk.OpenSplit.{OpenSplit}
use Rattle.escrow_check.specs.Walk.{AreSplitsOf, IsSplitOf, right_side, side_under_way, to_come, within_splits}

pub within-more : (book : BookContents) (ranges : RangesContents) (splits : List OpenSplit) (last : OpenSplit) →
    within_splits book ranges (splits ++ last ∷ []) ≡ side_under_way book (within_splits book ranges splits) last
within-more book ranges [] last = refl
within-more book ranges (split ∷ splits) last = within-more book (side_under_way book ranges split) splits last

pub come-more : (book : BookContents) (ranges : RangesContents) (splits : List OpenSplit) (last : OpenSplit) →
    to_come book ranges (splits ++ last ∷ []) ≡ right_side book (within_splits book ranges splits) last ++ to_come book ranges splits
come-more book ranges [] last = sym (append-nil (right_side book ranges last))
come-more book ranges (split ∷ splits) last =
    let side : RangesContents = side_under_way book ranges split in
    ap (λ (rest : List RangesContents). rest ++ right_side book ranges split) (come-more book side splits last)
    ∙ append_assoc (right_side book (within_splits book side splits) last) (to_come book side splits) (right_side book ranges split)

pub splits-tight : (book : BookContents) (ranges : RangesContents) (splits : List OpenSplit) → AreSplitsOf book ranges splits → AreTight book (within_splits book ranges splits)
splits-tight book ranges [] are = are
splits-tight book ranges (split ∷ splits) are = splits-tight book (side_under_way book ranges split) splits are.1

pub side-tight : (book : BookContents) (ranges : RangesContents) (split : OpenSplit) → IsSplitOf book ranges split → AreTight book (side_under_way book ranges split)
side-tight book ranges split is = sides_are_tight book ranges split.part split.at split.right is.tight is.proper

pub splits-more : (book : BookContents) (ranges : RangesContents) (splits : List OpenSplit) (last : OpenSplit) → AreSplitsOf book ranges splits →
    IsSplitOf book (within_splits book ranges splits) last → AreSplitsOf book ranges (splits ++ last ∷ [])
splits-more book ranges [] last are is = (is, side-tight book ranges last is)
splits-more book ranges (split ∷ splits) last are is = (are.0, splits-more book (side_under_way book ranges split) splits last are.1 is)

pub splits-fewer : (book : BookContents) (ranges : RangesContents) (splits : List OpenSplit) (last : OpenSplit) → AreSplitsOf book ranges (splits ++ last ∷ []) →
    AreSplitsOf book ranges splits × IsSplitOf book (within_splits book ranges splits) last
splits-fewer book ranges [] last are = (are.0.tight, are.0)
splits-fewer book ranges (split ∷ splits) last are =
    let rest = splits-fewer book (side_under_way book ranges split) splits last are.1 in
    ((are.0, rest.0), rest.1)

-- a proper split is of a line or of a sum that the ranges have
pub part-there : (ranges : RangesContents) (part : Part) (at : ℕ) → IsTrue (is_proper ranges part at) → place_of part < length (intervals_of ranges part)
part-there ranges part at proper = (splits-at (intervals_of ranges part) (place_of part) at proper).there

-- its interval, whatever stands for one that isn't there
pub own-interval : (ranges : RangesContents) (part : Part) (at : ℕ) (interval : Interval) → IsTrue (is_proper ranges part at) →
    interval ≡ get_or (intervals_of ranges part) (place_of part) interval →
    (d : Interval) → interval ≡ get_or (intervals_of ranges part) (place_of part) d
own-interval ranges part at interval proper is d =
    is ∙ get_or_default (intervals_of ranges part) (place_of part) interval d (part-there ranges part at proper)

-- an interval that is put back
set_same : (intervals : List Interval) (place : ℕ) (d : Interval) → set intervals place (get_or intervals place d) ≡ intervals
set_same [] place d = refl
set_same (interval ∷ intervals) zero d = refl
set_same (interval ∷ intervals) (suc place) d = ap (λ (rest : List Interval). interval ∷ rest) (set_same intervals place d)

line_back : (lines : List Line) (intervals : List Interval) (line at : ℕ) (right : Bool) (d : Interval) →
    set (narrowed_lines lines intervals line at right) line (get_or intervals line d) ≡ intervals
line_back [] intervals line at right d = set_same intervals line d
line_back (own ∷ lines) [] line at right d = refl
line_back (own ∷ lines) (interval ∷ intervals) zero at right d = refl
line_back (own ∷ lines) (interval ∷ intervals) (suc line) at right d = ap (λ (rest : List Interval). interval ∷ rest) (line_back lines intervals line at right d)

sum_back : (intervals : List Interval) (sum at : ℕ) (right : Bool) (d : Interval) → set (narrowed_sums intervals sum at right) sum (get_or intervals sum d) ≡ intervals
sum_back [] sum at right d = refl
sum_back (interval ∷ intervals) zero at right d = refl
sum_back (interval ∷ intervals) (suc sum) at right d = ap (λ (rest : List Interval). interval ∷ rest) (sum_back intervals sum at right d)

put_back : (book : BookContents) (ranges : RangesContents) (part : Part) (at : ℕ) (right : Bool) (d : Interval) →
    with_interval (narrowed book ranges part at right) part (get_or (intervals_of ranges part) (place_of part) d) ≡ ranges
put_back book ranges (parts.Line line) at right d =
    ap (λ (intervals : List Interval). record ranges { lines = intervals }) (line_back book.lines ranges.lines line at right d)
put_back book ranges (parts.Sum sum) at right d = ap (λ (intervals : List Interval). record ranges { sums = intervals }) (sum_back ranges.sums sum at right d)

pub restored : (book : BookContents) (ranges : RangesContents) (split : OpenSplit) → IsSplitOf book ranges split →
    with_interval (side_under_way book ranges split) split.part split.before ≡ ranges
restored book ranges split is =
    ap (λ (interval : Interval). with_interval (side_under_way book ranges split) split.part interval) (is.before split.before)
    ∙ put_back book ranges split.part split.at split.right split.before

-- a side has as many intervals
lines_length : (lines : List Line) (intervals : List Interval) (line at : ℕ) (right : Bool) → length (narrowed_lines lines intervals line at right) ≡ length intervals
lines_length [] intervals line at right = refl
lines_length (own ∷ lines) [] line at right = refl
lines_length (own ∷ lines) (interval ∷ intervals) zero at right = refl
lines_length (own ∷ lines) (interval ∷ intervals) (suc line) at right = ap suc (lines_length lines intervals line at right)

side_length : (book : BookContents) (ranges : RangesContents) (part : Part) (at : ℕ) (right : Bool) →
    length (intervals_of (narrowed book ranges part at right) part) ≡ length (intervals_of ranges part)
side_length book ranges (parts.Line line) at right = lines_length book.lines ranges.lines line at right
side_length book ranges (parts.Sum sum) at right = narrowed_sums-length ranges.sums sum at right

pub split-there : (book : BookContents) (ranges : RangesContents) (split : OpenSplit) → IsSplitOf book ranges split →
    place_of split.part < length (intervals_of (side_under_way book ranges split) split.part)
split-there book ranges split is =
    omega (arith, side_length book ranges split.part split.at split.right, part-there ranges split.part split.at is.proper)

-- the intervals of lines and of sums are in order
part_ordered : (book : BookContents) (ranges : RangesContents) (part : Part) → AreTight book ranges → All IsOrdered (intervals_of ranges part)
part_ordered book ranges (parts.Line line) tight = tight-ordered book.lines ranges.lines tight.lines
part_ordered book ranges (parts.Sum sum) tight = tight.ordered

pub split-ordered : (book : BookContents) (ranges : RangesContents) (split : OpenSplit) → IsSplitOf book ranges split → IsOrdered split.before
split-ordered book ranges split is =
    let own = is.before split.before in
    let ordered = part_ordered book ranges split.part is.tight (place_of split.part) split.before (part-there ranges split.part split.at is.proper) in
    subst IsOrdered (sym own) ordered

-- a split within those that are open
pub record Within (book : BookContents) (ranges : RangesContents) (splits : List OpenSplit) : Type 0 where
  pub at : ranges ≡ within_splits book (root_of book) splits
  pub split : AreSplitsOf book (root_of book) splits

pub within-tight : (book : BookContents) (ranges : RangesContents) (splits : List OpenSplit) → Within book ranges splits → AreTight book ranges
within-tight book ranges splits within = subst (AreTight book) (sym within.at) (splits-tight book (root_of book) splits within.split)

-- one more split, on the side that is under way
pub record OneMore (book : BookContents) (ranges : RangesContents) (splits : List OpenSplit) (last : OpenSplit) (now : RangesContents) (more : List OpenSplit) : Type 0 where
  pub within : Within book now more
  pub come : to_come book (root_of book) more ≡ right_side book ranges last ++ to_come book (root_of book) splits

pub one-more : (book : BookContents) (ranges : RangesContents) (splits : List OpenSplit) (last : OpenSplit) (now : RangesContents) (more : List OpenSplit) → Within book ranges splits →
    IsTrue (is_proper ranges last.part last.at) → ((d : Interval) → last.before ≡ get_or (intervals_of ranges last.part) (place_of last.part) d) → now ≡ side_under_way book ranges last → more ≡ splits ++ last ∷ [] →
    OneMore book ranges splits last now more
one-more book ranges splits last now more within proper before now_is more_is =
    let root : RangesContents = root_of book in
    let mid : RangesContents = within_splits book root splits in
    let is : IsSplitOf book ranges last = record { tight = within-tight book ranges splits within; proper = proper; before = before } in
    let P : RangesContents → Type 0 = λ r. IsSplitOf book r last in
    let Q : List OpenSplit → Type 0 = λ s. AreSplitsOf book root s in
    record {
      within = record {
        at = now_is ∙ ap (λ (r : RangesContents). side_under_way book r last) within.at ∙ sym (within-more book root splits last)
            ∙ ap (λ (s : List OpenSplit). within_splits book root s) (sym more_is);
        split = subst Q (sym more_is) (splits-more book root splits last within.split (subst P within.at is));
      };
      come = ap (λ (s : List OpenSplit). to_come book root s) more_is ∙ come-more book root splits last
          ∙ ap (λ (r : RangesContents). right_side book r last ++ to_come book root splits) (sym within.at);
    }

-- the last split, once its side is done: its interval is put back
pub record OneFewer (book : BookContents) (ranges : RangesContents) (splits : List OpenSplit) (last : OpenSplit) (fewer : List OpenSplit) : Type 0 where
  pub there : place_of last.part < length (intervals_of ranges last.part)
  pub ordered : IsOrdered last.before
  pub within : Within book (with_interval ranges last.part last.before) fewer
  pub split : IsSplitOf book (with_interval ranges last.part last.before) last
  pub come : to_come book (root_of book) splits ≡ right_side book (with_interval ranges last.part last.before) last ++ to_come book (root_of book) fewer

pub one-fewer : (book : BookContents) (ranges : RangesContents) (splits : List OpenSplit) (last : OpenSplit) (fewer : List OpenSplit) → Within book ranges splits →
    splits ≡ fewer ++ last ∷ [] → OneFewer book ranges splits last fewer
one-fewer book ranges splits last fewer within were =
    let root : RangesContents = root_of book in
    let mid : RangesContents = within_splits book root fewer in
    let Q : List OpenSplit → Type 0 = λ s. AreSplitsOf book root s in
    let both = splits-fewer book root fewer last (subst Q were within.split) in
    let at : ranges ≡ side_under_way book mid last =
    within.at ∙ ap (λ (s : List OpenSplit). within_splits book root s) were ∙ within-more book root fewer last in
    let back : with_interval ranges last.part last.before ≡ mid =
    ap (λ (r : RangesContents). with_interval r last.part last.before) at ∙ restored book mid last both.1 in
    let P : RangesContents → Type 0 = λ r. IsSplitOf book r last in
    record {
      there = omega (arith, ap (λ (r : RangesContents). length (intervals_of r last.part)) at, split-there book mid last both.1);
      ordered = split-ordered book mid last both.1;
      within = record { at = back; split = both.0 };
      split = subst P (sym back) both.1;
      come = ap (λ (s : List OpenSplit). to_come book root s) were ∙ come-more book root fewer last
          ∙ ap (λ (r : RangesContents). right_side book r last ++ to_come book root fewer) (sym back);
    }

-- what a push that had room gives
pub pushed : {X E : Type 0} (answer : Result (Unit {0}) E) (old new : List X) (last : X) → IsOk answer → new ≡ (if is_ok answer then old ++ last ∷ [] else old) → new ≡ old ++ last ∷ []
pushed (Ok done) old new last good e = e
pushed (Err fault) old new last good e = absurd (cc)

-- what waits, by whether the tree is over
pub waiting-going : (over : Bool) (ranges : RangesContents) (rest : List RangesContents) → over ≡ false → (if over then [] else ranges ∷ rest) ≡ ranges ∷ rest
waiting-going over ranges rest going = ap (λ (b : Bool). if b then [] else ranges ∷ rest) going

-- the last split goes over to its right side
pub turned : (book : BookContents) (ranges : RangesContents) (splits : List OpenSplit) (last : OpenSplit) (fewer : List OpenSplit) (back now : RangesContents) (more : List OpenSplit) →
    Within book ranges splits → splits ≡ fewer ++ last ∷ [] → back ≡ with_interval ranges last.part last.before → last.right ≡ false → now ≡ narrowed book back last.part last.at true →
    more ≡ fewer ++ (record last { right = true }) ∷ [] → Within book now more × (now ∷ to_come book (root_of book) more ≡ to_come book (root_of book) splits)
turned book ranges splits last fewer back now more within were back_is left now_is more_is =
    let gone : OneFewer book ranges splits last fewer = one-fewer book ranges splits last fewer within were in
    let other : OpenSplit = record last { right = true } in
    let P : RangesContents → Type 0 = λ r. Within book r fewer × IsSplitOf book r last in
    let here = subst P (sym back_is) (gone.within, gone.split) in
    let next : OneMore book back fewer other now more = one-more book back fewer other now more here.0 here.1.proper here.1.before now_is more_is in
    let side : right_side book back last ≡ now ∷ [] =
    ap (λ (b : Bool). if b then [] else narrowed book back last.part last.at true ∷ []) left ∙ ap (λ (r : RangesContents). r ∷ []) (sym now_is) in (
      next.within,
      ap (λ (ws : List RangesContents). now ∷ ws) next.come
          ∙ ap (λ (ws : List RangesContents). ws ++ to_come book (root_of book) fewer) (sym side)
          ∙ ap (λ (r : RangesContents). right_side book r last ++ to_come book (root_of book) fewer) back_is ∙ sym gone.come,
    )

-- the last split is done
pub dropped : (book : BookContents) (ranges : RangesContents) (splits : List OpenSplit) (last : OpenSplit) (fewer : List OpenSplit) (back : RangesContents) →
    Within book ranges splits → splits ≡ fewer ++ last ∷ [] → back ≡ with_interval ranges last.part last.before → last.right ≡ true →
    Within book back fewer × (to_come book (root_of book) fewer ≡ to_come book (root_of book) splits)
dropped book ranges splits last fewer back within were back_is right =
    let gone : OneFewer book ranges splits last fewer = one-fewer book ranges splits last fewer within were in
    let put : RangesContents = with_interval ranges last.part last.before in
    let rest : List RangesContents = to_come book (root_of book) fewer in
    let come : to_come book (root_of book) splits ≡ rest =
    gone.come ∙ ap (λ (b : Bool). (if b then [] else narrowed book put last.part last.at true ∷ []) ++ rest) right in
    (subst (λ (r : RangesContents). Within book r fewer) (sym back_is) gone.within, sym come)
