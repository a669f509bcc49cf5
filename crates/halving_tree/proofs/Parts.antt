-- How many nodes an upper part of the halving tree has.
use Rattle.std.proofs.Common.{◌≡◌, ◌∙◌, inl, inr, ℕ, ◌+◌, ◌*◌, ◌<◌, ◌≤◌, List, [], ◌∷◌, ◌++◌, length, refl, sym, ap, subst, arith, length-append, Bool, true, false, ◌||◌}
use Rattle.std.specs.Prelude.{IsTrue}
use Rattle.std.proofs.lemmas.Bool.{cases_lt}
use Rattle.case_file.specs.Case.{CaseContents}
use Rattle.node_ranges.proofs.RangeFacts.{part-tight}
use Rattle.node_ranges.proofs.RangeLaws.{root_holds_all, root_is_tight, splits_cover, tight_hold}
use Rattle.node_ranges.specs.Ranges.{AreTight, Hold, RangesContents, is_proper, is_single, narrowed, root_of}
use Rattle.proof_tree.specs.declared.interval.Interval.{Interval}
use Rattle.proof_tree.specs.declared.tree.Part.TheVariants as parts
use Rattle.offer_book.specs.Book.{BookContents, IsBook}
use Rattle.offer_book.specs.declared.line.Line.{Line}
use Rattle.halving_tree.proofs.Distinct.{AreDistinct, Member, distinct-append, distinct-few, member-append, member-contained}
use Rattle.halving_tree.proofs.Middle.{halved-proper}
use Rattle.halving_tree.specs.Halving.{IsHalvingTree, IsUpperPart, IsWidest, PartsAreFew, PartsAreWithin, Splits, End, Split, is_borne_out, is_end, is_unreached, middle_at, node_count, width_at}

-- ---- one place to split
same-widest : (lines : List Line) (ranges : List Interval) (a b : ℕ) → IsWidest lines ranges a → IsWidest lines ranges b → a ≡ b
same-widest lines ranges a b one other =
    let below : a < b → width_at lines ranges a < width_at lines ranges b = other.first a in
    let above : b < a → width_at lines ranges b < width_at lines ranges a = one.first b in
    let no_more : width_at lines ranges b ≤ width_at lines ranges a = one.greatest b other.there in
    let no_less : width_at lines ranges a ≤ width_at lines ranges b = other.greatest a one.there in
    same a b (width_at lines ranges a) (width_at lines ranges b) below above no_more no_less
  where
    same : (a b x y : ℕ) → (a < b → x < y) → (b < a → y < x) → y ≤ x → x ≤ y → a ≡ b
    same a b x y below above no_more no_less = elim (cases_lt a b) [
      | inl lt ↦ absurd (omega (arith, below lt, no_more))
      | inr ge ↦ elim (cases_lt b a) [
        | inl gt ↦ absurd (omega (arith, above gt, no_less))
        | inr le ↦ omega arith
      ]
    ]

some-nodes : (tree : Splits) → 1 ≤ node_count tree
some-nodes End = omega arith
some-nodes (Split line at left right) = omega arith

parts-within : (case : CaseContents) (ranges : RangesContents) (part tree : Splits) → IsUpperPart case ranges part → IsHalvingTree case ranges tree → node_count part ≤ node_count tree
parts-within case ranges End tree upper whole = some-nodes tree
parts-within case ranges (Split line at left right) End upper whole = absurd (cc)
parts-within case ranges (Split line at left right) (Split line2 at2 left2 right2) upper whole =
    let same : line2 ≡ line = same-widest case.book.lines ranges.lines line2 line whole.1.widest upper.1.widest in
    let middle : at2 ≡ at = whole.1.middle ∙ ap (λ (l : ℕ). middle_at ranges.lines l) same ∙ sym upper.1.middle in
    let one = parts-within case (narrowed case.book ranges (parts.Line line) at false) left left2 upper.2
    (subst (λ (l : ℕ). IsHalvingTree case (narrowed case.book ranges (parts.Line l) at false) left2) same (subst (λ (a : ℕ). IsHalvingTree case (narrowed case.book ranges (parts.Line line2) a false) left2) middle whole.2)) in
    let other = parts-within case (narrowed case.book ranges (parts.Line line) at true) right right2 upper.3
    (subst (λ (l : ℕ). IsHalvingTree case (narrowed case.book ranges (parts.Line l) at true) right2) same (subst (λ (a : ℕ). IsHalvingTree case (narrowed case.book ranges (parts.Line line2) a true) right2) middle whole.3)) in
    omega arith

pub parts_are_within : PartsAreWithin
parts_are_within case part tree upper whole = parts-within case _ part tree upper whole

-- ---- the ends of a part hold portfolios, each another one
abbrev ends : Splits → ℕ
ends End = 1
ends (Split line at left right) = ends left + ends right

twice-ends : (part : Splits) → node_count part + 1 ≡ 2 * ends part
twice-ends End = refl
twice-ends (Split line at left right) = omega (arith, twice-ends left, twice-ends right)

-- one portfolio of each end
record Samples (book : BookContents) (ranges : RangesContents) (count : ℕ) : Type 0 where
  plans : List (List ℕ)
  many : length plans ≡ count
  distinct : AreDistinct plans
  held : (plan : List ℕ) → Member plans plan → Hold book ranges plan

samples-end : (book : BookContents) (ranges : RangesContents) → AreTight book ranges → ranges.sums ≡ (root_of book).sums → Samples book ranges 1
samples-end book ranges tight sums =
    let one = tight_hold book ranges tight sums in
    record {
      plans = one.0 ∷ [];
      many = refl;
      distinct = (λ y m same. m, tt);
      held = λ plan m. elim m [
        | inl same ↦ subst (Hold book ranges) (sym same) one.1
        | inr none ↦ absurd none
      ];
    }

samples-both : (book : BookContents) (ranges : RangesContents) (line at one other : ℕ) → AreTight book ranges → IsTrue (is_proper ranges (parts.Line line) at)
    → Samples book (narrowed book ranges (parts.Line line) at false) one → Samples book (narrowed book ranges (parts.Line line) at true) other → Samples book ranges (one + other)
samples-both book ranges line at one other tight proper left right = record {
  plans = left.plans ++ right.plans;
  many = omega (arith, length-append left.plans right.plans, left.many, right.many);
  distinct = distinct-append left.plans right.plans left.distinct right.distinct
      (λ x y m n same. (splits_cover book ranges (parts.Line line) at tight proper y).apart (subst (Hold book (narrowed book ranges (parts.Line line) at false)) same (left.held x m)) (right.held y n));
  held = λ plan m. elim (member-append left.plans right.plans plan m) [
    | inl first ↦ (splits_cover book ranges (parts.Line line) at tight proper plan).inside false (left.held plan first)
    | inr second ↦ (splits_cover book ranges (parts.Line line) at tight proper plan).inside true (right.held plan second)
  ];
}

not-single : (case : CaseContents) (ranges : RangesContents) → is_end case ranges ≡ false → is_single ranges ≡ false
not-single case ranges goes_on = by (is_single ranges) (is_borne_out case ranges || is_unreached case ranges) goes_on
  where
    by : (a b : Bool) → (a || b) ≡ false → a ≡ false
    by true b e = absurd (cc)
    by false b e = refl

-- splits of lines leave the ranges of sums as they are
samples : (case : CaseContents) (ranges : RangesContents) (part : Splits) → IsBook case.book → AreTight case.book ranges → ranges.sums ≡ (root_of case.book).sums
    → IsUpperPart case ranges part → Samples case.book ranges (ends part)
samples case ranges End limits tight sums upper = samples-end case.book ranges tight sums
samples case ranges (Split line at left right) limits tight sums upper =
    let book = case.book in
    let proper = halved-proper case.book ranges.lines line at limits tight.lines (not-single case ranges upper.0) upper.1 in
    samples-both book ranges line at (ends left) (ends right) tight proper
    (samples case (narrowed book ranges (parts.Line line) at false) left limits (part-tight book ranges (parts.Line line) at false tight proper) sums upper.2)
    (samples case (narrowed book ranges (parts.Line line) at true) right limits (part-tight book ranges (parts.Line line) at true tight proper) sums upper.3)

pub parts_are_few : PartsAreFew
parts_are_few case part limits upper portfolios all =
    let root = root_of case.book in
    let found = samples case root part limits (root_is_tight case.book limits) refl upper in
    let few = distinct-few found.plans portfolios found.distinct
    (λ plan m. member-contained portfolios plan (all plan ((root_holds_all case.book plan).1 (found.held plan m)))) in
    omega (arith, few, found.many, twice-ends part)
