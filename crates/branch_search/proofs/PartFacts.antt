-- What a search finds at the node in hand, and how the best plan goes on.
use Rattle.std.proofs.Common.{◌≡◌, ◌∙◌, inl, inr, ℕ, zero, suc, ◌-◌, ◌<◌, ◌≤◌, ◌==◌, ℤ, pos, ◌≤ℤ◌, ◌<ℤ◌, Bool, true, false, ◌&&◌, ◌||◌, List, [], ◌∷◌, length, set, get_or, refl, sym, ap, subst, arith, Option, Some, None, Result, Ok, Err}
use Rattle.std.specs.List.{AllZip}
use Rattle.std.specs.Prelude.{IfOk, MatchOption, OnOk, int_le, int_lt, option_map}
use Rattle.std.proofs.lemmas.Bool.{cases_lt}
use Rattle.std.proofs.lemmas.Bool.Decides.{nat_tests}
use Rattle.std.proofs.lemmas.Int.{ints}
use Rattle.std.proofs.lemmas.List.{get_or_default, length-map}
use Rattle.case_file.specs.Case.{CaseContents}
use Rattle.cash_table.specs.First.{first_short_of}
use Rattle.cash_table.proofs.DayFacts.{first_short_is}
use Rattle.cash_table.proofs.PointFacts.{beyond_limit, excluded_tells}
use Rattle.cash_table.specs.Points.{IsExcluded, is_excluded, is_within_limit}
use Rattle.day_sums.specs.Summed.{total_by}
use Rattle.dual_bound.specs.LeafBound.{bound_of, least_cost_of}
use Rattle.node_ranges.proofs.CostFacts.{cost-some}
use Rattle.node_ranges.proofs.RangeFacts.{narrowed-set, root-of, sums-count, tight-length, tight-of}
use Rattle.node_ranges.specs.Ranges.{AreTight, IsTight, RangesContents, is_single, narrowed, narrowed_lines, root_of, side_of, tightened, whole_interval, with_interval}
use Rattle.node_ranges.specs.Claims.{costs_enough, low_ends}
use Rattle.price_lp.specs.declared.proposing.TheConstants.{LEAST_WEIGHT}
use Rattle.proof_tree.specs.declared.prices.TheConstants.{PRICE_SCALE}
use Rattle.proof_tree.specs.Tree.{IsLeaf}
use Rattle.proof_tree.specs.declared.interval.Interval.{Interval}
use Rattle.proof_tree.specs.declared.tree.Leaf.{Leaf}
use Rattle.proof_tree.specs.declared.tree.Part.TheVariants as part
use Rattle.dual_tune.specs.Steps.{IsImproved, ShowsNoGreater, zeros_like}
use Rattle.dual_tune.specs.Tuner.{TunerContents}
use Rattle.halving_tree.specs.Base.{base_leaf, reach_leaf}
use Rattle.halving_tree.specs.Halving.{high_ends, is_short_by, is_unreached}
use Rattle.offer_book.specs.Book.{BookContents, IsBook}
use Rattle.offer_book.specs.CaseBook.{cash_line}
use Rattle.offer_book.specs.declared.line.Line.{Line}
use Rattle.escrow_units.specs.declared.limits.TheConstants.{GREATEST_YIELD}
use Rattle.offer_book.specs.Portfolio.{IsFirstShort, Meets, cost, payments}
use Rattle.search_tree.proofs.ZeroFacts.{zeros-some}
use Rattle.search_tree.specs.Best.{CoversBackward, IsAtMost, IsNoDearer}
use Rattle.search_tree.specs.Growing.{IsLostPoint, IsPriced, ShowsNone}
use Rattle.branch_search.specs.Parts.{IsCounted}
use Rattle.branch_search.specs.Search.{IsNoDearerThanBackward}

-- ---- what a node's leaf is
tuned-improved : (case : CaseContents) (tuner : TunerContents) (base leaf : Leaf) (ranges : RangesContents) → tuner ≡ record { book = case.book; yield_units = case.limit - 1 } → base ≡ base_leaf case.book
    → IsImproved tuner.yield_units tuner.book ranges base leaf → IsImproved (case.limit - 1) case.book ranges (base_leaf case.book) leaf
tuned-improved case tuner base leaf ranges tuned based improved =
    subst (λ (b : Leaf). IsImproved (case.limit - 1) case.book ranges b leaf) based
    (subst (λ (t : TunerContents). IsImproved t.yield_units t.book ranges base leaf) tuned improved)

tuned-zeros : (case : CaseContents) (tuner : TunerContents) (base leaf : Leaf) (ranges : RangesContents) → tuner ≡ record { book = case.book; yield_units = case.limit - 1 } → base ≡ base_leaf case.book
    → ShowsNoGreater tuner.yield_units tuner.book ranges (zeros_like tuner.book base) leaf → ShowsNoGreater (case.limit - 1) case.book ranges (zeros_like case.book (base_leaf case.book)) leaf
tuned-zeros case tuner base leaf ranges tuned based zeros =
    subst (λ (b : Leaf). ShowsNoGreater (case.limit - 1) case.book ranges (zeros_like case.book b) leaf) based
    (subst (λ (t : TunerContents). ShowsNoGreater t.yield_units t.book ranges (zeros_like t.book base) leaf) tuned zeros)

pub tuned-bound : (case : CaseContents) (tuner : TunerContents) (leaf : Leaf) (ranges : RangesContents) → tuner ≡ record { book = case.book; yield_units = case.limit - 1 }
    → bound_of tuner.yield_units tuner.book ranges leaf ≡ bound_of (case.limit - 1) case.book ranges leaf
tuned-bound case tuner leaf ranges tuned = ap (λ (t : TunerContents). bound_of t.yield_units t.book ranges leaf) tuned

tuned-shown : (case : CaseContents) (tuner : TunerContents) (leaf : Leaf) (ranges : RangesContents) → tuner ≡ record { book = case.book; yield_units = case.limit - 1 }
    → least_cost_of tuner.yield_units tuner.book ranges leaf ≡ least_cost_of (case.limit - 1) case.book ranges leaf
tuned-shown case tuner leaf ranges tuned = ap (λ (t : TunerContents). least_cost_of t.yield_units t.book ranges leaf) tuned

pub priced-is : (case : CaseContents) (tuner : TunerContents) (base leaf : Leaf) (ranges : RangesContents) (bound : ℤ) → tuner ≡ record { book = case.book; yield_units = case.limit - 1 } → base ≡ base_leaf case.book
    → IsBook case.book → AreTight case.book ranges → IsImproved tuner.yield_units tuner.book ranges base leaf → ShowsNoGreater tuner.yield_units tuner.book ranges (zeros_like tuner.book base) leaf
    → LEAST_WEIGHT ≤ leaf.rho → bound ≡ least_cost_of tuner.yield_units tuner.book ranges leaf → IsPriced case ranges (record { leaf = leaf; bound = bound })
priced-is case tuner base leaf ranges bound tuned based limits tight improved zeros weighs is = record {
  improved = own;
  weighs = weighs;
  bound = is ∙ tuned-shown case tuner leaf ranges tuned;
  some =
      let none = cost-some PRICE_SCALE (bound_of (case.limit - 1) case.book ranges (zeros_like case.book (base_leaf case.book)))
      (zeros-some (case.limit - 1) case.book (length case.book.needs) ranges limits tight) in
      let no_greater = tuned-zeros case tuner base leaf ranges tuned based zeros own.alike in
      omega (arith, ints, none, no_greater, is, tuned-shown case tuner leaf ranges tuned);
}
  where
    own : IsImproved (case.limit - 1) case.book ranges (base_leaf case.book) leaf
    own = tuned-improved case tuner base leaf ranges tuned based improved

-- a leaf that doesn't weigh the cost, and whose bound is above 0, shows that there is no portfolio
pub shows-none : (case : CaseContents) (tuner : TunerContents) (leaf : Leaf) (ranges : RangesContents) (bound : ℤ) → tuner ≡ record { book = case.book; yield_units = case.limit - 1 }
    → IsLeaf (length tuner.book.needs) leaf → leaf.rho ≡ 0 → bound ≡ bound_of tuner.yield_units tuner.book ranges leaf → pos 0 <ℤ bound → ShowsNone case ranges leaf
shows-none case tuner leaf ranges bound tuned well_formed without_cost is above = record {
  well_formed = subst (λ (t : TunerContents). IsLeaf (length t.book.needs) leaf) tuned well_formed;
  without_cost = without_cost;
  above = omega (arith, ints, is, above, tuned-bound case tuner leaf ranges tuned);
}

-- a leaf that weighs the cost isn't one that doesn't
weighs-some : (rho : ℕ) → 1 ≤ rho → (rho == 0) ≡ false
weighs-some rho some = grind (arith, nat_tests)

-- the parent's leaf shows no more
pub parent-no_more : (case : CaseContents) (tuner : TunerContents) (base parent leaf : Leaf) (ranges : RangesContents) (bound : ℤ) → tuner ≡ record { book = case.book; yield_units = case.limit - 1 } → base ≡ base_leaf case.book
    → IsImproved tuner.yield_units tuner.book ranges base leaf → ShowsNoGreater tuner.yield_units tuner.book ranges parent leaf → bound ≡ least_cost_of tuner.yield_units tuner.book ranges leaf
    → 1 ≤ parent.rho → least_cost_of (case.limit - 1) case.book ranges parent ≤ℤ bound
parent-no_more case tuner base parent leaf ranges bound tuned based improved start is some =
    let own = tuned-improved case tuner base leaf ranges tuned based improved in
    let no_greater = start (weighs-some parent.rho some ∙ own.alike) in
    omega (arith, ints, no_greater, is, tuned-shown case tuner parent ranges tuned)

-- ---- whether the needs are reached
pub reached-is : (case : CaseContents) (ranges : RangesContents) (plan : List ℕ) (day : ℤ) → plan ≡ high_ends ranges → Some day ≡ first_short_of case.book plan
    → bound_of (case.limit - 1) case.book ranges (reach_leaf case.book.needs day) ≤ℤ pos 0 → is_unreached case ranges ≡ false
reached-is case ranges plan day is_high short no_more =
    ap (λ (p : List ℕ). is_short_by case ranges (first_short_of case.book p)) (sym is_high) ∙ ap (is_short_by case ranges) (sym short)
    ∙ not-above (int_lt (pos 0) (bound_of (case.limit - 1) case.book ranges (reach_leaf case.book.needs day))) refl
  where
    not-above : (b : Bool) → int_lt (pos 0) (bound_of (case.limit - 1) case.book ranges (reach_leaf case.book.needs day)) ≡ b → b ≡ false
    not-above true above = absurd (omega (arith, ints, above, no_more))
    not-above false above = refl

-- where the high ends meet the needs, there is no day on which they are short
pub met-reaches : (case : CaseContents) (ranges : RangesContents) (plan : List ℕ) → IsBook case.book → plan ≡ high_ends ranges → Meets case.book plan → is_unreached case ranges ≡ false
met-reaches case ranges plan limits is_high meets =
    ap (λ (p : List ℕ). is_short_by case ranges (first_short_of case.book p)) (sym is_high)
    ∙ ap (is_short_by case ranges) (by (first_short_of case.book plan) (first_short_is case.book plan limits.needs.rising))
  where
    by : (found : Option ℤ) → MatchOption found (Meets case.book plan) (IsFirstShort case.book plan) → found ≡ None
    by None told = refl
    by (Some day) told = absurd (omega (arith, told.short, meets day))

-- ---- a point
-- a portfolio that doesn't count is excluded
point-counts : (case : CaseContents) (ranges : RangesContents) (best : Option ℕ) → (excluded enough : Bool) → (excluded ≡ false → enough ≡ true) → is_single ranges ≡ true → (is_single ranges && (excluded || enough)) ≡ true
point-counts case ranges best true enough more single = rw single refl
point-counts case ranges best false enough more single = rw single (more refl)

-- what isn't excluded meets the needs within the limit
not-excluded : (case : CaseContents) (plan : List ℕ) → IsBook case.book → is_excluded case.book (case.limit - 1) plan ≡ false → IsExcluded case.book (case.limit - 1) plan → ⊥
not-excluded case plan limits free excluded = (let clash : false ≡ true = sym free ∙ (excluded_tells case.book (case.limit - 1) plan limits).1 excluded in cc)

free-meets : (case : CaseContents) (plan : List ℕ) → IsBook case.book → is_excluded case.book (case.limit - 1) plan ≡ false → Meets case.book plan
free-meets case plan limits free = λ t. elim (cases_lt (total_by t (payments case.book plan)) (total_by t case.book.needs)) [
  | inl short ↦ absurd (not-excluded case plan limits free (inl (t, short)))
  | inr enough ↦ enough
]

free-within : (case : CaseContents) (plan : List ℕ) → IsBook case.book → 1 ≤ case.limit → case.limit ≤ GREATEST_YIELD → is_excluded case.book (case.limit - 1) plan ≡ false → is_within_limit case.limit case.book plan ≡ true
free-within case plan limits from to free = by (is_within_limit case.limit case.book plan) refl
  where
    by : (b : Bool) → is_within_limit case.limit case.book plan ≡ b → is_within_limit case.limit case.book plan ≡ true
    by true within = within
    by false beyond = absurd (not-excluded case plan limits free (beyond_limit case.limit case.book plan limits from to beyond))

enough-cost : (case : CaseContents) (plan : List ℕ) (best : Option ℕ) → IsAtMost best (cost case.book plan) → costs_enough case.book (option_map pos best) plan ≡ true
enough-cost case plan None most = absurd most
enough-cost case plan (Some cents) most = by (int_le (pos cents) (pos (cost case.book plan))) refl
  where
    by : (b : Bool) → int_le (pos cents) (pos (cost case.book plan)) ≡ b → int_le (pos cents) (pos (cost case.book plan)) ≡ true
    by true is = is
    by false is = absurd (omega (arith, ints, is, most))

-- the one portfolio of single ranges is no rival, or the best plan costs no more
pub point-lost : (case : CaseContents) (ranges : RangesContents) (best : Option ℕ) → IsBook case.book → 1 ≤ case.limit → case.limit ≤ GREATEST_YIELD → is_single ranges ≡ true → IsCounted case (low_ends ranges) best
    → IsLostPoint case best ranges
point-lost case ranges best limits from to single counted = record {
  closed = point-counts case ranges best (is_excluded case.book (case.limit - 1) (low_ends ranges)) (costs_enough case.book (option_map pos best) (low_ends ranges))
      (λ free. enough-cost case (low_ends ranges) best (counted (free-meets case (low_ends ranges) limits free) (free-within case (low_ends ranges) limits from to free))) single;
  lost = λ none meets within. subst (λ (b : Option ℕ). IsAtMost b (cost case.book (low_ends ranges))) none (counted meets within);
}

-- ---- the best plan
-- the backward plan is covered
pub covers-backward : (case : CaseContents) (best : Option ℕ) → IsNoDearerThanBackward case.limit case.book best → CoversBackward case best
covers-backward case None no_dearer = λ built is within. absurd (let clash : true ≡ false = sym within ∙ (no_dearer built is).of_built in cc)
covers-backward case (Some cents) no_dearer = λ built is within. (no_dearer built is).of_built within

-- so it stays, where the best plan gets cheaper
pub dearer-kept : (limit : ℕ) (book : BookContents) (best after : Option ℕ) → IsNoDearer best after → IsNoDearerThanBackward limit book best → IsNoDearerThanBackward limit book after
dearer-kept limit book None None cheaper no_dearer = no_dearer
dearer-kept limit book None (Some cents) cheaper no_dearer = λ built is. record {
  trimmed = (no_dearer built is).trimmed;
  from_built = (no_dearer built is).from_built;
  of_built = λ within. absurd (let clash : true ≡ false = sym within ∙ (no_dearer built is).of_built in cc);
  of_trimmed = λ within. absurd (let clash : true ≡ false = sym within ∙ (no_dearer built is).of_trimmed in cc);
}
dearer-kept limit book (Some before) None cheaper no_dearer = absurd cheaper
dearer-kept limit book (Some before) (Some cents) cheaper no_dearer = λ built is. record {
  trimmed = (no_dearer built is).trimmed;
  from_built = (no_dearer built is).from_built;
  of_built = λ within. omega (arith, cheaper, (no_dearer built is).of_built within);
  of_trimmed = λ within. omega (arith, cheaper, (no_dearer built is).of_trimmed within);
}

pub no_dearer-trans : (before between after : Option ℕ) → IsNoDearer before between → IsNoDearer between after → IsNoDearer before after
no_dearer-trans None between after first second = tt
no_dearer-trans (Some cents) None after first second = absurd first
no_dearer-trans (Some cents) (Some other) None first second = absurd second
no_dearer-trans (Some cents) (Some other) (Some last) first second = omega (arith, first, second)

pub no_dearer-same : (best : Option ℕ) → IsNoDearer best best
no_dearer-same None = tt
no_dearer-same (Some cents) = omega arith

at-most-cheaper : (best after : Option ℕ) (cents : ℕ) → IsNoDearer best after → IsAtMost best cents → IsAtMost after cents
at-most-cheaper None after cents cheaper most = absurd most
at-most-cheaper (Some own) None cents cheaper most = absurd cheaper
at-most-cheaper (Some own) (Some less) cents cheaper most = omega (arith, cheaper, most)

pub covers-cheaper : (case : CaseContents) (best after : Option ℕ) → IsNoDearer best after → CoversBackward case best → CoversBackward case after
covers-cheaper case best after cheaper covers = λ built is within. at-most-cheaper best after (cost case.book built) cheaper (covers built is within)

-- ---- the ranges of the root
-- tight ranges have as many intervals
pub as-many_lines : (book : BookContents) (root ranges : RangesContents) → root ≡ root_of book → AreTight book ranges → length ranges.lines ≡ length root.lines
as-many_lines book root ranges is tight =
    omega (arith, tight-length book.lines ranges.lines tight.lines, length-map book.lines whole_interval, ap (λ (r : RangesContents). length r.lines) is)

pub as-many_sums : (book : BookContents) (root ranges : RangesContents) → root ≡ root_of book → AreTight book ranges → length ranges.sums ≡ length root.sums
as-many_sums book root ranges is tight =
    sums-count book ranges (tight-of book ranges tight) ∙ sym (sums-count book (root_of book) (root-of book)) ∙ sym (ap (λ (r : RangesContents). length r.sums) is)

-- ---- ranges that are narrowed, and put back
set-back : (ranges : List Interval) (line : ℕ) (own whole : Interval) → whole ≡ get_or ranges line whole → set (set ranges line own) line whole ≡ ranges
set-back [] line own whole is = refl
set-back (first ∷ ranges) zero own whole is = ap (λ (interval : Interval). interval ∷ ranges) is
set-back (first ∷ ranges) (suc line) own whole is = ap (λ (rest : List Interval). first ∷ rest) (set-back ranges line own whole is)

lines-restored : (lines : List Line) (ranges now : List Interval) (line at : ℕ) (right : Bool) (whole : Interval) → AllZip IsTight lines ranges → line < length lines → now ≡ narrowed_lines lines ranges line at right
    → whole ≡ get_or ranges line whole → set now line whole ≡ ranges
lines-restored lines ranges now line at right whole tight few narrow is =
    let same = tight-length lines ranges tight in
    let inside : line < length ranges = omega (arith, few, same) in
    let none : Line = cash_line 0 in
    let own : Line = get_or lines line none in
    let side = narrowed-set lines ranges line at right own whole inside same (get_or_default lines line none own few) is in
    ap (λ (r : List Interval). set r line whole) (narrow ∙ sym side) ∙ set-back ranges line (tightened own (side_of whole at right)) whole is

pub restored : (book : BookContents) (ranges now back : RangesContents) (line at : ℕ) (right : Bool) (whole : Interval) → AreTight book ranges → line < length book.lines → now ≡ narrowed book ranges (part.Line line) at right
    → whole ≡ get_or ranges.lines line whole → back ≡ with_interval now (part.Line line) whole → back ≡ ranges
restored book ranges now back line at right whole tight few narrow whole_is is =
    let lines = lines-restored book.lines ranges.lines now.lines line at right whole tight.lines few (ap (λ (r : RangesContents). r.lines) narrow) whole_is in
    is ∙ (λ i. record { lines = lines i; sums = (narrow i).sums })

-- ---- the node in hand
-- what holds of a call's answer goes on to hold of what it is made to
pub on-ok-map : {A E : Type 0} (result : Result A E) (P Q : A → Type 0) (S : Type 0) → (S → (x : A) → P x → Q x) → OnOk result S → OnOk result (IfOk result P) → OnOk result (IfOk result Q)
on-ok-map (Ok x) P Q S f s p = f s x p
on-ok-map (Err e) P Q S f s p = tt
