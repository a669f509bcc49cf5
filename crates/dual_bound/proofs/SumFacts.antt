-- Sums of worths along series.
use Rattle.std.proofs.Common.{◌≡◌, ◌∙◌, ◌⊎◌, ℕ, Option, zero, suc, ◌+◌, ◌*◌, ◌<◌, ◌≤◌, List, [], ◌∷◌, ◌++◌, All, add-one, get_or, length, length-append, map, set, take, refl, sym, ap, subst, arith, inl, inr}
use Rattle.std.proofs.lemmas.Bool.{cases_eq, cases_lt}
use Rattle.std.proofs.lemmas.List.{get_or-append-add, get_or-map, get_or-set_other, get_or-set_same, get_or_default, length-map, length-set, take_all, take_more}
use Rattle.std.specs.List.{AllZip, Contains, sum_by}
use Rattle.std.proofs.lemmas.List.Sums.{sum_by-cons, sum_by_more}
use Rattle.std.proofs.Math.Seq.{take-append_seam}
use Rattle.std.proofs.lemmas.List.Elements.{All-append, All-cons, All-map}
use Rattle.dual_bound.specs.Columns.{AreDateDays, AreSmallSums, AreSums, IsLightWorth, IsRun, IsRunOf, IsStopWithin, IsSummed, stop_day, sum_after, sum_before, worth_at, worth_on, worth_together}
use Rattle.dual_bound.specs.declared.column.Column.{Column}
use Rattle.dual_bound.specs.declared.date_days.DateDays.{DateDays}
use Rattle.proof_tree.specs.declared.prices.TheConstants.{PRICE_SCALE}
use Rattle.dual_bound.specs.declared.series.Run.{Run}
use Rattle.dual_bound.specs.declared.series.Stop.{Stop}
use Rattle.dual_bound.specs.declared.series.Stop.TheVariants.{Day, Start}
use Rattle.proof_tree.specs.declared.tree.Leaf.{Leaf}
use Rattle.dual_bound.specs.declared.worth.PricedDay.{PricedDay}
use Rattle.dual_bound.specs.declared.worth.Worth.{Worth}
use Rattle.dual_bound.proofs.ColumnMade.{zip-push}
use Rattle.dual_bound.proofs.DateFacts.{change-at, IsListedChange, listed-change, worth-stays}

-- two worths together
abbrev pub joined : Worth → Worth → Worth
joined first second = record { above = first.above + second.above; below = first.below + second.below }

-- the sum before a stop, where the sum at the stop before is the same
before-same : (first second : List Worth) (k : ℕ) → ((j : ℕ) → j + 1 ≡ k → worth_at first j ≡ worth_at second j) → sum_before first k ≡ sum_before second k
before-same first second zero h = refl
before-same first second (suc k) h = h k (omega arith)

-- a sum that stays, as does the one before it
stays-summed : (worths : List Worth) (stops : List Stop) (old new : List Worth) (k : ℕ) → worth_at new k ≡ worth_at old k → sum_before new k ≡ sum_before old k
    → IsSummed worths stops old k → IsSummed worths stops new k
stays-summed worths stops old new k own before h s = own ∙ h s ∙ ap (λ w. sum_after worths w (get_or stops k s)) (sym before)

-- where mending ends before the last stop, each sum is mended or stays
pub mended : (worths : List Worth) (stops : List Stop) (old new : List Worth) (from at : ℕ) → from ≤ at → IsSummed worths stops new at
    → ((k : ℕ) → from ≤ k → k < at → IsSummed worths stops new k) → ((k : ℕ) → k < from → worth_at new k ≡ worth_at old k) → ((k : ℕ) → at ≤ k → worth_at new k ≡ worth_at old k)
    → (k : ℕ) → IsSummed worths stops old k ⊎ (k ≡ from) → IsSummed worths stops new k
mended worths stops old new from at ordered own done early late k was =
    elim (cases_lt k from) [
      | inl lt ↦ stays-summed worths stops old new k (early k lt) (before-same new old k (λ j e. early j (omega (arith, e, lt)))) (old-one (λ e. absurd (omega (arith, e, lt))) was)
      | inr ge ↦
          elim (cases_lt k at) [
            | inl lt ↦ done k ge lt
            | inr from_at ↦
                elim (cases_eq k at) [
                  | inl is ↦ λ s. ap (λ j. worth_at new j) is ∙ own s ∙ ap (λ j. sum_after worths (sum_before new j) (get_or stops j s)) (sym is)
                  | inr apart ↦
                      stays-summed worths stops old new k (late k from_at) (before-same new old k (λ j e. late j (omega (arith, e, from_at, apart))))
                      (old-one (λ e. absurd (omega (arith, e, ordered, from_at, apart))) was)
                ]
          ]
    ]
  where
    old-one : (k ≡ from → ⊥) → IsSummed worths stops old k ⊎ (k ≡ from) → IsSummed worths stops old k
    old-one not (inl h) = h
    old-one not (inr e) = absurd (not e)

-- worths that are the same in both parts
pub same-worth : (first second : Worth) → first.above ≡ second.above → first.below ≡ second.below → first ≡ second
same-worth first second above below = λ i. record { above = above i; below = below i }

pub before-next : (sums : List Worth) (at : ℕ) → sum_before sums (at + 1) ≡ worth_at sums at
before-next sums at = ap (sum_before sums) (add-one at)

-- one sum more is mended
pub mended-more : (worths : List Worth) (stops : List Stop) (sums : List Worth) (from at : ℕ) (own : Worth) → at < length sums
    → ((s : Stop) → own ≡ sum_after worths (sum_before sums at) (get_or stops at s)) → ((k : ℕ) → from ≤ k → k < at → IsSummed worths stops sums k)
    → (k : ℕ) → from ≤ k → k < at + 1 → IsSummed worths stops (set sums at own) k
mended-more worths stops sums from at own there is done k ge lt =
    elim (cases_eq k at) [
      | inl same ↦
          λ s. ap (λ j. worth_at (set sums at own) j) same ∙ get_or-set_same sums at own none there ∙ is s
          ∙ (λ i. sum_after worths (sym (before-same (set sums at own) sums at (λ j e. get_or-set_other sums at j own none (λ a. absurd (omega (arith, e, a))))) i) (get_or stops at s))
          ∙ ap (λ j. sum_after worths (sum_before (set sums at own) j) (get_or stops j s)) (sym same)
      | inr apart ↦
          stays-summed worths stops sums (set sums at own) k (get_or-set_other sums at k own none apart)
          (before-same (set sums at own) sums k (λ j e. get_or-set_other sums at j own none (λ a. absurd (omega (arith, e, a, lt)))))
          (done k ge (omega (arith, lt, apart)))
    ]
  where
    none : Worth
    none = record { above = 0; below = 0 }

-- one sum more has room
pub small-more : (sums : List Worth) (at : ℕ) (own : Worth) → at < length sums → own.above + own.below ≤ (at + 1) * (2 * PRICE_SCALE) → AreSmallSums sums → AreSmallSums (set sums at own)
small-more sums at own there small h k lt =
    elim (cases_eq k at) [
      | inl same ↦
          let is : worth_at (set sums at own) k ≡ own = ap (λ j. worth_at (set sums at own) j) same ∙ get_or-set_same sums at own (record { above = 0; below = 0 }) there in
          omega (arith, same, ap (λ (w : Worth). w.above + w.below) is, small)
      | inr apart ↦
          let is = get_or-set_other sums at k own (record { above = 0; below = 0 }) apart in
          omega (arith, ap (λ (w : Worth). w.above + w.below) is, h k (omega (arith, lt, length-set {A = Worth})))
    ]

-- ---- runs
-- days that are put behind a start are a run
pub added-run : (old : List Stop) (places : List ℕ) → IsRun (old ++ Start ∷ map Day places) places (record { from = length old; to = length old + length places })
added-run old places = record {
  long = refl;
  there = omega (arith, length-append old (Start ∷ map Day places), length-map places Day);
  days = λ k d s lt.
      let at : length old + 1 + k ≡ length old + suc k = omega arith in
      ap (λ j. get_or (old ++ Start ∷ map Day places) j s) at ∙ get_or-append-add old (Start ∷ map Day places) (suc k) s ∙ get_or-map Day places k d s lt;
}

-- stops of days that are there
pub within-more : (days : ℕ) (old : List Stop) (places : List ℕ) → All (λ place. place < days) places → All (IsStopWithin days) old → All (IsStopWithin days) (old ++ Start ∷ map Day places)
within-more days old places h was =
    All-append (IsStopWithin days) old (Start ∷ map Day places) was (All-cons (IsStopWithin days) Start (map Day places) tt (All-map (IsStopWithin days) Day places h))

-- what a run is worth: the sum at each of its days is the sum before the run, and what its days so far are worth together
sum-along : (worths : List Worth) (stops : List Stop) (sums : List Worth) (places : List ℕ) (run : Run) → AreSums worths stops sums → IsRun stops places run
    → (k : ℕ) → k ≤ length places → worth_at sums (run.from + k) ≡ joined (worth_at sums run.from) (worth_together worths (take k places))
sum-along worths stops sums places run s r zero few =
    let at : run.from + 0 ≡ run.from = omega arith in
    ap (λ j. worth_at sums j) at ∙ same-worth (worth_at sums run.from) (joined (worth_at sums run.from) (worth_together worths (take 0 places))) (omega arith) (omega arith)
sum-along worths stops sums places run s r (suc k) few =
    let start : Stop = Start in
    let at : run.from + suc k ≡ run.from + 1 + k = omega arith in
    let next : run.from + 1 + k ≡ suc (run.from + k) = omega arith in
    let here = s.summed (run.from + 1 + k) (omega (arith, few, r.long, r.there)) start in
    let day = r.days k 0 start few in
    let before : sum_before sums (run.from + 1 + k) ≡ joined (worth_at sums run.from) (worth_together worths (take k places)) =
    ap (sum_before sums) next ∙ sum-along worths stops sums places run s r k (omega (arith, few)) in
    let own = worth_at worths (get_or places k 0) in
    ap (λ j. worth_at sums j) at ∙ here ∙ (λ i. sum_after worths (before i) (day i))
    ∙ same-worth (sum_after worths (joined (worth_at sums run.from) (worth_together worths (take k places))) (Day (get_or places k 0)))
    (joined (worth_at sums run.from) (worth_together worths (take (suc k) places)))
    (omega (arith, sum_by_more (λ (place : ℕ). (worth_at worths place).above) places k 0 few, ap (λ n. sum_by (λ (place : ℕ). (worth_at worths place).above) (take n places)) (add-one k)))
    (omega (arith, sum_by_more (λ (place : ℕ). (worth_at worths place).below) places k 0 few, ap (λ n. sum_by (λ (place : ℕ). (worth_at worths place).below) (take n places)) (add-one k)))

-- so a run is worth a difference of two sums
pub run-worth : (worths : List Worth) (stops : List Stop) (sums : List Worth) (places : List ℕ) (run : Run) → AreSums worths stops sums → IsRun stops places run
    → worth_at sums run.to ≡ joined (worth_at sums run.from) (worth_together worths places)
run-worth worths stops sums places run s r =
    ap (λ j. worth_at sums j) (sym r.long) ∙ sum-along worths stops sums places run s r (length places) (omega arith)
    ∙ ap (λ ps. joined (worth_at sums run.from) (worth_together worths ps)) (take_all (length places) places (omega arith))

-- days are worth at most 2 each
pub together-light : (worths : List Worth) (places : List ℕ) → All IsLightWorth worths → All (λ place. place < length worths) places
    → (worth_together worths places).above + (worth_together worths places).below ≤ length places * (2 * PRICE_SCALE)
together-light worths [] light there = omega arith
together-light worths (place ∷ places) light there =
    let first = light place (record { above = 0; below = 0 }) (there 0 0 (omega arith)) in
    let rest = together-light worths places light (λ k d lt. there (suc k) d (omega arith)) in
    omega (arith, first, rest, sum_by-cons (λ (place : ℕ). (worth_at worths place).above) place places, sum_by-cons (λ (place : ℕ). (worth_at worths place).below) place places)

-- what days are worth together, one more
pub together-more : (worths : List Worth) (places : List ℕ) (i place : ℕ) → i < length places → place ≡ get_or places i place
    → joined (worth_together worths (take i places)) (worth_at worths place) ≡ worth_together worths (take (i + 1) places)
together-more worths places i place few is =
    same-worth (joined (worth_together worths (take i places)) (worth_at worths place)) (worth_together worths (take (i + 1) places))
    (omega (arith, sum_by_more (λ (place : ℕ). (worth_at worths place).above) places i place few, ap (λ k. (worth_at worths k).above) is))
    (omega (arith, sum_by_more (λ (place : ℕ). (worth_at worths place).below) places i place few, ap (λ k. (worth_at worths k).below) is))

-- runs, one more
pub runs-more : (stops : List Stop) (columns : List Column) (i : ℕ) (column : Column) (runs : List (Option Run)) (run : Option Run) → i < length columns → column ≡ get_or columns i column
    → AllZip (IsRunOf stops) (take i columns) runs → IsRunOf stops column run → AllZip (IsRunOf stops) (take (i + 1) columns) (runs ++ run ∷ [])
runs-more stops columns i column runs run few is h own =
    subst (λ cs. AllZip (IsRunOf stops) cs (runs ++ run ∷ [])) (sym (take_more columns i column few ∙ ap (λ x. take i columns ++ x ∷ []) (sym is)))
    (zip-push (IsRunOf stops) (take i columns) runs column run h own)

-- sums have room
pub sums-small : (worths : List Worth) (stops : List Stop) (sums : List Worth) → AreSums worths stops sums → All IsLightWorth worths → All (IsStopWithin (length worths)) stops → AreSmallSums sums
sums-small worths stops sums s light there k lt = small k lt
  where
    none : Worth
    none = record { above = 0; below = 0 }

    one-more : (before : Worth) (stop : Stop) → IsStopWithin (length worths) stop
        → (sum_after worths before stop).above + (sum_after worths before stop).below ≤ before.above + before.below + 2 * PRICE_SCALE
    one-more before Start h = omega arith
    one-more before (Day place) h = omega (arith, light place none h)

    small : (k : ℕ) → k < length sums → (worth_at sums k).above + (worth_at sums k).below ≤ (k + 1) * (2 * PRICE_SCALE)
    small zero lt =
        let here = s.summed 0 (omega (arith, lt, s.every)) Start in
        omega (arith, ap (λ (w : Worth). w.above + w.below) here, one-more none (get_or stops 0 Start) (there 0 Start (omega (arith, lt, s.every))))
    small (suc k) lt =
        let here = s.summed (suc k) (omega (arith, lt, s.every)) Start in
        omega (arith, ap (λ (w : Worth). w.above + w.below) here, one-more (worth_at sums k) (get_or stops (suc k) Start) (there (suc k) Start (omega (arith, lt, s.every))), small k (omega (arith, lt)))

-- where the multiplier of the limit and a day's price stay, the sum at its stop is what it was
after-same : (dates : ℕ) (old new : Leaf) (days : List PricedDay) (before : Worth) (stop : Stop) → old.mu ≡ new.mu → IsStopWithin (length days) stop
    → get_or old.prices (stop_day dates days stop).need 0 ≡ get_or new.prices (stop_day dates days stop).need 0
    → sum_after (map (worth_on old) days) before stop ≡ sum_after (map (worth_on new) days) before stop
after-same dates old new days before Start limit h same = refl
after-same dates old new days before (Day at) limit h same =
    let none : Worth = record { above = 0; below = 0 } in
    let d : PricedDay = record { need = dates; power = 0 } in
    let own : worth_at (map (worth_on old) days) at ≡ worth_at (map (worth_on new) days) at =
    get_or-map (worth_on old) days at d none h ∙ worth-stays old new (get_or days at d) limit same ∙ sym (get_or-map (worth_on new) days at d none h) in
    ap (joined before) own

-- so a stop is summed up at another leaf already, or is listed
pub summed-or-listed : (dates : ℕ) (old new : Leaf) (days : List PricedDay) (stops : List Stop) (lists : List DateDays) (worths sums : List Worth)
    → AreDateDays dates (map (stop_day dates days) stops) lists → All (IsStopWithin (length days)) stops → length old.prices ≡ dates → length new.prices ≡ dates → old.mu ≡ new.mu
    → worths ≡ map (worth_on old) days → AreSums worths stops sums → (k : ℕ) → k < length stops
    → IsSummed (map (worth_on new) days) stops sums k ⊎ IsListedChange old.prices new.prices lists k
summed-or-listed dates old new days stops lists worths sums h there old_long new_long limit priced summed k lt =
    elim (cases_eq (get_or old.prices (stop_day dates days stop).need 0) (get_or new.prices (stop_day dates days stop).need 0)) [
      | inl same ↦
          inl (λ s.
          let is : get_or stops k s ≡ stop = get_or_default stops k s Start lt in
          summed.summed k lt s ∙ (λ i. sum_after (priced i) (sum_before sums k) (is i))
          ∙ after-same dates old new days (sum_before sums k) stop limit (there k Start lt) same
          ∙ ap (sum_after (map (worth_on new) days) (sum_before sums k)) (sym is))
      | inr changed ↦
          let need : (get_or (map (stop_day dates days) stops) k none).need ≡ (stop_day dates days stop).need = ap (λ (d : PricedDay). d.need) (get_or-map (stop_day dates days) stops k Start none lt) in
          inr (listed-change dates old.prices new.prices (map (stop_day dates days) stops) lists k none h old_long new_long (omega (arith, lt, length-map stops (stop_day dates days)))
          (subst (λ date. ¬ (get_or old.prices date 0 ≡ get_or new.prices date 0)) (sym need) changed))
    ]
  where
    none : PricedDay
    none = record { need = dates; power = 0 }

    stop : Stop
    stop = get_or stops k Start

-- where one price changes and the sums are mended at the stops of its date, all stops are summed up
pub date-summed : (dates : ℕ) (old new : Leaf) (date price : ℕ) (days : List PricedDay) (stops : List Stop) (lists : List DateDays) (start sums : List Worth) (worths : List Worth) (e : DateDays)
    → AreDateDays dates (map (stop_day dates days) stops) lists → All (IsStopWithin (length days)) stops → length old.prices ≡ dates → length new.prices ≡ dates → old.mu ≡ new.mu
    → new.prices ≡ set old.prices date price → worths ≡ map (worth_on old) days → AreSums worths stops start → length sums ≡ length stops
    → ((k : ℕ) → k < length stops → IsSummed (map (worth_on new) days) stops start k ⊎ Contains (get_or lists date e).places.items k → IsSummed (map (worth_on new) days) stops sums k)
    → AreSums (map (worth_on new) days) stops sums
date-summed dates old new date price days stops lists start sums worths e h there old_long new_long limit is priced summed every each = record {
  every = every;
  summed = λ k lt.
      each k lt
      (elim (summed-or-listed dates old new days stops lists worths start h there old_long new_long limit priced summed k lt) [
        | inl was ↦ inl was
        | inr change ↦ inr (change-at old.prices new.prices date price lists k e is change)
      ]);
}

-- worths that were written in place are what was written
pub written : (new rest : List Worth) (len : ℕ) → len ≡ length new → take len (new ++ rest) ≡ new
written new rest len same = ap (λ k. take k (new ++ rest)) same ∙ take-append_seam new rest
