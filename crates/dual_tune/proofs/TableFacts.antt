-- The least that a line adds, from its form.
use Rattle.std.proofs.Common.{◌≡◌, ◌∙◌, ℕ, ◌+◌, ◌*◌, ◌^◌, ◌<◌, ◌≤◌, List, [], ◌∷◌, ◌++◌, All, Bool, true, false, inl, inr, set, ap, sym, subst, refl, arith, pos, get_or, length, unsigned_abs}
use Rattle.std.proofs.Math.Seq.{get_or-append_seam}
use Rattle.std.proofs.Math.Nat.{mul-le-mul_left}
use Rattle.std.proofs.lemmas.Bool.{cases_eq, cases_lt}
use Rattle.std.proofs.lemmas.Grind.{get_or-set_at}
use Rattle.std.proofs.lemmas.List.{get_or-set_other, get_or_append_left}
use Rattle.offer_book.specs.Book.{BookContents, IsBook}
use Rattle.offer_book.specs.declared.coefficients.TheConstants.{COEFFICIENT_SCALE}
use Rattle.offer_book.specs.declared.line.Line.{Line}
use Rattle.dual_bound.specs.LeafBound.{least_within, priced_needs, unit_load}
use Rattle.dual_bound.specs.declared.form.Form.{Form}
use Rattle.proof_tree.specs.declared.prices.TheConstants.{PRICE_SCALE}
use Rattle.proof_tree.specs.declared.interval.Interval.{Interval}
use Rattle.proof_tree.specs.declared.tree.Leaf.{Leaf}
use Rattle.proof_tree.specs.Tree.{IsLeaf, with_price}
use Rattle.dual_bound.proofs.BoundSizes.{least-one, of-slack, of-times, priced-small, reduced-none, room-length}
use Rattle.dual_bound.proofs.Soundness.{all-lines}
use Rattle.dual_bound.proofs.TableauFacts.{some-line}
use Rattle.dual_tune.specs.Sweep.{IsFormAt, IsPoint, IsPricedFor, IsStepOf}
use Rattle.dual_tune.specs.Table.{AreLineForms}
use Rattle.dual_tune.specs.declared.given.Given.{Given}
use Rattle.dual_tune.specs.declared.sweep.PriceStep.{PriceStep}
use Rattle.dual_tune.specs.declared.steps.Side.{Side}
use Rattle.dual_tune.specs.declared.steps.Side.TheVariants as side
use Rattle.dual_tune.specs.declared.steps.Multiplier.{Multiplier}
use Rattle.dual_tune.specs.declared.steps.Multiplier.TheVariants as multiplier

pub least-none : (n : ℕ) (book : BookContents) (leaf : Leaf) (line : Line) (interval : Interval) → interval.low ≤ interval.high → interval.high ≡ 0
    → pos 0 ≡ least_within n book leaf line interval
least-none n book leaf line interval ordered none =
    sym (reduced-none n book leaf line interval.low (omega (arith, ordered, none)))
    ∙ least-one n book leaf line (unit_load book leaf.weights line) interval (omega (arith, ordered, none))

-- the form of a line at a leaf is small
pub form-light : (given : Given) (priced leaf : Leaf) (line : ℕ) (form : Form) (units : ℕ) → IsBook given.book.now
    → IsFormAt given priced line leaf form → line < length given.book.now.lines → units ≤ (get_or given.book.now.lines line some-line).most → unsigned_abs form.slope * units ≤ 7 * 10 ^ 34
form-light given priced leaf line form units limits is few most =
    let book = given.book.now in
    omega (
      arith,
      ap (λ (f : Form). unsigned_abs f.slope * units) (is.value some-line),
      of-times given.yield_units.0 book leaf (get_or book.lines line some-line) units limits.settlement is.well_formed (all-lines book.days book.lines limits.lines line some-line few) most,
    )

pub form-thin : (given : Given) (priced leaf : Leaf) (line : ℕ) (form : Form) → IsBook given.book.now → IsFormAt given priced line leaf form → line < length given.book.now.lines
    → form.slack ≤ 10 ^ 24
form-thin given priced leaf line form limits is few =
    let book = given.book.now in
    omega (
      arith,
      ap (λ (f : Form). f.slack) (is.value some-line),
      of-slack given.yield_units.0 book leaf (get_or book.lines line some-line) limits.settlement is.well_formed (all-lines book.days book.lines limits.lines line some-line few),
    )

-- where ranges hold no point, any leaf will do
pub priced-for : (points : Bool) (ranges : List Interval) (priced leaf : Leaf) → (points ≡ false → All (λ interval. IsPoint interval → ⊥) ranges) → (points ≡ true → priced ≡ leaf)
    → IsPricedFor ranges priced leaf
priced-for true ranges priced leaf none same = λ k d few point. same refl
priced-for false ranges priced leaf none same = λ k d few point. absurd (none refl k d few point)

-- a list that is put place by place
pub set-more : {A : Type 0} (P : ℕ → A → Type 0) (xs : List A) (place : ℕ) (v : A) → place < length xs → ((k : ℕ) (d : A) → k < place → P k (get_or xs k d)) → P place v
    → (k : ℕ) (d : A) → k < place + 1 → P k (get_or (set xs place v) k d)
set-more P xs place v few before own k d lt =
    elim (cases_eq k place) [
      | inl at ↦ subst (P k) (sym (get_or-set_at xs place k v d at few)) (subst (λ j. P j v) (sym at) own)
      | inr apart ↦ subst (P k) (sym (get_or-set_other xs place k v d apart)) (before k d (grind (arith, lt, apart)))
    ]

-- a list of which one item is changed
pub set-kept : {A : Type 0} (P : ℕ → A → Type 0) (xs : List A) (place : ℕ) (v : A) → place < length xs → ((k : ℕ) (d : A) → k < length xs → P k (get_or xs k d)) → P place v
    → (k : ℕ) (d : A) → k < length xs → P k (get_or (set xs place v) k d)
set-kept P xs place v few all own k d lt =
    elim (cases_eq k place) [
      | inl at ↦ subst (P k) (sym (get_or-set_at xs place k v d at few)) (subst (λ j. P j v) (sym at) own)
      | inr apart ↦ subst (P k) (sym (get_or-set_other xs place k v d apart)) (all k d lt)
    ]

-- a list to which one item is added
pub push-more : {A : Type 0} (P : ℕ → A → Type 0) (xs : List A) (v : A) → ((k : ℕ) (d : A) → k < length xs → P k (get_or xs k d)) → P (length xs) v
    → (k : ℕ) (d : A) → k < length xs + 1 → P k (get_or (xs ++ v ∷ []) k d)
push-more P xs v all own k d lt =
    elim (cases_lt k (length xs)) [
      | inl before ↦ subst (P k) (sym (get_or_append_left xs (v ∷ []) d k before)) (all k d before)
      | inr from ↦
          let at : length xs ≡ k = omega (arith, lt, from) in
          subst (λ j. P j (get_or (xs ++ v ∷ []) j d)) at (subst (P (length xs)) (sym (get_or-append_seam xs v [] d)) own)
    ]

-- the form of a line out of those of all
pub form-at : (given : Given) (priced leaf : Leaf) (forms : List Form) (line : ℕ) (form : Form) → IsLeaf (length given.book.now.needs) leaf
    → AreLineForms given.yield_units.0 given.book.now leaf forms → IsPricedFor given.ranges.now.lines priced leaf → line < length given.book.now.lines
    → form ≡ get_or forms line form → IsFormAt given priced line leaf form
form-at given priced leaf forms line form well are priced_is few form_is = record {
  well_formed = well;
  value = λ d. form_is ∙ are line d form few;
  point = λ e. priced_is line e (omega (arith, few, room-length given.book.now.lines given.ranges.now.lines given.room));
}

-- the form of a line that pays for a date, at a price step there
pub step-form : (given : Given) (priced : Leaf) (step : PriceStep) (payer : ℕ) (e : Form) → IsStepOf given step → IsPricedFor given.ranges.now.lines priced (with_price given.leaf.now step.place step.price)
    → payer < length step.lines.now → IsFormAt given priced (get_or step.lines.now payer 0) (with_price given.leaf.now step.place step.price) (get_or step.forms.now payer e)
step-form given priced step payer e is priced_is few = record {
  well_formed = is.leaf;
  value = λ d. is.forms payer d e few;
  point = λ interval. priced_is (get_or step.lines.now payer 0) interval (omega (arith, is.payers.there payer 0 few, room-length given.book.now.lines given.ranges.now.lines given.room));
}

-- what the needs are worth is small
pub needs-small : (book : BookContents) (leaf : Leaf) → IsBook book → IsLeaf (length book.needs) leaf → COEFFICIENT_SCALE * priced_needs book.needs leaf.prices ≤ 2 * 10 ^ 34
needs-small book leaf limits well =
    let few = mul-le-mul_left (2 * PRICE_SCALE) limits.needs.small in
    omega (arith, priced-small book.needs leaf.prices well.range, few)

-- an item of a list that isn't empty
pub some-item : {A : Type 0} (xs : List A) (place : ℕ) → place < length xs → A
some-item [] place few = absurd (omega arith)
some-item (x ∷ xs) place few = x

-- by each multiplier, and by each side
pub each-multiplier : (P : Multiplier → Type 0) → P multiplier.Nothing → P multiplier.Half → P multiplier.Whole → (w : Multiplier) → P w
each-multiplier P nothing half whole multiplier.Nothing = nothing
each-multiplier P nothing half whole multiplier.Half = half
each-multiplier P nothing half whole multiplier.Whole = whole

pub each-side : (P : Side → Type 0) → P side.Before → P side.After → (s : Side) → P s
each-side P before after side.Before = before
each-side P before after side.After = after
