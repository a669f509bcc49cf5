-- How steps are priced one by one: a price that changes on one date changes what the needs are worth, and what those lines add that
-- pay for the need of that date. This project's own.
use Rattle.std.specs.Prelude.{◌≡◌, ℕ, ◌*◌, ◌^◌, ◌<◌, ◌≤◌, false, true, List, All, length, slice_index_or, ℤ, ◌≤ℤ◌, unsigned_abs}
use Rattle.std.specs.List.{zip}
use Rattle.offer_book.specs.Book.{BookContents}
use Rattle.offer_book.specs.declared.line.Line.{Line}
use Rattle.dual_bound.specs.Columns.{ColumnsContents}
use Rattle.dual_bound.specs.LeafBound.{bound_of, form_of, least_cost_of, least_within, signed_sum}
use Rattle.proof_tree.specs.Tree.{IsLeaf, with_price}
use Rattle.dual_bound.specs.declared.form.Form.{Form}
use Rattle.proof_tree.specs.declared.interval.Interval.{Interval}
use Rattle.proof_tree.specs.declared.tree.Leaf.{Leaf}
use Rattle.dual_tune.specs.Payers.{ArePayers}
use Rattle.dual_tune.specs.Steps.{price_after, price_before, with_multiplier}
use Rattle.dual_tune.specs.Table.{AreFormsOf, IsTable}
use Rattle.dual_tune.specs.declared.given.Given.{Given}
use Rattle.dual_tune.specs.declared.sweep.Best.{Best}
use Rattle.dual_tune.specs.declared.sweep.LineLeast.{LineLeast}
use Rattle.dual_tune.specs.declared.sweep.PriceStep.{PriceStep}
use Rattle.dual_tune.specs.declared.sweep.Step.{Step}
use Rattle.dual_tune.specs.declared.sweep.Sweep.{Sweep}
use Rattle.dual_tune.specs.declared.sweep.Step.TheVariants as step

-- the bound of a leaf over the given ranges
abbrev pub bound_at : Given → Leaf → ℤ
bound_at given leaf = bound_of given.yield_units.0 given.book.now given.ranges.now leaf

-- the least cost that a leaf shows over the given ranges
abbrev pub shown_at : Given → Leaf → ℤ
shown_at given leaf = least_cost_of given.yield_units.0 given.book.now given.ranges.now leaf

-- columns are those of the book and the yield of a given leaf
pub record AreColumnsOf (given : Given) (columns : ColumnsContents) : Type 0 where
  pub book : columns.book ≡ given.book.now
  pub yield_units : columns.yield_units ≡ given.yield_units.0

-- what each line adds at least at the given leaf
pub record AreLeasts (given : Given) (leasts : List LineLeast) : Type 0 where
  pub every_line : length leasts ≡ length given.book.now.lines
  pub small : All (λ least. unsigned_abs least.least ≤ 71 * 10 ^ 33) leasts
  pub value : (line : ℕ) (d : Line) (e : Interval) (f : LineLeast) → line < length given.book.now.lines
      → (slice_index_or leasts line f).least ≡ least_within given.yield_units.0 given.book.now given.leaf.now (slice_index_or given.book.now.lines line d) (slice_index_or given.ranges.now.lines line e)

-- what the lines add at least at a leaf, together
abbrev pub lines_worth : Given → Leaf → ℤ
lines_worth given leaf = signed_sum (λ p. least_within given.yield_units.0 given.book.now leaf p.0 p.1) (zip given.book.now.lines given.ranges.now.lines)

-- an interval is a point: it holds one number of units, above 0
pub record IsPoint (interval : Interval) : Type 0 where
  pub some : 0 < interval.low
  pub one : interval.low ≡ interval.high

-- where an interval is a point, what is priced is a leaf: at a point a line adds its exact cost, else what its form says
abbrev pub IsPricedFor : List Interval → Leaf → Leaf → Type 0
IsPricedFor ranges priced leaf = All (λ interval. IsPoint interval → priced ≡ leaf) ranges

-- a form is that of a line at a leaf, and the leaf is priced where the line's interval is a point
pub record IsFormAt (given : Given) (priced : Leaf) (line : ℕ) (leaf : Leaf) (form : Form) : Type 0 where
  pub well_formed : IsLeaf (length given.book.now.needs) leaf
  pub value : (d : Line) → form ≡ form_of given.yield_units.0 given.book.now leaf (slice_index_or given.book.now.lines line d)
  pub point : (e : Interval) → IsPoint (slice_index_or given.ranges.now.lines line e) → priced ≡ leaf

-- a price step of the given leaf goes to a leaf, and has the lines that pay for the date, with their forms at that leaf
pub record IsStepOf (given : Given) (step : PriceStep) : Type 0 where
  pub place : step.place < length given.book.now.needs
  pub leaf : IsLeaf (length given.book.now.needs) (with_price given.leaf.now step.place step.price)
  pub payers : ArePayers given.book.now (length given.book.now.lines) step.place step.lines.now
  pub room : length step.forms.now ≡ length step.lines.now
  pub forms : AreFormsOf given.yield_units.0 given.book.now (with_price given.leaf.now step.place step.price) step.lines.now step.forms.now

-- what is kept to price the steps of leaves of a book, at the yield n
pub record IsSweep (n : ℕ) (book : BookContents) (sweep : Sweep) : Type 0 where
  pub own : sweep.columns.book ≡ book
  pub yield_units : sweep.columns.yield_units ≡ n
  pub table : IsTable n book sweep.table
  pub places : length sweep.leasts.items ≡ length book.lines
  pub small : All (λ least. unsigned_abs least.least ≤ 71 * 10 ^ 33) sweep.leasts.items
  pub trial : sweep.trial ≡ sweep.table.leaf

-- its table is that of the given leaf, and it knows whether the ranges hold a point
pub record IsReadyFor (given : Given) (sweep : Sweep) : Type 0 where
  pub kept : IsSweep given.yield_units.0 given.book.now sweep
  pub leaf : sweep.table.leaf ≡ given.leaf.now
  pub points : sweep.points ≡ false → All (λ interval. ¬ IsPoint interval) given.ranges.now.lines

-- and it has the bound of the given leaf, and what each line adds at least there; the columns are priced there where the ranges hold a
-- point
pub record IsSweepOf (given : Given) (sweep : Sweep) : Type 0 where
  pub ready : IsReadyFor given sweep
  pub priced : sweep.points ≡ true → sweep.columns.leaf ≡ given.leaf.now
  pub leasts : AreLeasts given sweep.leasts.items
  pub bound : sweep.bound ≡ bound_at given given.leaf.now
  pub size : unsigned_abs sweep.bound < 10 ^ 37

-- a leaf after a step
abbrev pub stepped : Leaf → Step → Leaf
stepped leaf step.Nothing = leaf
stepped leaf (step.Price place price) = with_price leaf place price
stepped leaf (step.Multiplier mu) = with_multiplier leaf mu

-- a step's place is one of so many
abbrev pub IsPlaced : ℕ → Step → Type 0
IsPlaced dates step.Nothing = Unit {0}
IsPlaced dates (step.Price place price) = place < dates
IsPlaced dates (step.Multiplier mu) = Unit {0}

-- the best step so far, with its bound
pub record IsBest (given : Given) (best : Best) : Type 0 where
  pub placed : IsPlaced (length given.book.now.needs) best.step
  pub well_formed : IsLeaf (length given.book.now.needs) (stepped given.leaf.now best.step)
  pub bound : best.bound ≡ bound_at given (stepped given.leaf.now best.step)
  pub no_less : bound_at given given.leaf.now ≤ℤ best.bound

-- a leaf's bound isn't above so much
abbrev pub IsReached : Given → ℤ → Leaf → Type 0
IsReached given bound leaf = bound_at given leaf ≤ℤ bound

-- so it is of both price steps at a place
pub record AreReached (given : Given) (most : ℤ) (place : ℕ) : Type 0 where
  pub before : IsReached given most (with_price given.leaf.now place (price_before given.leaf.now.prices place))
  pub after : IsReached given most (with_price given.leaf.now place (price_after given.leaf.now.prices place))
