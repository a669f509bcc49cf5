-- The table of a leaf: the forms of lines at it and at each of its steps, by which the bounds of its steps are found over any ranges.
-- This project's own.
use Rattle.std.specs.Prelude.{◌≡◌, ℕ, ◌*◌, ◌<◌, List, [], length, slice_index_or, pos}
use Rattle.offer_book.specs.Book.{BookContents}
use Rattle.offer_book.specs.declared.coefficients.TheConstants.{COEFFICIENT_SCALE}
use Rattle.offer_book.specs.declared.line.Line.{Line}
use Rattle.dual_bound.specs.LeafBound.{form_of, priced_needs}
use Rattle.proof_tree.specs.Tree.{IsLeaf, with_price}
use Rattle.dual_bound.specs.declared.form.Form.{Form}
use Rattle.proof_tree.specs.declared.tree.Leaf.{Leaf}
use Rattle.dual_tune.specs.Payers.{ArePayersByDate}
use Rattle.dual_tune.specs.Steps.{mu_of_multiplier, price_beside, with_multiplier}
use Rattle.dual_tune.specs.declared.payers.Payers.{Payers}
use Rattle.dual_tune.specs.declared.steps.Side.{Side}
use Rattle.dual_tune.specs.declared.steps.Side.TheVariants as side
use Rattle.dual_tune.specs.declared.steps.Multiplier.{Multiplier}
use Rattle.dual_tune.specs.declared.steps.Multiplier.TheVariants as multiplier
use Rattle.dual_tune.specs.declared.table.DateForms.{DateForms}
use Rattle.dual_tune.specs.declared.table.LineForms.{LineForms}
use Rattle.dual_tune.specs.declared.table.Table.{Table}

-- the form of each line at a leaf
abbrev pub AreLineForms : ℕ → BookContents → Leaf → List Form → Type 0
AreLineForms n book leaf forms =
    (line : ℕ) (d : Line) (e : Form) → line < length book.lines → slice_index_or forms line e ≡ form_of n book leaf (slice_index_or book.lines line d)

-- the forms of some lines at a leaf
abbrev pub AreFormsOf : ℕ → BookContents → Leaf → List ℕ → List Form → Type 0
AreFormsOf n book leaf lines forms =
    (k : ℕ) (d : Line) (e : Form) → k < length lines → slice_index_or forms k e ≡ form_of n book leaf (slice_index_or book.lines (slice_index_or lines k 0) d)

-- the forms on a side of a date
abbrev pub forms_beside : DateForms → Side → List Form
forms_beside date side.Before = date.before.items
forms_beside date side.After = date.after.items

-- the forms of lines with a multiplier of the limit that is tried
abbrev pub multiplier_forms : LineForms → Multiplier → List Form
multiplier_forms forms multiplier.Nothing = forms.free.items
multiplier_forms forms multiplier.Half = forms.half.items
multiplier_forms forms multiplier.Whole = forms.whole.items

-- there is a place for so many lines' forms, at the leaf and with each multiplier
pub record HasMultiplierRoom (lines : ℕ) (forms : LineForms) : Type 0 where
  pub given : length forms.given.items ≡ lines
  pub multipliers : (multiplier : Multiplier) → length (multiplier_forms forms multiplier) ≡ lines

-- forms are those of each line at a leaf, and with each multiplier that is tried
pub record AreMultiplierForms (n : ℕ) (book : BookContents) (leaf : Leaf) (forms : LineForms) : Type 0 where
  pub room : HasMultiplierRoom (length book.lines) forms
  pub given : AreLineForms n book leaf forms.given.items
  pub multipliers : (multiplier : Multiplier) → AreLineForms n book (with_multiplier leaf (mu_of_multiplier multiplier)) (multiplier_forms forms multiplier)

-- there is a place for as many forms on each side of a date as it has payers
abbrev pub HasRoomForLines : List ℕ → DateForms → Type 0
HasRoomForLines lines date = (side : Side) → length (forms_beside date side) ≡ length lines

-- so it is for each date
abbrev pub HasRoomForPayers : List Payers → List DateForms → Type 0
HasRoomForPayers payers dates = (place : ℕ) (d : DateForms) (e : Payers) → place < length dates → HasRoomForLines (slice_index_or payers place e).lines.items (slice_index_or dates place d)

-- the forms of lines at both price steps at a place
abbrev pub AreDateForms : ℕ → BookContents → Leaf → ℕ → List ℕ → DateForms → Type 0
AreDateForms n book leaf place lines date =
    (side : Side) → AreFormsOf n book (with_price leaf place (price_beside leaf.prices place side)) lines (forms_beside date side)

-- for each need date, the forms of its payers at both price steps there
abbrev pub AreStepForms : ℕ → BookContents → Leaf → List Payers → List DateForms → Type 0
AreStepForms n book leaf payers dates =
    (place : ℕ) (d : DateForms) (e : Payers) → place < length book.needs
    → AreDateForms n book leaf place (slice_index_or payers place e).lines.items (slice_index_or dates place d)

-- a table of a book knows who pays, and has room for a leaf and for the forms of lines at it and at its steps
pub record HasTableRoom (book : BookContents) (table : Table) : Type 0 where
  pub own : table.book.now ≡ book
  pub payers : ArePayersByDate book (length book.lines) table.payers.items
  pub prices : length table.leaf.prices ≡ length book.needs
  pub lines : HasMultiplierRoom (length book.lines) table.lines
  pub dates : length table.dates.items ≡ length book.needs
  pub steps : HasRoomForPayers table.payers.items table.dates.items

-- a table is that of its leaf, without weights of sums, at the yield n: it has the form of each line at the leaf and with each multiplier that is tried, and the
-- forms of those that pay for a need date at the price steps there
pub record IsTable (n : ℕ) (book : BookContents) (table : Table) : Type 0 where
  pub room : HasTableRoom book table
  pub leaf : IsLeaf (length book.needs) table.leaf
  pub unweighted : table.leaf.weights ≡ []
  pub needs : table.needs ≡ pos (COEFFICIENT_SCALE * priced_needs book.needs table.leaf.prices)
  pub lines : AreMultiplierForms n book table.leaf table.lines
  pub steps : AreStepForms n book table.leaf table.payers.items table.dates.items
