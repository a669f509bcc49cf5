-- A line of a certificate, taken without memory: what comes of it. It is this project's own.
use Rattle.std.specs.Prelude.{◌≡◌, ℕ, ◌+◌, ◌≤◌, ◌<◌, List, [], ◌∷◌, drop, length, slice_index, AllPairs, Option, Some, None, Result, Ok, Err}
use Rattle.proof_tree.specs.declared.tree.Leaf.{Leaf}
use Rattle.proof_tree.specs.declared.weights.SumWeight.{SumWeight}
use Rattle.bound_certificate.specs.declared.due.Due.{Due}
use Rattle.bound_certificate.specs.declared.due.Due.TheVariants as due
use Rattle.bound_certificate.specs.declared.fault.FaultKind.{FaultKind}
use Rattle.bound_certificate.specs.declared.item.Item.{Item}
use Rattle.bound_certificate.specs.declared.item.Item.TheVariants as item
use Rattle.bound_certificate.specs.declared.limits.TheConstants.{MOST_NUMBERS, MOST_PACKED_BUYS, MOST_VECTORS}
use Rattle.bound_certificate.specs.declared.line.Line.{Line}
use Rattle.bound_certificate.specs.declared.line.Line.TheVariants as line
use Rattle.bound_certificate.specs.declared.packed.Change.{Change}
use Rattle.bound_certificate.specs.declared.row.Row.{Row}
use Rattle.bound_certificate.specs.declared.row.Row.TheVariants as row
use Rattle.bound_certificate.specs.declared.version.Version.TheVariants as version
use Rattle.bound_certificate.specs.declared.weighing.Weighing.{Weighing}
use Rattle.bound_certificate.specs.Grammar.{ArePlaces, changes_of, front_words, leaf_said, line_item, tail_words, vectors_with}
use Rattle.bound_certificate.specs.Packed.{changed}
use Rattle.bound_certificate.specs.Told.{line_leaf}
use Rattle.bound_certificate.specs.Weights.{rho_said}
use Rattle.line_words.specs.Words.{parts_behind, words_of}
use denote.Ref.{Bor}

-- there is room for the vectors that are due
abbrev pub HasRoom : Due → List (List ℕ) → Type 0
HasRoom (due.Vector left) vectors = (1 ≤ left) × (length vectors + left ≤ MOST_VECTORS)
HasRoom other vectors = Unit {0}

-- there is room for what a line of a row says: no more purchases than any version has, and one vector more
abbrev pub HasRoomFor : Row → List (List ℕ) → Type 0
HasRoomFor (row.Portfolio most) vectors = most ≤ MOST_PACKED_BUYS
HasRoomFor row.Vector vectors = length vectors < MOST_VECTORS
HasRoomFor other vectors = Unit {0}

-- a leaf with other weights of sums
abbrev pub with_weights : Leaf → List SumWeight → Leaf
with_weights leaf weights = record { rho = leaf.rho; mu = leaf.mu; prices = leaf.prices; weights = weights }

-- a leaf's line is cut before its tail, where it has one
pub record IsTailed (line front : List ℕ) (tail : Option (Bor (List ℕ))) : Type 0 where
  pub front_is : words_of front ≡ front_words (words_of line)
  pub tail_is : parts_behind 32 tail ≡ tail_words (words_of line)

-- an item is what a line says that has no fault; a vector of its own has come to those before, and a leaf's weights are at hand
pub record IsGiven (dates : ℕ) (told : Result Line FaultKind) (before after : List (List ℕ)) (leaf : Leaf) (given : Item) : Type 0 where
  pub said : Line
  pub is : told ≡ Ok said
  pub item_is : given ≡ line_item said
  pub vectors_are : after ≡ vectors_with before said
  pub leaf_is : given ≡ item.Leaf → leaf ≡ line_leaf dates before said

-- prices are a vector's, or stairs, after changes that a leaf may have
pub record ArePricesAfter (dates : ℕ) (vector : Option (List ℕ)) (changes : List Change) (prices : List ℕ) : Type 0 where
  pub are : prices ≡ changed dates vector changes
  pub leaf : (w : Weighing) (rho mu number : ℕ) → leaf_said w dates vector rho mu number changes ≡ Ok (line.Closed w (rho_said w rho) mu number changes [])

-- a leaf may not have these changes from a vector or as stairs, and why
abbrev pub AreFaulty : ℕ → Option (List ℕ) → List Change → FaultKind → Type 0
AreFaulty dates vector changes found = (w : Weighing) (rho mu number : ℕ) → leaf_said w dates vector rho mu number changes ≡ Err found

-- a vector, where there is one: so many prices that never rise
abbrev pub IsBase : ℕ → Option (List ℕ) → Type 0
IsBase dates (Some prices) = (length prices ≡ dates) × AllPairs (λ earlier later. later ≤ earlier) prices
IsBase dates None = Unit {0}

-- what a line of version 2 or 3 says, by its item, its numbers before a tail, and the weights of the tail
abbrev pub line_with : Weighing → Item → List ℕ → List SumWeight → Line
line_with w item.Header numbers weights = line.Title (version.Packed w)
line_with w (item.Portfolio count) numbers weights = line.Portfolio count
line_with w (item.Buy buy) numbers weights = line.Purchase buy
line_with w (item.Gap cents) numbers weights = line.Gap cents
line_with w (item.Vectors count) numbers weights = line.Vectors count
line_with w item.Vector numbers weights = line.Vector numbers
line_with w (item.Nodes count) numbers weights = line.Nodes count
line_with w (item.Split part at) numbers weights = line.Split part at
line_with w item.Point numbers weights = line.Point
line_with w item.Leaf (rho ∷ mu ∷ vector ∷ numbers) weights = line.Closed w (rho_said w rho) mu vector (changes_of numbers) weights
line_with w other numbers weights = line.End

-- the numbers of a leaf with changes
pub record AreOfLeaf (numbers : List ℕ) : Type 0 where
  pub some : 3 ≤ length numbers
  pub few : length numbers ≤ MOST_NUMBERS
  pub vector : slice_index numbers 2 ≤ 65_535
  pub places : ArePlaces 65_535 (changes_of (drop 3 numbers))

-- an item, numbers and weights of sums are what a line says
pub record IsOfNumbers (w : Weighing) (told : Result Line FaultKind) (numbers : List ℕ) (weights : List SumWeight) (given : Item) : Type 0 where
  pub is : told ≡ Ok (line_with w given numbers weights)
  pub leaf : given ≡ item.Leaf → AreOfLeaf numbers

-- a row is one of version 2 or 3, whose leaves weigh the cost so
abbrev pub IsPackedRow : Weighing → Row → Type 0
IsPackedRow w (row.Leaf u) = u ≡ w
IsPackedRow w row.Priced = ⊥
IsPackedRow w other = Unit {0}
