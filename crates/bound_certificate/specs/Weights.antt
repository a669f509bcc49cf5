-- What versions can say: how much a leaf weighs the cost, by which number, whether it has stairs and weights of sums, and what a node splits. The form is
-- this project's own.
use Rattle.std.specs.Prelude.{◌≡◌, ℕ, ◌≤◌, ◌==◌, if◌then◌else◌, List, []}
use Rattle.proof_tree.specs.declared.prices.TheConstants.{PRICE_SCALE}
use Rattle.proof_tree.specs.declared.tree.Part.{Part}
use Rattle.proof_tree.specs.declared.tree.Part.TheVariants as part
use Rattle.proof_tree.specs.declared.weights.Side.{Side}
use Rattle.proof_tree.specs.declared.weights.Side.TheVariants.{AtMost, AtLeast}
use Rattle.proof_tree.specs.declared.weights.SumWeight.{SumWeight}
use Rattle.bound_certificate.specs.declared.weighing.Weighing.{Weighing}
use Rattle.bound_certificate.specs.declared.weighing.Weighing.TheVariants as weighing

-- the cost counts wholly, or not at all: with a weight of 1, or of 0
abbrev pub IsWholeOrNone : ℕ → Type 0
IsWholeOrNone rho = 1 ≤ rho → rho ≡ PRICE_SCALE

-- a weight that can be said: versions 1 and 2 say whether it is whole or none, and version 3 has the number itself
abbrev pub IsSayable : Weighing → ℕ → Type 0
IsSayable weighing.WholeOrNone rho = IsWholeOrNone rho
IsSayable weighing.Number rho = Unit {0}

-- a split that can be said: versions 1 and 2 have those of lines alone, and version 3 those of sums too
abbrev pub IsSayablePart : Weighing → Part → Type 0
IsSayablePart w (part.Line line) = Unit {0}
IsSayablePart weighing.WholeOrNone (part.Sum sum) = ⊥
IsSayablePart weighing.Number (part.Sum sum) = Unit {0}

-- weights of sums that can be said: versions 1 and 2 have none
abbrev pub AreSayable : Weighing → List SumWeight → Type 0
AreSayable weighing.WholeOrNone weights = weights ≡ []
AreSayable weighing.Number weights = Unit {0}

-- the least number of a vector: versions 1 and 2 count them from 1, and in version 3 0 stands for stairs
abbrev pub least_vector : Weighing → ℕ
least_vector weighing.WholeOrNone = 1
least_vector weighing.Number = 0

-- the greatest number that says a weight
abbrev pub most_weight : Weighing → ℕ
most_weight weighing.WholeOrNone = 1
most_weight weighing.Number = PRICE_SCALE

-- how much a leaf weighs the cost, by the number that says it
abbrev pub rho_said : Weighing → ℕ → ℕ
rho_said weighing.WholeOrNone number = if number == 1 then PRICE_SCALE else 0
rho_said weighing.Number number = number

-- and the number that says it: 1 stands for wholly, 0 for not at all
abbrev pub rho_number : Weighing → ℕ → ℕ
rho_number weighing.WholeOrNone rho = if rho == 0 then 0 else 1
rho_number weighing.Number rho = rho

-- the end of a sum's interval that a weight counts, by the number that says it
abbrev pub side_said : ℕ → Side
side_said number = if number == 1 then AtLeast else AtMost

-- and the number that says it
abbrev pub side_number : Side → ℕ
side_number AtMost = 0
side_number AtLeast = 1
