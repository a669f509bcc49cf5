-- Loads: what the weights of sums credit a unit of each line, kept by depth.
use Rattle.std.specs.Prelude.{◌≡◌, ℕ, ◌+◌, ◌*◌, ◌^◌, ◌<◌, ◌≤◌, List, [], length, slice_index_or, vec_capacity, ℤ, pos, ◌*ℤ◌, unsigned_abs}
use Rattle.offer_book.specs.Book.{BookContents}
use Rattle.offer_book.specs.Sums.{coarse_step, depths}
use Rattle.offer_book.specs.declared.line.Line.{Line}
use Rattle.offer_book.specs.declared.line.LineKind.TheVariants.{Cash}
use Rattle.offer_book.specs.declared.coefficients.TheConstants.{COEFFICIENT_SCALE}
use Rattle.dual_bound.specs.LeafBound.{load}
use Rattle.dual_bound.specs.declared.loads.Loads.{Loads}
use Rattle.proof_tree.specs.Tree.{AreSumWeights}
use Rattle.proof_tree.specs.declared.tree.Leaf.{Leaf}
use Rattle.proof_tree.specs.declared.weights.SumWeight.{SumWeight}
use Rattle.proof_tree.specs.declared.weights.TheConstants.{MOST_WEIGHTS}

-- at each depth stands what a unit of it is credited, scaled
abbrev pub AreLoadsByDepth : ℕ → List SumWeight → List ℤ → Type 0
AreLoadsByDepth coarse weights by_depth =
    (depth : ℕ) (d : ℤ) → depth < length by_depth → slice_index_or by_depth depth d ≡ pos (COEFFICIENT_SCALE * coarse) *ℤ load weights depth

-- loads are those of a book, with room for as many weights as a leaf can have
pub record AreLoads (book : BookContents) (loads : Loads) : Type 0 where
  pub coarse : loads.coarse ≡ coarse_step book
  pub depths : loads.depths.items ≡ depths book
  pub room : MOST_WEIGHTS ≤ vec_capacity loads.weights
  pub weights : AreSumWeights (length book.needs) loads.weights.items
  pub every : length loads.by_depth.items ≡ length book.needs + 1
  pub by_depth : AreLoadsByDepth loads.coarse loads.weights.items loads.by_depth.items

-- a load of a unit of a line: small, over all its units too, and none of opening cash
pub record IsLoad (line : Line) (own_load : ℤ) : Type 0 where
  pub unit : unsigned_abs own_load ≤ 64 * 10 ^ 29
  pub small : unsigned_abs own_load * line.most ≤ 64 * 10 ^ 32
  pub cash : line.kind ≡ Cash → own_load ≡ pos 0

-- a leaf without weights of sums
abbrev pub unweighted : Leaf → Leaf
unweighted leaf = record { rho = leaf.rho; mu = leaf.mu; prices = leaf.prices; weights = [] }

-- a leaf with weights of sums
abbrev pub with_weights : Leaf → List SumWeight → Leaf
with_weights leaf weights = record { rho = leaf.rho; mu = leaf.mu; prices = leaf.prices; weights = weights }
