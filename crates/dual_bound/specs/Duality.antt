-- Weak duality: the bound of a leaf is a lower bound on cost. It holds for every leaf whose prices never rise, whatever they
-- are, so that nothing of how they were found has to be trusted.
use Rattle.std.specs.Prelude.{◌≡◌, ℕ, ◌-◌, ◌*◌, List, length, ℤ, pos, ◌≤ℤ◌}
use Rattle.offer_book.specs.Book.{BookContents, IsBook}
use Rattle.offer_book.specs.Portfolio.{IsPermitted, Meets, cost}
use Rattle.offer_book.specs.Rival.{IsRival}
use Rattle.offer_book.specs.declared.coefficients.TheConstants.{COEFFICIENT_SCALE}
use Rattle.dual_bound.specs.LeafBound.{bound_of}
use Rattle.node_ranges.specs.Ranges.{IsWithin, RangesContents}
use Rattle.proof_tree.specs.Tree.{IsLeaf}
use Rattle.proof_tree.specs.declared.tree.Leaf.{Leaf}

-- the cost of a portfolio, weighted and scaled, is at least a bound
abbrev pub CostsAtLeast : ℤ → BookContents → Leaf → List ℕ → Type 0
CostsAtLeast bound book leaf plan = bound ≤ℤ pos (COEFFICIENT_SCALE * (leaf.rho * cost book plan))

-- no rival within the ranges costs less than the bound of a leaf at one unit below the limit
abbrev pub BoundsRivals : Type 0
BoundsRivals =
    (limit : ℕ) (book : BookContents) (ranges : RangesContents) (leaf : Leaf) → IsBook book → IsLeaf (length book.needs) leaf
    → (rival : List ℕ) → IsRival limit book rival → IsWithin book ranges rival
    → CostsAtLeast (bound_of (limit - 1) book ranges leaf) book leaf rival

-- without a multiplier of the limit, no permitted portfolio within the ranges that meets the needs costs less, whatever its yield
abbrev pub BoundsAll : Type 0
BoundsAll =
    (n : ℕ) (book : BookContents) (ranges : RangesContents) (leaf : Leaf) → IsBook book → IsLeaf (length book.needs) leaf → leaf.mu ≡ 0
    → (plan : List ℕ) → IsPermitted book plan → Meets book plan → IsWithin book ranges plan
    → CostsAtLeast (bound_of n book ranges leaf) book leaf plan
