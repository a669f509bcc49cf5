-- Plain cases close at the root.
use Rattle.std.specs.Prelude.{ℕ, ◌+◌, ◌-◌, ◌*◌, ◌≤◌, List, pos, ◌-ℤ◌, ◌*ℤ◌, ◌<ℤ◌}
use Rattle.offer_book.specs.Book.{BookContents, IsBook}
use Rattle.offer_book.specs.Portfolio.{IsPermitted, Meets, cost}
use Rattle.offer_book.specs.declared.coefficients.TheConstants.{COEFFICIENT_SCALE}
use Rattle.dual_bound.specs.LeafBound.{bound_of}
use Rattle.node_ranges.specs.Ranges.{root_of}
use Rattle.proof_tree.specs.declared.prices.TheConstants.{PRICE_SCALE}
use Rattle.backward_build.specs.PlainCase.{IsPlain, plain_gap}
use Rattle.backward_build.specs.PriceCurve.{leaf_of_prices}

-- in a plain case the leaf of the bootstrapped prices bounds every cost at the root by that of the backward plan, less the gap of the
-- case: with this gap the leaf closes the root
abbrev pub PlainGapHolds : Type 0
PlainGapHolds =
    (limit : ℕ) (book : BookContents) → IsBook book → (plain : IsPlain limit book)
    → (pos (COEFFICIENT_SCALE * PRICE_SCALE) *ℤ (pos (cost book plain.plan) -ℤ pos (plain_gap book) -ℤ pos 1))
    <ℤ bound_of (limit - 1) book (root_of book) (leaf_of_prices plain.prices)

-- so nothing that is permitted and meets the needs, whatever its yield, costs less than that plan by more than the gap
abbrev pub PlainPlansAreNearlyCheapest : Type 0
PlainPlansAreNearlyCheapest =
    (limit : ℕ) (book : BookContents) → IsBook book → (plain : IsPlain limit book) → (other : List ℕ) → IsPermitted book other → Meets book other
    → cost book plain.plan ≤ cost book other + plain_gap book
