-- The steps of a leaf, and what it means that a leaf is improved. Both are this project's own.
use Rattle.std.specs.Prelude.{◌≡◌, ◌⊎◌, ℕ, zero, suc, ◌+◌, ◌*◌, ◌/◌, ◌<◌, ◌==◌, List, [], length, replicate, slice_index, slice_index_or, ◌≤ℤ◌}
use Rattle.offer_book.specs.Book.{BookContents}
use Rattle.dual_bound.specs.LeafBound.{least_cost_of}
use Rattle.proof_tree.specs.Tree.{IsLeaf, with_price}
use Rattle.proof_tree.specs.declared.prices.TheConstants.{PRICE_SCALE}
use Rattle.node_ranges.specs.Ranges.{RangesContents}
use Rattle.proof_tree.specs.declared.tree.Leaf.{Leaf}
use Rattle.dual_tune.specs.declared.steps.Side.{Side}
use Rattle.dual_tune.specs.declared.steps.Side.TheVariants as side
use Rattle.dual_tune.specs.declared.steps.Multiplier.{Multiplier}
use Rattle.dual_tune.specs.declared.steps.Multiplier.TheVariants as multiplier

-- the price before that of a place: 2 before the first
abbrev pub price_before : List ℕ → ℕ → ℕ
price_before prices zero = 2 * PRICE_SCALE
price_before prices (suc place) = slice_index prices place

-- the price after that of a place: 0 after the last
abbrev pub price_after : List ℕ → ℕ → ℕ
price_after prices place = slice_index_or prices (place + 1) 0

-- the price beside that of a place
abbrev pub price_beside : List ℕ → ℕ → Side → ℕ
price_beside prices place side.Before = price_before prices place
price_beside prices place side.After = price_after prices place

-- a leaf with another multiplier of the limit
abbrev pub with_multiplier : Leaf → ℕ → Leaf
with_multiplier leaf mu = record { rho = leaf.rho; mu = mu; prices = leaf.prices; weights = leaf.weights }

-- a multiplier that is tried, in units of 1 / PRICE_SCALE
abbrev pub mu_of_multiplier : Multiplier → ℕ
mu_of_multiplier multiplier.Nothing = 0
mu_of_multiplier multiplier.Half = PRICE_SCALE / 2
mu_of_multiplier multiplier.Whole = PRICE_SCALE

-- the multipliers that are tried: 0, a half and 1
abbrev pub IsTriedMultiplier : ℕ → Type 0
IsTriedMultiplier mu = (mu ≡ 0) ⊎ (mu ≡ PRICE_SCALE / 2) ⊎ (mu ≡ PRICE_SCALE)

-- one price becomes the one before it or the one after it
abbrev pub IsPriceStep : Leaf → Leaf → Type 0
IsPriceStep leaf step =
    (place : ℕ) × (place < length leaf.prices)
    × ((step ≡ with_price leaf place (price_before leaf.prices place)) ⊎ (step ≡ with_price leaf place (price_after leaf.prices place)))

-- the multiplier of the limit becomes one that is tried
abbrev pub IsMultiplierStep : Leaf → Leaf → Type 0
IsMultiplierStep leaf step = (mu : ℕ) × IsTriedMultiplier mu × (step ≡ with_multiplier leaf mu)

-- a step of a leaf
abbrev pub IsStep : Leaf → Leaf → Type 0
IsStep leaf step = IsPriceStep leaf step ⊎ IsMultiplierStep leaf step

-- both of two leaves weigh the cost, or neither does
abbrev pub WeighAlike : Leaf → Leaf → Type 0
WeighAlike one other = (one.rho == 0) ≡ (other.rho == 0)

-- a leaf is improved over ranges, at the yield n: it keeps its limits, has no weights of sums, weighs the cost where the leaf does, and shows
-- a least cost below that of neither the leaf nor any of its steps
pub record IsImproved (n : ℕ) (book : BookContents) (ranges : RangesContents) (leaf improved : Leaf) : Type 0 where
  pub well_formed : IsLeaf (length book.needs) improved
  pub unweighted : improved.weights ≡ []
  pub alike : WeighAlike leaf improved
  pub given : least_cost_of n book ranges leaf ≤ℤ least_cost_of n book ranges improved
  pub steps : (step : Leaf) → IsStep leaf step → least_cost_of n book ranges step ≤ℤ least_cost_of n book ranges improved

-- a leaf whose prices are 0, without a multiplier of the limit, that weighs the cost as another does
abbrev pub zeros_like : BookContents → Leaf → Leaf
zeros_like book leaf = record { rho = leaf.rho; mu = 0; prices = replicate (length book.needs) 0; weights = [] }

-- where both weigh the cost or neither does, a leaf shows no greater least cost than another
abbrev pub ShowsNoGreater : ℕ → BookContents → RangesContents → Leaf → Leaf → Type 0
ShowsNoGreater n book ranges other leaf = WeighAlike other leaf → least_cost_of n book ranges other ≤ℤ least_cost_of n book ranges leaf

-- a leaf is better than a given one and another: it keeps its limits, has no weights of sums, weighs the cost where the given one does, and
-- neither shows a greater least cost
pub record IsBetter (n : ℕ) (book : BookContents) (ranges : RangesContents) (other given better : Leaf) : Type 0 where
  pub well_formed : IsLeaf (length book.needs) better
  pub unweighted : better.weights ≡ []
  pub alike : WeighAlike given better
  pub no_less : least_cost_of n book ranges given ≤ℤ least_cost_of n book ranges better
  pub no_greater : ShowsNoGreater n book ranges other better
