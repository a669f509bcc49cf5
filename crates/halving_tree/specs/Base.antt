-- The leaf that every node of a search is measured by. It is this project's own.
use Rattle.std.specs.Prelude.{List, [], length, map, replicate, unwrap_or, if◌then◌else◌, int_le, ℤ}
use Rattle.backward_build.specs.PriceCurve.{bootstrapped_prices, leaf_of_prices}
use Rattle.proof_tree.specs.declared.prices.TheConstants.{PRICE_SCALE}
use Rattle.proof_tree.specs.declared.tree.Leaf.{Leaf}
use Rattle.escrow_units.specs.declared.security.Flow.{Flow}
use Rattle.offer_book.specs.Book.{BookContents}

-- the base leaf: that of the bootstrapped prices, and where there are none, that of 0 for each need date
abbrev pub base_leaf : BookContents → Leaf
base_leaf book = leaf_of_prices (unwrap_or (bootstrapped_prices book) (replicate (length book.needs) 0))

-- a leaf that weighs the needs alone, and not the cost: a price of 1 for each need date up to a day, and 0 after it
abbrev pub reach_leaf : List Flow → ℤ → Leaf
reach_leaf needs day = record { rho = 0; mu = 0; prices = map (λ need. if int_le need.day day then PRICE_SCALE else 0) needs; weights = [] }
