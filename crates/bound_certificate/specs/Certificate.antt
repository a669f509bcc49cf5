-- Well-formed certificates. The limits are this project's own.
use Rattle.std.specs.Prelude.{◌≡◌, ℕ, ◌≤◌, ◌<◌, List, [], length, All, AllPairs, Option, Some, None}
use Rattle.proof_tree.specs.Tree.{AreTrees, IsNode}
use Rattle.proof_tree.specs.declared.tree.TreeNode.{TreeNode}
use Rattle.proof_tree.specs.declared.tree.TreeNode.TheVariants as tree
use Rattle.bound_certificate.specs.declared.certificate.Buy.{Buy}
use Rattle.bound_certificate.specs.declared.certificate.Certificate.{Certificate}
use Rattle.bound_certificate.specs.declared.limits.TheConstants.{GREATEST_GAP, MOST_BUYS, MOST_DATES, MOST_NODES}
use Rattle.proof_tree.specs.declared.tree.TheConstants.{GREATEST_UNITS}
use Rattle.bound_certificate.specs.declared.weighing.Weighing.TheVariants as weighing
use Rattle.bound_certificate.specs.Weights.{IsSayablePart, IsWholeOrNone}

-- at least one unit of a line
abbrev pub IsBuy : Buy → Type 0
IsBuy buy = (buy.line ≤ 65_535) × (1 ≤ buy.units) × (buy.units ≤ GREATEST_UNITS)

-- purchases, so many at most, by rising lines
pub record AreBuys (most : ℕ) (buys : List Buy) : Type 0 where
  pub few : length buys ≤ most
  pub range : All IsBuy buys
  pub rising : AllPairs (λ earlier later. earlier.line < later.line) buys

-- without a portfolio there is no gap
abbrev pub IsPortfolio : ℕ → Option (List Buy) → ℕ → Type 0
IsPortfolio most None gap = gap ≡ 0
IsPortfolio most (Some buys) gap = AreBuys most buys × (gap ≤ GREATEST_GAP)

-- a node that versions 1 and 2 can say: a split of a line, a point, or a leaf without weights of sums at which the cost counts wholly or not at all
abbrev pub IsPlainNode : TreeNode → Type 0
IsPlainNode (tree.Split part at) = IsSayablePart weighing.WholeOrNone part
IsPlainNode (tree.Closed leaf) = IsWholeOrNone leaf.rho × (leaf.weights ≡ [])
IsPlainNode other = Unit {0}

-- a certificate for so many need dates that version 1 can say: its portfolio, of at most 257 purchases, and the nodes of one tree, from 1 to 10,000
pub record IsWellFormed (dates : ℕ) (cert : Certificate) : Type 0 where
  pub portfolio : IsPortfolio MOST_BUYS cert.buys cert.gap
  pub few : length cert.nodes ≤ MOST_NODES
  pub nodes : All (IsNode dates) cert.nodes
  pub plain : All IsPlainNode cert.nodes
  pub tree : AreTrees 1 cert.nodes

-- a certificate is well formed for some number of need dates, at most 480
abbrev pub IsWritable : Certificate → Type 0
IsWritable cert = (dates : ℕ) × (dates ≤ MOST_DATES) × IsWellFormed dates cert
