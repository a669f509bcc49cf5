-- The way to a node, and its ranges. This is this project's own.
use Rattle.std.specs.Prelude.{◌≡◌, ℕ, Bool, ◌==◌, if◌then◌else◌, IsTrue, List, [], ◌∷◌}
use Rattle.offer_book.specs.Book.{BookContents}
use Rattle.proof_tree.specs.declared.tree.Part.TheVariants.{Line}
use Rattle.node_ranges.specs.Ranges.{RangesContents, is_proper, narrowed, root_of}
use Rattle.node_pool.specs.declared.node.NodeId.{NodeId}
use Rattle.node_pool.specs.declared.node.State.{State}
use Rattle.node_pool.specs.declared.node.State.TheVariants as state
use Rattle.node_pool.specs.Pool.{state_at}

-- a split on the way, and the side on which the way goes on
pub record Step : Type 0 where
  pub line : ℕ
  pub at : ℕ
  pub right : Bool

-- a child is on this side of the split of its parent
pub record IsStep (states : List State) (child parent : ℕ) (step : Step) : Type 0 where
  pub left : NodeId
  pub right : NodeId
  pub split : state_at states parent ≡ state.Split step.line step.at left right
  pub side : child ≡ (if step.right then right.0 else left.0)

-- the splits from a node up to the root
abbrev pub IsWay : List State → ℕ → List Step → Type 0
IsWay states node [] = node ≡ 0
IsWay states node (step ∷ above) = (parent : ℕ) × IsStep states node parent step × IsWay states parent above

-- the ranges of a node: the root's, narrowed by the splits on its way from the root
abbrev pub ranges_at : BookContents → List Step → RangesContents
ranges_at book [] = root_of book
ranges_at book (step ∷ above) = narrowed book (ranges_at book above) (Line step.line) step.at step.right

-- each of them is proper in the ranges of its node
abbrev pub AreProper : BookContents → List Step → Type 0
AreProper book [] = Unit {0}
AreProper book (step ∷ above) = AreProper book above × IsTrue (is_proper (ranges_at book above) (Line step.line) step.at)

-- ranges with one split more, where it is proper in them
abbrev pub narrowed_by : BookContents → RangesContents → State → ℕ → RangesContents
narrowed_by book ranges (state.Split line at left right) child =
    if is_proper ranges (Line line) at then narrowed book ranges (Line line) at (right.0 == child) else ranges
narrowed_by book ranges other child = ranges
