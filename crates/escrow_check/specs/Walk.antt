-- Where a tree stands as its nodes come: the ranges that are waiting, of the node that comes next and of the right sides after it.
use Rattle.std.specs.Prelude.{◌≡◌, if◌then◌else◌, IsTrue, true, List, [], ◌∷◌, ◌++◌, slice_index_or}
use Rattle.offer_book.specs.Book.{BookContents}
use Rattle.node_ranges.specs.Ranges.{AreTight, RangesContents, intervals_of, is_proper, narrowed, place_of, root_of}
use Rattle.proof_tree.specs.declared.interval.Interval.{Interval}
use Rattle.escrow_check.specs.declared.walk.OpenSplit.{OpenSplit}
use Rattle.escrow_check.specs.declared.walk.Walk.{Walk}

-- ranges on the side of a split that is under way
abbrev pub side_under_way : BookContents → RangesContents → OpenSplit → RangesContents
side_under_way book ranges split = narrowed book ranges split.part split.at split.right

-- ranges within splits, the outermost first
abbrev pub within_splits : BookContents → RangesContents → List OpenSplit → RangesContents
within_splits book ranges [] = ranges
within_splits book ranges (split ∷ splits) = within_splits book (side_under_way book ranges split) splits

-- the right side of a split whose left side is under way
abbrev pub right_side : BookContents → RangesContents → OpenSplit → List RangesContents
right_side book ranges split = if split.right then [] else narrowed book ranges split.part split.at true ∷ []

-- the right sides that are to come, the innermost first
abbrev pub to_come : BookContents → RangesContents → List OpenSplit → List RangesContents
to_come book ranges [] = []
to_come book ranges (split ∷ splits) = to_come book (side_under_way book ranges split) splits ++ right_side book ranges split

-- a split of ranges, which keeps the interval that it splits
pub record IsSplitOf (book : BookContents) (ranges : RangesContents) (split : OpenSplit) : Type 0 where
  pub tight : AreTight book ranges
  pub proper : IsTrue (is_proper ranges split.part split.at)
  pub before : (d : Interval) → split.before ≡ slice_index_or (intervals_of ranges split.part) (place_of split.part) d

-- so is each within those around it
abbrev pub AreSplitsOf : BookContents → RangesContents → List OpenSplit → Type 0
AreSplitsOf book ranges [] = AreTight book ranges
AreSplitsOf book ranges (split ∷ splits) = IsSplitOf book ranges split × AreSplitsOf book (side_under_way book ranges split) splits

-- the ranges are those of the root within the open splits
pub record IsWalk (book : BookContents) (walk : Walk) : Type 0 where
  pub at : walk.ranges ≡ within_splits book (root_of book) walk.splits.items
  pub split : AreSplitsOf book (root_of book) walk.splits.items

-- the ranges that wait once the subtree that comes next is done
abbrev pub after_subtree : BookContents → Walk → List RangesContents
after_subtree book walk = to_come book (root_of book) walk.splits.items

-- the ranges that wait
abbrev pub waiting_of : BookContents → Walk → List RangesContents
waiting_of book walk = if walk.over then [] else walk.ranges ∷ after_subtree book walk
