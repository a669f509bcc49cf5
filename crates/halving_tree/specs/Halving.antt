-- The halving tree of a case: each node that nothing closes is split at the middle of its widest line. It is the plainest tree of
-- splits, by which the work of a search is measured, and this project's own.
use Rattle.std.specs.Prelude.{◌≡◌, ℕ, ◌+◌, ◌-◌, ◌*◌, ◌/◌, ◌<◌, ◌≤◌, Bool, false, true, ◌||◌, if◌then◌else◌, List, length, map, slice_index_or, Option, Some, None, Result, Ok, Err, ℤ, pos, ◌-ℤ◌, int_lt}
use Rattle.std.specs.List.{Contains}
use Rattle.backward_build.specs.BackwardPlan.{backward_plan}
use Rattle.backward_build.specs.declared.backward.BuildEnd.{BuildEnd}
use Rattle.case_file.specs.Case.{CaseContents}
use Rattle.cash_table.specs.First.{first_short_of}
use Rattle.cash_table.specs.Points.{is_within_limit}
use Rattle.dual_bound.specs.LeafBound.{bound_of, least_cost_of}
use Rattle.node_ranges.specs.Ranges.{RangesContents, is_single, narrowed, root_of}
use Rattle.node_ranges.specs.Claims.{Claim, bears_out}
use Rattle.proof_tree.specs.declared.interval.Interval.{Interval}
use Rattle.proof_tree.specs.declared.tree.Part.TheVariants as parts
use Rattle.offer_book.specs.Book.{IsBook}
use Rattle.offer_book.specs.CaseBook.{cash_line}
use Rattle.offer_book.specs.Portfolio.{IsPermitted, cost}
use Rattle.offer_book.specs.declared.line.Line.{Line}
use Rattle.halving_tree.specs.Base.{base_leaf, reach_leaf}

-- ---- when a node is an end
-- what the backward plan claims, where it is within the limit: that no rival costs less than it by more than the allowance
abbrev pub claim_within : CaseContents → Result (List ℕ) BuildEnd → Claim
claim_within case (Err fault) = None
claim_within case (Ok plan) = if is_within_limit case.limit case.book plan then Some (pos (cost case.book plan) -ℤ pos case.allowance) else None

-- what the backward plan claims: that no rival costs less than it by more than the allowance; where there is no such plan within
-- the limit, that there is no rival
abbrev pub backward_claim : CaseContents → Claim
backward_claim case = claim_within case (backward_plan case.book)

-- the base leaf bears that claim out over ranges
abbrev pub is_borne_out : CaseContents → RangesContents → Bool
is_borne_out case ranges = bears_out (least_cost_of (case.limit - 1) case.book ranges (base_leaf case.book)) (backward_claim case)

-- the portfolio of the lines' high ends
abbrev pub high_ends : RangesContents → List ℕ
high_ends ranges = map (λ interval. interval.high) ranges.lines

-- a day up to which the needs alone are more than all that ranges can pay by then
abbrev pub is_short_by : CaseContents → RangesContents → Option ℤ → Bool
is_short_by case ranges None = false
is_short_by case ranges (Some day) = int_lt (pos 0) (bound_of (case.limit - 1) case.book ranges (reach_leaf case.book.needs day))

-- even the high ends are short, and that shows on their first short day
abbrev pub is_unreached : CaseContents → RangesContents → Bool
is_unreached case ranges = is_short_by case ranges (first_short_of case.book (high_ends ranges))

-- a node is an end where its ranges hold one portfolio, the base leaf bears the backward plan out, or the needs aren't reached
abbrev pub is_end : CaseContents → RangesContents → Bool
is_end case ranges = is_single ranges || (is_borne_out case ranges || is_unreached case ranges)

-- ---- where another node is split
-- how wide a line's interval is, in cents
abbrev pub width_at : List Line → List Interval → ℕ → ℕ
width_at lines ranges line =
    ((slice_index_or ranges line (record { low = 0; high = 0 })).high - (slice_index_or ranges line (record { low = 0; high = 0 })).low)
    * (slice_index_or lines line (cash_line 0)).step

-- of the lines, the first of the greatest width
pub record IsWidest (lines : List Line) (ranges : List Interval) (line : ℕ) : Type 0 where
  pub there : line < length ranges
  pub greatest : (other : ℕ) → other < length ranges → width_at lines ranges other ≤ width_at lines ranges line
  pub first : (other : ℕ) → other < line → width_at lines ranges other < width_at lines ranges line

-- the middle of a line's interval, rounded down
abbrev pub middle_at : List Interval → ℕ → ℕ
middle_at ranges line =
    ((slice_index_or ranges line (record { low = 0; high = 0 })).low + (slice_index_or ranges line (record { low = 0; high = 0 })).high) / 2

-- a split at the middle of the widest line
pub record IsHalved (lines : List Line) (ranges : List Interval) (line at : ℕ) : Type 0 where
  pub widest : IsWidest lines ranges line
  pub middle : at ≡ middle_at ranges line

-- ---- the tree
-- a tree of splits, each with its left and its right side
pub data Splits : Type 0 where
  End : Splits
  Split : ℕ → ℕ → Splits → Splits → Splits

-- how many nodes it has, ends and splits
abbrev pub node_count : Splits → ℕ
node_count End = 1
node_count (Split line at left right) = 1 + (node_count left + node_count right)

-- the halving tree of ranges: each end is one, and each other node is halved
abbrev pub IsHalvingTree : CaseContents → RangesContents → Splits → Type 0
IsHalvingTree case ranges End = is_end case ranges ≡ true
IsHalvingTree case ranges (Split line at left right) =
    (is_end case ranges ≡ false) × IsHalved case.book.lines ranges.lines line at
    × IsHalvingTree case (narrowed case.book ranges (parts.Line line) at false) left × IsHalvingTree case (narrowed case.book ranges (parts.Line line) at true) right

-- an upper part of it: each of its splits is one of the halving tree, which may go on below its ends
abbrev pub IsUpperPart : CaseContents → RangesContents → Splits → Type 0
IsUpperPart case ranges End = Unit {0}
IsUpperPart case ranges (Split line at left right) =
    (is_end case ranges ≡ false) × IsHalved case.book.lines ranges.lines line at
    × IsUpperPart case (narrowed case.book ranges (parts.Line line) at false) left × IsUpperPart case (narrowed case.book ranges (parts.Line line) at true) right

-- the halving tree of a case has more nodes than so many: an upper part of it has
pub record HasMoreNodes (case : CaseContents) (budget : ℕ) : Type 0 where
  pub part : Splits
  pub upper : IsUpperPart case (root_of case.book) part
  pub more : budget < node_count part

-- ---- laws
-- no upper part of the halving tree has more nodes than the tree
abbrev pub PartsAreWithin : Type 0
PartsAreWithin =
    (case : CaseContents) (part tree : Splits) → IsUpperPart case (root_of case.book) part → IsHalvingTree case (root_of case.book) tree
    → node_count part ≤ node_count tree

-- the halving tree has fewer nodes than twice the number of permitted portfolios: than twice the length of each list of them all
abbrev pub PartsAreFew : Type 0
PartsAreFew =
    (case : CaseContents) (part : Splits) → IsBook case.book → IsUpperPart case (root_of case.book) part
    → (portfolios : List (List ℕ)) → ((plan : List ℕ) → IsPermitted case.book plan → Contains portfolios plan)
    → node_count part < 2 * length portfolios
