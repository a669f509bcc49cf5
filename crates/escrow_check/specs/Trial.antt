-- What is known of a certificate as its lines come, and what each line adds.
use Rattle.std.specs.Prelude.{◌≡◌, ℕ, ◌+◌, ◌-◌, ◌^◌, ◌*◌, ◌≤◌, ◌<◌, Bool, true, false, not, ◌&&◌, ◌||◌, nat_lt, if◌then◌else◌, List, [], ◌∷◌, length, replicate, slice_set, is_some, is_none, Option, Some, None, option_map, pos, ◌-ℤ◌, unsigned_abs, vec_len, vec_capacity}
use Rattle.std.specs.Bool.{then_some}
use Rattle.std.specs.Option.{option_or}
use Rattle.dual_bound.specs.Closing.{is_closed_leaf, is_closed_point}
use Rattle.fixed_powers.specs.DiscountPowers.{PowerTable}
use Rattle.fixed_powers.specs.declared.side.Side.TheVariants as side
use Rattle.escrow_units.specs.declared.limits.TheConstants.{GREATEST_INDEX}
use Rattle.bound_certificate.specs.declared.certificate.Buy.{Buy}
use Rattle.bound_certificate.specs.declared.limits.TheConstants.{MOST_NODES}
use Rattle.case_file.specs.Case.{CaseContents}
use Rattle.cash_table.specs.First.{first_short_of}
use Rattle.cash_table.specs.Points.{plan_yield}
use Rattle.dual_bound.specs.Columns.{ColumnsContents}
use Rattle.node_ranges.specs.Ranges.{RangesContents, is_proper, narrowed, root_of}
use Rattle.node_ranges.specs.Claims.{Claim}
use Rattle.proof_tree.specs.declared.tree.Leaf.{Leaf}
use Rattle.proof_tree.specs.declared.tree.Part.{Part}
use Rattle.offer_book.specs.Book.{BookContents}
use Rattle.offer_book.specs.Portfolio.{cost}
use Rattle.yield_enclosure.specs.YieldAnswers.{is_within}
use Rattle.yield_enclosure.specs.declared.answer.YieldAnswer.{YieldAnswer}
use Rattle.escrow_check.specs.Acceptance.{is_offered}
use Rattle.escrow_check.specs.Walk.{IsWalk, after_subtree, waiting_of}
use Rattle.escrow_check.specs.declared.trial.Trial.{Trial}
use Rattle.escrow_check.specs.declared.verdict.Reason.{Reason}
use Rattle.escrow_check.specs.declared.verdict.Reason.TheVariants as reason
use Rattle.escrow_check.specs.declared.verdict.Verdict.{Verdict}
use Rattle.escrow_check.specs.declared.verdict.Verdict.TheVariants as verdict

-- the lower powers of one unit below the limit
abbrev pub ArePowersOf : CaseContents → PowerTable → Type 0
ArePowersOf case powers = powers ≡ record { yield_units = case.limit - 1; side = side.Low; longest = GREATEST_INDEX }

-- columns of the case's book, at one unit below the limit
pub record AreColumnsOf (case : CaseContents) (columns : ColumnsContents) : Type 0 where
  pub book : columns.book ≡ case.book
  pub yield_units : columns.yield_units ≡ case.limit - 1

-- a claim is of an amount that the arithmetic of bounds has room for
abbrev pub IsClaim : Claim → Type 0
IsClaim None = Unit {0}
IsClaim (Some least) = unsigned_abs least ≤ 11 * 10 ^ 14

-- ---- before the first line
pub record IsNew (case : CaseContents) (trial : Trial) : Type 0 where
  pub powers : ArePowersOf case trial.powers
  pub columns : AreColumnsOf case trial.columns
  pub point : length trial.point ≡ length case.book.lines
  pub named : trial.named ≡ false
  pub plan : trial.plan ≡ replicate (length case.book.lines) 0
  pub claim : trial.claim ≡ None
  pub reason : trial.reason ≡ None
  pub walk : IsWalk case.book trial.walk
  pub waiting : waiting_of case.book trial.walk ≡ root_of case.book ∷ []
  pub depth : vec_len trial.walk.splits ≡ 0
  pub room : MOST_NODES ≤ vec_capacity trial.walk.splits
  pub nodes : trial.nodes ≡ 0
  pub weak : trial.weak ≡ None

-- ---- the portfolio
-- with one more purchase: the first that isn't offered is a reason, and then no other counts
abbrev pub with_buy : BookContents → Trial → Buy → Trial
with_buy book trial buy =
    if is_some trial.reason then trial
    else if is_offered book.lines buy then record trial { plan = slice_set trial.plan buy.line buy.units }
    else record trial { reason = Some (reason.NotPermitted buy.line) }

-- why a permitted portfolio with a yield isn't accepted, but for its tree and its gap
abbrev pub plan_reason : CaseContents → List ℕ → YieldAnswer → Option Reason
plan_reason case plan answer =
    option_or (option_map reason.ShortOn (first_short_of case.book plan)) (then_some (not (is_within case.limit answer)) reason.YieldAbove)

-- with the gap, behind which the portfolio is known
abbrev pub with_gap : CaseContents → Trial → ℕ → Trial
with_gap case trial gap =
    if not trial.named || is_some trial.reason then record trial { gap = gap }
    else record trial {
      gap = gap;
      answer = plan_yield case.book trial.plan;
      claim = Some (pos (cost case.book trial.plan) -ℤ pos gap);
      reason = plan_reason case trial.plan (plan_yield case.book trial.plan);
    }

-- ---- the tree
-- a node still matters
abbrev pub may_go : Trial → Bool
may_go trial = is_none trial.reason && not trial.walk.over

-- there is room for one more node
pub record IsReady (case : CaseContents) (trial : Trial) : Type 0 where
  pub powers : ArePowersOf case trial.powers
  pub columns : AreColumnsOf case trial.columns
  pub claim : IsClaim trial.claim
  pub point : length trial.point ≡ length case.book.lines
  pub walk : IsWalk case.book trial.walk
  pub count : may_go trial ≡ true → trial.nodes < MOST_NODES
  pub depth : may_go trial ≡ true → vec_len trial.walk.splits ≤ trial.nodes
  pub room : MOST_NODES ≤ vec_capacity trial.walk.splits

-- a tree goes on: other ranges are waiting, within at most one more split, and the columns are the same, but for their leaf
pub record GoesOn (book : BookContents) (come : List RangesContents) (old new : Trial) : Type 0 where
  pub walk : IsWalk book new.walk
  pub waiting : waiting_of book new.walk ≡ come
  pub depth : vec_len new.walk.splits ≤ vec_len old.walk.splits + 1
  pub room : vec_capacity old.walk.splits ≤ vec_capacity new.walk.splits
  pub point : length new.point ≡ length old.point
  pub columns : new.columns ≡ record old.columns { leaf = new.columns.leaf }

-- the first leaf or point that isn't closed, after one more
abbrev pub weak_after : Bool → Trial → Option ℕ
weak_after closed trial = if is_none trial.weak && not closed then Some (trial.nodes + 1) else trial.weak

-- a leaf or a point came
pub record Ends (book : BookContents) (closed : Bool) (old new : Trial) : Type 0 where
  pub rest : new ≡ record old { nodes = old.nodes + 1; weak = weak_after closed old; walk = new.walk; point = new.point; columns = new.columns }
  pub goes : GoesOn book (after_subtree book old.walk) old new

-- where nodes still matter
pub record TakesEnd (book : BookContents) (closed : Bool) (old new : Trial) : Type 0 where
  pub going : may_go old ≡ true → Ends book closed old new
  pub over : may_go old ≡ false → new ≡ old

-- a point, or a leaf, is closed, or comes after one that isn't
abbrev pub closed_point : CaseContents → Trial → Bool
closed_point case trial = is_some trial.weak || is_closed_point case trial.claim trial.walk.ranges

abbrev pub closed_leaf : CaseContents → Trial → Leaf → Bool
closed_leaf case trial leaf = is_some trial.weak || is_closed_leaf case trial.claim trial.walk.ranges leaf

-- a proper split came
pub record SplitsWell (book : BookContents) (part : Part) (at : ℕ) (old new : Trial) : Type 0 where
  pub rest : new ≡ record old { nodes = old.nodes + 1; walk = new.walk }
  pub goes : GoesOn book (narrowed book old.walk.ranges part at false ∷ narrowed book old.walk.ranges part at true ∷ after_subtree book old.walk) old new

-- a split came, where nodes still matter: the first that isn't proper is a reason
pub record TakesSplit (book : BookContents) (part : Part) (at : ℕ) (old new : Trial) : Type 0 where
  pub going : may_go old ≡ true → is_proper old.walk.ranges part at ≡ true → SplitsWell book part at old new
  pub bad : may_go old ≡ true → is_proper old.walk.ranges part at ≡ false → new ≡ record old { nodes = old.nodes + 1; reason = Some (reason.BadSplit (old.nodes + 1)) }
  pub over : may_go old ≡ false → new ≡ old

-- ---- the verdict, where the certificate is whole
abbrev pub last_verdict : CaseContents → Trial → Verdict
last_verdict case trial =
    if not trial.named then verdict.YesNone
    else if nat_lt case.allowance trial.gap then verdict.No reason.GapAbove
    else verdict.Yes (record { plan = trial.plan; cost = record { 0 = cost case.book trial.plan }; answer = trial.answer; gap = record { 0 = trial.gap } })

abbrev pub verdict_by : CaseContents → Trial → Option Reason → Option ℕ → Verdict
verdict_by case trial (Some why) weak = verdict.No why
verdict_by case trial None (Some node) = verdict.No (reason.WeakLeaf node)
verdict_by case trial None None = last_verdict case trial

abbrev pub verdict_on : CaseContents → Trial → Verdict
verdict_on case trial = verdict_by case trial trial.reason trial.weak
