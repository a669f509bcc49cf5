-- An escrow in which holdings are kept: what it receives of them already serves its needs, beside what is bought in addition. The
-- yield is that of what is bought alone, which is this project's own choice (26 CFR 1.148-2(d)(2) names the limit).
use Rattle.std.specs.Prelude.{◌≡◌, ℕ, ◌+◌, ◌-◌, ◌<◌, ◌≤◌, List, ℤ, ◌<ℤ◌, Ok}
use Rattle.day_sums.specs.Summed.{total_by}
use Rattle.day_sums.specs.SummedLaws.{AreAboveZero}
use Rattle.escrow_units.specs.Flows.{FallWithinFortyYears, Rise, indexed, total}
use Rattle.escrow_units.specs.PresentValue.{PresentValueAtMost}
use Rattle.escrow_units.specs.SlgsTerms.{IsSettlement}
use Rattle.escrow_units.specs.declared.limits.TheConstants.{AMOUNT_LIMIT}
use Rattle.escrow_units.specs.declared.security.Flow.{Flow}
use Rattle.row_fields.specs.RowForm.{Row}
use Rattle.offer_book.specs.Book.{BookContents}
use Rattle.offer_book.specs.Portfolio.{IsPermitted, payments, security_cost, security_flows}
use Rattle.held_escrow.specs.HeldForm.{held_of}

-- holdings as this project bounds them: on days that strictly rise, from settlement to 40 years later, of at least one cent each, and
-- of at most 10^13 cents together
pub record AreHoldings (settle : ℤ) (held : List Flow) : Type 0 where
  pub rising : Rise held
  pub within : FallWithinFortyYears settle held
  pub positive : AreAboveZero held
  pub small : total held ≤ AMOUNT_LIMIT

-- the holdings of a file keep every limit
abbrev pub FilesGiveHoldings : Type 0
FilesGiveHoldings = (settle : ℤ) (rows : List Row) (held : List Flow) → IsSettlement settle → held_of settle rows ≡ Ok held → AreHoldings settle held

-- on every day opening cash, the receipts of a portfolio and those of the holdings, up to and on that day, are at least the needs up to
-- and on it
abbrev pub MeetsWithHoldings : BookContents → List Flow → List ℕ → Type 0
MeetsWithHoldings book held plan = (t : ℤ) → total_by t book.needs ≤ total_by t (payments book plan) + total_by t held

-- t is the first day on which a portfolio doesn't meet the needs with holdings
pub record IsFirstShortWithHoldings (book : BookContents) (held : List Flow) (plan : List ℕ) (t : ℤ) : Type 0 where
  pub short : total_by t (payments book plan) + total_by t held < total_by t book.needs
  pub before : (s : ℤ) → s <ℤ t → total_by s book.needs ≤ total_by s (payments book plan) + total_by s held

-- a held rival under a yield limit, in units of 10^-10: a permitted portfolio that meets the needs with holdings, and whose exact yield
-- is at most one unit less than the limit, as of a rival without them: the holdings count neither in what it costs nor in what it pays
pub record IsHeldRival (limit : ℕ) (book : BookContents) (held : List Flow) (plan : List ℕ) : Type 0 where
  pub permitted : IsPermitted book plan
  pub covered : MeetsWithHoldings book held plan
  pub yields : PresentValueAtMost (limit - 1) (indexed book.days.settle (security_flows book plan)) (security_cost book plan)
