-- Receipts kept by need date: the place of a date has what comes after the date before it and up to that date.
use Rattle.std.specs.Prelude.{◌≡◌, ℕ, ◌+◌, ◌<◌, ◌≤◌, if◌then◌else◌, List, length, take, slice_index_or, ℤ, int_le, int_lt}
use Rattle.std.specs.List.{sum, sum_by}
use Rattle.escrow_units.specs.Flows.{total}
use Rattle.escrow_units.specs.declared.security.Flow.{Flow}
use Rattle.day_sums.specs.Summed.{total_by}

-- the cents of a flow, if its day has come by the day t
abbrev pub cents_by : ℤ → Flow → ℕ
cents_by t flow = if int_le flow.day t then flow.cents.0 else 0

-- the cents of the flows before a day
abbrev pub total_before : ℤ → List Flow → ℕ
total_before day flows = sum_by (λ flow. if int_lt flow.day day then flow.cents.0 else 0) flows

-- the receipts up to each need date are the flows up to and on it
abbrev pub AreReceipts : List Flow → List Flow → List ℕ → Type 0
AreReceipts needs flows receipts =
    (k : ℕ) (d : Flow) → k < length needs → sum (take (k + 1) receipts) ≡ total_by (slice_index_or needs k d).day flows

-- the receipts up to the need date at place k are at least the needs up to it
abbrev pub IsCovered : List Flow → List ℕ → ℕ → Type 0
IsCovered needs receipts k = total (take (k + 1) needs) ≤ sum (take (k + 1) receipts)

-- the need at place k is the first one up to which the receipts are less than the needs
pub record IsFirstUncovered (needs : List Flow) (receipts : List ℕ) (k : ℕ) : Type 0 where
  pub within : k < length needs
  pub short : sum (take (k + 1) receipts) < total (take (k + 1) needs)
  pub before : (j : ℕ) → j < k → IsCovered needs receipts j
