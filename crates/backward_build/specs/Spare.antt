-- Amounts with a place for each need date.
use Rattle.std.specs.Prelude.{◌≡◌, ℕ, ◌+◌, ◌<◌, ◌≤◌, List, length, slice_index, slice_index_or}
use Rattle.escrow_units.specs.declared.security.Flow.{Flow}
use Rattle.day_sums.specs.Summed.{total_by}

-- by each need date flows come to so much
abbrev pub ArePaid : List Flow → List Flow → List ℕ → Type 0
ArePaid needs flows paid =
    (k : ℕ) (d : Flow) → k < length needs → slice_index paid k ≡ total_by (slice_index_or needs k d).day flows

-- after each need date so much is left of the flows up to and on it
abbrev pub AreSpare : List Flow → List Flow → List ℕ → Type 0
AreSpare needs flows spare =
    (k : ℕ) (d : Flow) → k < length needs
    → total_by (slice_index_or needs k d).day needs + slice_index spare k ≡ total_by (slice_index_or needs k d).day flows

-- by each need date flows come to at least what is due
abbrev pub Cover : List Flow → List ℕ → List Flow → Type 0
Cover needs due flows =
    (k : ℕ) (d : Flow) → k < length needs → slice_index due k ≤ total_by (slice_index_or needs k d).day flows
