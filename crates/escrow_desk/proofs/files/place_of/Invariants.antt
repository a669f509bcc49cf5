use Rattle.std.proofs.Common.{◌≢◌, ◌<◌, ℕ, string_bytes, slice_index_or}
use Rattle.escrow_desk.specs.declared.named.NamedBytes.{NamedBytes}
use Rattle.escrow_desk.proofs.files.place_of.Given as goal

abbrev pub invariant-loop-i : goal.invariant-loop-i
invariant-loop-i l = (j : ℕ) (d : NamedBytes) → j < l.i → string_bytes (slice_index_or l.files j d).name ≢ l.name
