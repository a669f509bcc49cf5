-- What is kept of the part of a line that came.
use Rattle.std.specs.Prelude.{◌≡◌, ℕ, Bool, true, nat_lt, List, length, take}
use Rattle.bound_certificate.specs.declared.limits.TheConstants.{LINE_ROOM}
use Rattle.bound_certificate.specs.declared.seen.Seen.{Seen}
use Rattle.bound_certificate.specs.LongLine.{seen_of}

-- its first bytes, whether it is longer than any right line, and then what its words are
pub record Kept : Type 0 where
  pub head : List ℕ
  pub long : Bool
  pub seen : Seen

-- this is kept of these bytes
pub record IsKept (bytes : List ℕ) (kept : Kept) : Type 0 where
  pub head_is : kept.head ≡ take LINE_ROOM bytes
  pub long_is : kept.long ≡ nat_lt LINE_ROOM (length bytes)
  pub seen_is : kept.long ≡ true → kept.seen ≡ seen_of bytes
