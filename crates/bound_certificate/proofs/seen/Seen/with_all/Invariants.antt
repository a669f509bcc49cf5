use Rattle.std.proofs.Common.{◌≡◌, take}
use Rattle.std.specs.List.{fold}
use Rattle.bound_certificate.specs.LongLine.{seen_with}
use Rattle.bound_certificate.proofs.seen.Seen.with_all.Given as goal

abbrev pub invariant-loop-byte : goal.invariant-loop-byte
invariant-loop-byte l = l.seen ≡ fold seen_with l.fn.self (take l.byte-index l.bytes)
