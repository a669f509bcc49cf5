-- What the old bonds of an issue would pay were they not called.
use Rattle.std.specs.Prelude.{List, [], None, ℤ}
use Rattle.escrow_units.specs.declared.security.Flow.{Flow}
use Rattle.issue_schedule.specs.Needs.{needs_of}
use Rattle.issue_schedule.specs.declared.issue.Bond.{Bond}

-- the old service: the needs of the old bonds alone, with no call, in order of day
abbrev pub old_service_of : ℤ → List Bond → List Flow
old_service_of settle bonds = needs_of settle None [] bonds
