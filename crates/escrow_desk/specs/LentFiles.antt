-- A desk over lent files, which is seen as its files.
use Rattle.std.specs.Prelude.{None}
use Rattle.escrow_desk.specs.Content.{Files, Told}
use Rattle.escrow_desk.specs.Counts.{Counts}

-- it tells nothing
abbrev pub untold : Files → Told
untold files = None

-- each of its counts is constant
abbrev pub uncounted : Files → Counts
uncounted files = record { read_faults = 0; write_faults = 0; absences = 0 }
