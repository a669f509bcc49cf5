-- The records of a text of comma-separated fields.
use Rattle.std.specs.Prelude.{ℕ, List}
use Rattle.csv.specs.Reading.{records, default_config, strip_bom}

-- the records of a text as `csv` defines them: no header row, records of any length, no trimming, and a byte order mark
-- at the very start is no part of the text
abbrev pub rows_of : List ℕ → List (List (List ℕ))
rows_of bytes = records default_config (strip_bom bytes)
