-- Days, each once, and the set of their numbers.
use Rattle.std.specs.Prelude.{◌≡◌, List, ℤ}
use Rattle.std.specs.BTreeSet.{BTreeSet, contains}
use Rattle.std.specs.List.{list_any}
use Rattle.std.specs.Ordering.{int_cmp, int_eq}

-- the set has the days of the list, and nothing else
abbrev pub IsSetOf : List ℤ → BTreeSet ℤ → Type 0
IsSetOf days numbers = (day : ℤ) → contains int_cmp numbers day ≡ list_any (int_eq day) days
