-- A list of lists, kept as their items one after the other and the place where each list ends.
use Rattle.std.specs.Prelude.{◌≡◌, ℕ, ◌-◌, List, [], ◌∷◌, take, drop}
use Rattle.csv.specs.Records.{Rising, last_end}

-- the parts that end at these places, after a start
unfoldable pub parts_from : {A : Type 0} → ℕ → List ℕ → List A → List (List A)
parts_from start [] items = []
parts_from start (end ∷ ends) items = take (end - start) (drop start items) ∷ parts_from end ends items

-- the parts of the whole list
abbrev pub parts : {A : Type 0} → List ℕ → List A → List (List A)
parts ends items = parts_from 0 ends items

-- the places rise from 0 on, and the last is the end of the list
pub record AreEnds (ends : List ℕ) (size : ℕ) : Type 0 where
  pub rising : Rising 0 ends size
  pub last : last_end 0 ends ≡ size
