-- That intervals have room for their lines, and those of sums for theirs, has one proof at most, as a fact must that a value holds.
use Rattle.std.specs.Prelude.{ℕ, List, [], ◌∷◌}
use Rattle.std.specs.List.{AllZip}
use Rattle.std.specs.Coded.{×_prop, Unit-prop, le_prop}
use Rattle.offer_book.specs.declared.line.Line.{Line}
use Rattle.node_ranges.specs.Ranges.{HasRoomFor, IsUpTo}
use Rattle.proof_tree.specs.declared.interval.Interval.{Interval}

pub room-prop : (lines : List Line) (ranges : List Interval) → IsProp (AllZip HasRoomFor lines ranges)
room-prop [] [] = Unit-prop
room-prop [] (interval ∷ ranges) = λ h k. absurd h
room-prop (line ∷ lines) [] = λ h k. absurd h
room-prop (line ∷ lines) (interval ∷ ranges) = ×_prop le_prop (room-prop lines ranges)

pub sums-prop : (most : List ℕ) (sums : List Interval) → IsProp (AllZip IsUpTo most sums)
sums-prop [] [] = Unit-prop
sums-prop [] (interval ∷ sums) = λ h k. absurd h
sums-prop (high ∷ most) [] = λ h k. absurd h
sums-prop (high ∷ most) (interval ∷ sums) = ×_prop le_prop (sums-prop most sums)
