-- Rooms: what is known at leaves besides the one by which a tableau is priced.
use Rattle.std.specs.Prelude.{◌≤◌, All, length, vec_capacity}
use Rattle.offer_book.specs.Book.{BookContents}
use Rattle.dual_bound.specs.Columns.{IsTableau}
use Rattle.dual_bound.specs.Leasts.{AreLeasts}
use Rattle.dual_bound.specs.declared.changes.ChangedDates.{ChangedDates}
use Rattle.dual_bound.specs.declared.leasts.Leasts.{Leasts}
use Rattle.dual_bound.specs.declared.rooms.Room.{Room}
use Rattle.dual_bound.specs.declared.rooms.Rooms.{Rooms}
use Rattle.dual_bound.specs.declared.tableau.Tableau.{Tableau}

-- a tableau is that of a book, and what its lines were found to add at its leaf is right
pub record AreKnown (book : BookContents) (tableau : Tableau) (leasts : Leasts) : Type 0 where
  pub of_book : IsTableau book tableau
  pub right : AreLeasts tableau.yield_units.0 book tableau.priced.leaf leasts

-- what a room holds stands as well for the tableau's columns, days and series
abbrev pub IsRoom : BookContents → Tableau → Room → Type 0
IsRoom book tableau room = AreKnown book (record tableau { priced = room.priced }) room.leasts

-- what columns hold of a book
pub record AreColumns (book : BookContents) (tableau : Tableau) (leasts : Leasts) (rooms : Rooms) (changed : ChangedDates) : Type 0 where
  pub known : AreKnown book tableau leasts
  pub besides : All (IsRoom book tableau) rooms.rooms.items
  pub room : length book.needs ≤ vec_capacity changed.dates
