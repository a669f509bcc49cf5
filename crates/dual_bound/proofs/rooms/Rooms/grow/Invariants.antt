use Rattle.std.proofs.Common.{All}
use Rattle.offer_book.specs.Book.{BookContents}
use Rattle.dual_bound.specs.Rooms.{AreKnown, IsRoom}
use Rattle.dual_bound.proofs.rooms.Rooms.grow.Given as goal

abbrev pub invariant-loop : goal.invariant-loop
invariant-loop l = (book : BookContents) → AreKnown book l.tableau l.leasts → All (IsRoom book l.tableau) l.fn.self.rooms.items → All (IsRoom book l.tableau) l.self.rooms.items
