use Rattle.dual_bound.proofs.columns.Columns.add_rooms.Goals as goal

pub invariant_of-self : goal.invariant_of-self
invariant_of-self c = (
  record {
    known = c.self.invariant.0.known;
    besides = c.grow.ensures c.self.inside.book.now c.self.invariant.0.known c.self.invariant.0.besides;
    room = c.self.invariant.0.room;
  },
  c.self.invariant.1,
  c.self.invariant.2,
)
