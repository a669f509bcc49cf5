use Rattle.dual_bound.proofs.rooms.Rooms.enter.Goals as goal

pub returns-then-place-self-clause-known : goal.returns-then-place-self-clause-known
returns-then-place-self-clause-known c =
    λ book known rooms. c.exchange-then-place-self.ensures.known book (c.exchange.ensures.known book known rooms) (c.exchange.ensures.rooms book known rooms)

pub returns-then-place-self-clause-rooms : goal.returns-then-place-self-clause-rooms
returns-then-place-self-clause-rooms c =
    λ book known rooms. c.exchange-then-place-self.ensures.rooms book (c.exchange.ensures.known book known rooms) (c.exchange.ensures.rooms book known rooms)
