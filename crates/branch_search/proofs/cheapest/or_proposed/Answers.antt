use Rattle.branch_search.proofs.BestFacts.{best-where_none}
use Rattle.branch_search.proofs.cheapest.or_proposed.Goals as goal

pub returns-in-None : goal.returns-in-None
returns-in-None c = λ limit none is.
    best-where_none limit c.args.book.now c.args.proposed (rw c.in-None.is at none) is
