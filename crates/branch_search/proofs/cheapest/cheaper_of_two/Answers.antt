use Rattle.std.proofs.Common.{arith}
use Rattle.branch_search.proofs.BestFacts.{best-proposed}
use Rattle.branch_search.proofs.cheapest.cheaper_of_two.Goals as goal

pub returns-then-proposed-cost : goal.returns-then-proposed-cost
returns-then-proposed-cost c = λ limit best is.
    best-proposed limit c.args.book.now c.args.plan c.args.proposed (omega (arith, c.if-proposed-cost.true, c.cost.ensures)) best is
