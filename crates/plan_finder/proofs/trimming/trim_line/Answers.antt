use Rattle.backward_build.proofs.TrimFacts.{some_line}
use Rattle.backward_build.proofs.UnitFacts.{permitted-at}
use Rattle.plan_finder.proofs.TrimFacts.{covered-meets, due-covered}
use Rattle.plan_finder.proofs.trimming.trim_line.Goals as goal

pub fewest-fewest-requires-clause-permitted : goal.fewest-fewest-requires-clause-permitted
fewest-fewest-requires-clause-permitted c = λ d. rw c.units-units.ensures (permitted-at c.args.ledger.now.book c.args.ledger.now.plan c.args.line c.requires.line c.due.ensures.permitted d)

pub fewest-fewest-requires-clause-enough : goal.fewest-fewest-requires-clause-enough
fewest-fewest-requires-clause-enough c = λ d.
    rw c.units-units.ensures (due-covered c.args.ledger.now.book c.args.ledger.now.plan c.due.result c.args.line d c.requires.line c.due.ensures.permitted.same_length (c.due.ensures.value d) c.requires.meets)

pub returns-clause-meets : goal.returns-clause-meets
returns-clause-meets c =
    rw c.put.ensures (covered-meets c.args.ledger.now.book c.args.ledger.now.plan c.due.result c.args.line c.fewest-fewest.result some_line c.requires.line c.due.ensures.permitted.same_length
    (c.due.ensures.value some_line) (c.fewest-fewest.ensures.enough some_line))
