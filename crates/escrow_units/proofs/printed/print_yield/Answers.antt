use Rattle.escrow_units.proofs.PrintedFacts.{yield_of-fixed}
use Rattle.escrow_units.proofs.printed.print_yield.Goals as goal

pub returns-clause-reads_back : goal.returns-clause-reads_back
returns-clause-reads_back c = λ within. rw c.fixed_text.ensures (yield_of-fixed c.args.value.0 within)
