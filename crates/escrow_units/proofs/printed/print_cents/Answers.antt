use Rattle.escrow_units.proofs.PrintedFacts.{cents_of-fixed}
use Rattle.escrow_units.proofs.printed.print_cents.Goals as goal

pub returns-clause-reads_back : goal.returns-clause-reads_back
returns-clause-reads_back c = λ within. rw c.fixed_text.ensures (cents_of-fixed c.args.value.0 within)
