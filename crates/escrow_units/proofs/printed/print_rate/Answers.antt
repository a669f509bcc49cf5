use Rattle.escrow_units.proofs.PrintedFacts.{rate_of-fixed}
use Rattle.escrow_units.proofs.printed.print_rate.Goals as goal

pub returns-clause-reads_back : goal.returns-clause-reads_back
returns-clause-reads_back c = λ within. rw c.fixed_text.ensures (rate_of-fixed c.args.value.0 within)
