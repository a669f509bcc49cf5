use Rattle.case_file.specs.Case.{case_view}
use Rattle.held_escrow.proofs.CaseFacts.{kept-is, kept-meets, kept-rivals, kept-short}
use Rattle.held_escrow.proofs.case.held_case.Goals as goal

pub returns-clause-case : goal.returns-clause-case
returns-clause-case c = kept-is c.args.held.now (case_view c.args.case.now) c.in_ok-book.book c.in_ok-book.ensures.book c.in_ok-book.ensures.residual

pub returns-clause-meet : goal.returns-clause-meet
returns-clause-meet c = kept-meets c.args.held.now c.args.case.now.book c.in_ok-book.book c.in_ok-book.ensures.book c.in_ok-book.ensures.residual

pub returns-clause-short : goal.returns-clause-short
returns-clause-short c = kept-short c.args.held.now c.args.case.now.book c.in_ok-book.book c.in_ok-book.ensures.book c.in_ok-book.ensures.residual

pub returns-clause-rivals : goal.returns-clause-rivals
returns-clause-rivals c = kept-rivals c.args.case.now.limit.0 c.args.held.now c.args.case.now.book c.in_ok-book.book c.in_ok-book.ensures.book c.in_ok-book.ensures.residual
