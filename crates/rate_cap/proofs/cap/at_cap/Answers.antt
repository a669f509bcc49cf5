use Rattle.case_file.specs.Case.{case_view}
use Rattle.rate_cap.proofs.CaseFacts.{is-at, is-itself}
use Rattle.rate_cap.proofs.cap.at_cap.Goals as goal

pub returns-clause-at : goal.returns-clause-at
returns-clause-at c = is-at c.args.cap (case_view c.args.case.now) c.in_ok-book.book c.in_ok-book.ensures.book

pub returns-clause-itself : goal.returns-clause-itself
returns-clause-itself c = is-itself c.args.cap (case_view c.args.case.now) c.in_ok-book.book c.in_ok-book.ensures.book
