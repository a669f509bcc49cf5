use Rattle.std.proofs.lemmas.List.Elements.{All-append}
use Rattle.offer_book.specs.Book.{IsSecurityLine}
use Rattle.offer_book.specs.CaseBook.{issue_days}
use Rattle.offer_book.proofs.files.make_book.Goals as goal

pub book_of_issue-requires-clause-lines : goal.book_of_issue-requires-clause-lines
book_of_issue-requires-clause-lines c =
    let offers = rw c.in_ok-days.ensures at c.in_ok-offers.ensures.securities in
    let market = rw c.in_ok-days.ensures at c.in_ok-market.ensures.securities in
    rw (c.as_slice-3.ensures.value, c.as_slice-4.ensures.value)
    (All-append (IsSecurityLine (issue_days c.args.issue.now)) c.in_ok-offers.offers.items c.in_ok-market.market.items offers market)
