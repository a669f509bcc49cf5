use Rattle.offer_book.proofs.BookFacts.{books-are_of_their_files, books-are_refused_in_order}
use Rattle.offer_book.proofs.files.book_laws.Goals as goal

pub returns-clause-books : goal.returns-clause-books
returns-clause-books c = books-are_of_their_files

pub returns-clause-refusals : goal.returns-clause-refusals
returns-clause-refusals c = books-are_refused_in_order
