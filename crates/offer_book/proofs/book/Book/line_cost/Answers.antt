use Rattle.std.proofs.Common.{rules}
use Rattle.offer_book.proofs.book.Book.line_cost.Goals as goal

pub cost-requires-clause-line : goal.cost-requires-clause-line
cost-requires-clause-line c = (c.self.inside.days, (search rules))
