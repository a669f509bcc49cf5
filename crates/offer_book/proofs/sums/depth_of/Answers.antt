use Rattle.std.proofs.Common.{subst}
use Rattle.offer_book.proofs.SumFacts.{MaturesBy2190, line-by}
use Rattle.offer_book.proofs.sums.depth_of.Goals as goal

pub open_day-requires : goal.open_day-requires
open_day-requires c = subst MaturesBy2190 c.in-Security.is (line-by c.args.book.now.days c.args.line.now c.requires.limits.settlement c.requires.line)

pub open_day-requires-in-Market : goal.open_day-requires-in-Market
open_day-requires-in-Market c = subst MaturesBy2190 c.in-Market.is (line-by c.args.book.now.days c.args.line.now c.requires.limits.settlement c.requires.line)
