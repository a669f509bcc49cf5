use Rattle.std.proofs.Common.{subst}
use Rattle.offer_book.proofs.SumFacts.{MaturesBy2190, line-by}
use Rattle.backward_build.proofs.offers.ends_on.Goals as goal

pub open_day-requires : goal.open_day-requires
open_day-requires c = subst MaturesBy2190 c.in-Security.is (line-by c.args.days.now c.args.line.now c.requires.settlement c.requires.line)

pub open_day-requires-in-Market : goal.open_day-requires-in-Market
open_day-requires-in-Market c = subst MaturesBy2190 c.in-Market.is (line-by c.args.days.now c.args.line.now c.requires.settlement c.requires.line)
