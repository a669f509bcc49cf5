use Rattle.std.proofs.Common.{sym, subst}
use Rattle.offer_book.specs.Book.{BookContents}
use Rattle.node_ranges.specs.Ranges.{AreOf}
use Rattle.node_ranges.proofs.RangeFacts.{tight-of}
use Rattle.escrow_top_tests.proofs.bound_tests.is_bound.Goals as goal

pub bound-requires-clause-ranges : goal.bound-requires-clause-ranges
bound-requires-clause-ranges g c =
    subst (λ (b : BookContents). AreOf b c.args.ranges.now) (sym c.in_ok-columns.ensures.book) (tight-of c.args.case.now.book c.args.ranges.now c.requires.tight)

pub bound-requires-2-clause-ranges : goal.bound-requires-2-clause-ranges
bound-requires-2-clause-ranges g c = tight-of c.args.case.now.book c.args.ranges.now c.requires.tight
