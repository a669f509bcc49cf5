use Rattle.std.proofs.Common.{sym, subst}
use Rattle.offer_book.specs.Book.{BookContents}
use Rattle.node_ranges.proofs.RangeFacts.{tight-of}
use Rattle.node_ranges.specs.Ranges.{AreOf}
use Rattle.escrow_check.proofs.closing.is_closed_leaf.Goals as goal

pub bound_near-bound-requires-clause-ranges : goal.bound_near-bound-requires-clause-ranges
bound_near-bound-requires-clause-ranges c =
    subst (λ (book : BookContents). AreOf book c.args.ranges.now) (sym c.requires.columns.book) (tight-of c.args.case.now.book c.args.ranges.now c.requires.ranges)
