use Rattle.std.proofs.Common.{◌≡◌, ◌∙◌, sym, subst, ap}
use Rattle.offer_book.specs.Book.{BookContents}
use Rattle.dual_bound.specs.Columns.{ColumnsContents}
use Rattle.node_ranges.specs.Ranges.{AreOf, AreTight, RangesContents}
use Rattle.node_ranges.proofs.RangeFacts.{tight-of}
use Rattle.worked_bounds.proofs.bounds.bound_anew.Goals as goal

pub bound-anew-requires-clause-ranges : goal.bound-anew-requires-clause-ranges
bound-anew-requires-clause-ranges c = tight-of c.args.book.now c.args.ranges.now c.requires.tight

-- the ranges have room for the lines of columns of the same book
room-again : (book own : BookContents) (ranges : RangesContents) → own ≡ book → AreTight book ranges → AreOf own ranges
room-again book own ranges same tight = subst (λ (b : BookContents). AreOf b ranges) (sym same) (tight-of book ranges tight)

pub bound_near-first-requires-clause-ranges : goal.bound_near-first-requires-clause-ranges
bound_near-first-requires-clause-ranges c = room-again c.args.book.now _ c.args.ranges.now c.requires.own c.requires.tight

pub bound_near-second-requires-clause-ranges : goal.bound_near-second-requires-clause-ranges
bound_near-second-requires-clause-ranges c =
    room-again c.args.book.now _ c.args.ranges.now (ap (λ (v : ColumnsContents). v.book) c.bound_near-first.ensures.columns ∙ c.requires.own) c.requires.tight

pub bound_near-third-requires-clause-ranges : goal.bound_near-third-requires-clause-ranges
bound_near-third-requires-clause-ranges c =
    room-again c.args.book.now _ c.args.ranges.now
    (ap (λ (v : ColumnsContents). v.book) c.bound_near-second.ensures.columns ∙ (ap (λ (v : ColumnsContents). v.book) c.bound_near-first.ensures.columns ∙ c.requires.own)) c.requires.tight

pub bound-last-requires-clause-ranges : goal.bound-last-requires-clause-ranges
bound-last-requires-clause-ranges c =
    room-again c.args.book.now _ c.args.ranges.now
    (ap (λ (v : ColumnsContents). v.book) c.bound_near-third.ensures.columns
    ∙ (ap (λ (v : ColumnsContents). v.book) c.bound_near-second.ensures.columns ∙ (ap (λ (v : ColumnsContents). v.book) c.bound_near-first.ensures.columns ∙ c.requires.own))) c.requires.tight
