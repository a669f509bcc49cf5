use Rattle.std.proofs.Common.{ℕ, IfSome, MatchOption, subst}
use Rattle.offer_book.specs.Book.{BookContents}
use Rattle.plan_finder.specs.Proposal.{IsProposal}
use Rattle.branch_search.specs.Plans.{HasNone, IsBest}
use Rattle.branch_search.proofs.cheapest.cheapest.Goals as goal

pub returns : goal.returns
returns c =
    let book : BookContents = c.args.book.now in
    let built = subst (λ (n : ℕ). MatchOption c.in_ok-built.built (HasNone n book) (IsBest n book)) c.units.ensures.value c.in_ok-built.ensures in
    let hinted = subst (λ (n : ℕ). IfSome c.in_ok-hinted.hinted (IsProposal n book)) c.units-2.ensures.value c.in_ok-hinted.ensures in
    c.cheaper.ensures c.args.limit.now built hinted
