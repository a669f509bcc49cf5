use Rattle.std.proofs.Common.{Option, subst}
use Rattle.case_file.specs.Case.{case_view}
use Rattle.cap_finder.proofs.ProgressFacts.{greatest-cap, none-found}
use Rattle.cap_finder.specs.Progress.{IsProgress}
use Rattle.cap_finder.specs.declared.ends.CappedEscrow.{CappedEscrow}
use Rattle.cap_finder.proofs.progress.Progress.end.Goals as goal

pub returns-in-Some : goal.returns-in-Some
returns-in-Some c =
    let case = case_view c.args.case.now in
    let own = c.args.self in
    record {
      top = own.search.top;
      is_top = c.requires.top;
      comes_to = greatest-cap c.search_laws.ensures.hundredths case own.search c.in-Some.escrow own.unfound c.requires.search c.requires.settled
          (subst (λ (found : Option CappedEscrow). IsProgress case (record { search = own.search; found = found; unfound = own.unfound })) c.in-Some.is c.requires.progress);
    }

pub at_zero-requires : goal.at_zero-requires
at_zero-requires c =
    let case = case_view c.args.case.now in
    let own = c.args.self in
    (none-found c.search_laws.ensures.zero case own.search own.unfound c.requires.search c.requires.settled
    (subst (λ (found : Option CappedEscrow). IsProgress case (record { search = own.search; found = found; unfound = own.unfound })) c.in-None.is c.requires.progress)).0

pub returns-in_ok-at_zero-in-None : goal.returns-in_ok-at_zero-in-None
returns-in_ok-at_zero-in-None c =
    let case = case_view c.args.case.now in
    let own = c.args.self in
    record {
      top = own.search.top;
      is_top = c.requires.top;
      comes_to = record {
        at = c.in_ok-at_zero-in-None.ensures.at;
        is = c.in_ok-at_zero-in-None.ensures.obstacle;
        top_fails = (none-found c.search_laws.ensures.zero case own.search own.unfound c.requires.search c.requires.settled
            (subst (λ (found : Option CappedEscrow). IsProgress case (record { search = own.search; found = found; unfound = own.unfound })) c.in-None.is c.requires.progress)).1;
      };
    }
