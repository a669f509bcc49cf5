-- What is found is accepted.
use Rattle.std.proofs.Common.{◌≡◌, ◌∙◌, ℕ, List, ap, Option, None}
use Rattle.bound_certificate.specs.declared.certificate.Certificate.{Certificate}
use Rattle.escrow_check.proofs.ReasonFacts.{yes_where_unopposed}
use Rattle.escrow_check.specs.Acceptance.{judged, reason_of, verdict_by}
use Rattle.escrow_check.specs.declared.verdict.Reason.{Reason}
use Rattle.escrow_check.specs.declared.verdict.Verdict.TheVariants as verdict
use Rattle.branch_search.proofs.PlanBuys.{plan-again}
use Rattle.branch_search.specs.Accepted.{FoundAreAccepted, NoneFoundAreAccepted, portfolio_with}
use Rattle.branch_search.specs.Purchases.{certificate_of, certificate_of_none}

pub found_are_accepted : FoundAreAccepted
unfolding judged
found_are_accepted case plan nodes gap limits terms found =
    let cert : Certificate = certificate_of plan nodes gap in
    let none : reason_of case cert ≡ None = (yes_where_unopposed case cert (record { book = limits; terms = terms; written = found.packable })).1 found.unopposed in
    ap (λ (o : Option Reason). verdict_by case cert o) none
    ∙ ap (λ (p : List ℕ). verdict.Yes (portfolio_with case p gap)) (plan-again case.book plan found.permitted)

pub none_found_are_accepted : NoneFoundAreAccepted
unfolding judged
none_found_are_accepted case nodes limits terms found =
    let cert : Certificate = certificate_of_none nodes in
    let none : reason_of case cert ≡ None = (yes_where_unopposed case cert (record { book = limits; terms = terms; written = found.packable })).1 found.unopposed in
    ap (λ (o : Option Reason). verdict_by case cert o) none
