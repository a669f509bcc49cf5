use Rattle.std.proofs.Common.{ap, sym}
use Rattle.case_file.specs.Case.{case_view}
use Rattle.certificate_answers.proofs.JudgedFacts.{given}
use Rattle.certificate_answers.proofs.judging.judged_by.Goals as goal

pub returns-in_ok-at_cap-in-AtCap-clause-case : goal.returns-in_ok-at_cap-in-AtCap-clause-case
returns-in_ok-at_cap-in-AtCap-clause-case c =
    let case = case_view c.args.case in
    let at = case_view c.in_ok-at_cap-in-AtCap.field-0 in
    rw c.in-AtCap.is (ap given (sym ((c.cap_laws.ensures.one c.in-AtCap.cap case at).0 c.in_ok-at_cap-in-AtCap.ensures.at)))
