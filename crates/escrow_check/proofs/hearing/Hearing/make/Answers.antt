use Rattle.std.proofs.Common.{ℕ, [], subst}
use Rattle.bound_certificate.specs.TextReading.{HasRead}
use Rattle.case_file.specs.Case.{case_view}
use Rattle.escrow_check.proofs.HearFacts.{heard-nothing}
use Rattle.escrow_check.proofs.hearing.Hearing.make.Goals as goal

pub returns-clause-heard : goal.returns-clause-heard
returns-clause-heard c =
    let P : ℕ → Type 0 = λ dates. HasRead dates [] c.in_ok-make.field-0 in
    heard-nothing (case_view c.args.case.now) (record { reader = c.in_ok-make.field-0; trial = c.in_ok-make-2.field-0 })
    (subst P c.need_count-dates.ensures.value c.in_ok-make.ensures.read) c.in_ok-make.ensures.first c.in_ok-make-2.ensures
