use Rattle.std.proofs.Common.{◌∙◌, ap, sym, subst}
use Rattle.escrow_units.specs.Flows.{ComeInOrder, EndsOn, FallOnOpenDays}
use Rattle.escrow_units.specs.OpenDays.{open_day}
use Rattle.slgs_interest.specs.PaymentLaws.{AreSmall, AreWithinTerm, EarnLittle, KeepAmounts, PayEqualInterest, PayFaceAlone, PayPrincipalOnce}
use Rattle.slgs_interest.proofs.PaymentFacts.{first-short, payments-order, payments-open, payments-amounts, payments-end, payments-within, payments-interest, payments-small, payments-principal, payments-face, payments-equal}
use Rattle.slgs_interest.proofs.Series.{paid, certificate-first}
use Rattle.payment_schedule.proofs.ScheduleFacts.{flows_by}
use Rattle.slgs_interest.proofs.flows.payments.Goals as goal

pub returns-clause-payments : goal.returns-clause-payments
returns-clause-payments c =
    c.scheduled_flows.ensures ∙ ap (flows_by c.args.slgs.now.rate.0 c.args.face.0) (c.as_slice.ensures.value ∙ c.schedule-schedule.ensures.value)

pub returns-clause-order : goal.returns-clause-order
returns-clause-order c =
    subst ComeInOrder (sym (returns-clause-payments c)) (payments-order c.args.slgs.now c.args.closed.now c.args.face.0 (paid c.args.slgs.now c.requires.settlement c.requires.terms))

pub returns-clause-open_days : goal.returns-clause-open_days
returns-clause-open_days c =
    subst (FallOnOpenDays c.args.closed.now) (sym (returns-clause-payments c)) (payments-open c.args.slgs.now c.args.closed.now c.args.face.0)

pub returns-clause-amounts : goal.returns-clause-amounts
returns-clause-amounts c =
    subst (KeepAmounts c.args.slgs.now c.args.face.0) (sym (returns-clause-payments c)) (payments-amounts c.args.slgs.now c.args.closed.now c.args.face.0)

pub returns-clause-end_at_maturity : goal.returns-clause-end_at_maturity
returns-clause-end_at_maturity c =
    subst (EndsOn (open_day c.args.closed.now c.args.slgs.now.maturity)) (sym (returns-clause-payments c)) (payments-end c.args.slgs.now c.args.closed.now c.args.face.0 (paid c.args.slgs.now c.requires.settlement c.requires.terms))

pub returns-clause-within_term : goal.returns-clause-within_term
returns-clause-within_term c =
    subst (AreWithinTerm c.args.slgs.now c.args.closed.now) (sym (returns-clause-payments c)) (payments-within c.args.slgs.now c.args.closed.now c.args.face.0 (paid c.args.slgs.now c.requires.settlement c.requires.terms))

pub returns-clause-principal_once : goal.returns-clause-principal_once
returns-clause-principal_once c =
    subst (PayPrincipalOnce c.args.slgs.now c.args.closed.now c.args.face.0) (sym (returns-clause-payments c)) (payments-principal c.args.slgs.now c.args.closed.now c.args.face.0 (paid c.args.slgs.now c.requires.settlement c.requires.terms))

pub returns-clause-face_alone : goal.returns-clause-face_alone
returns-clause-face_alone c =
    let p = paid c.args.slgs.now c.requires.settlement c.requires.terms in
    subst (PayFaceAlone c.args.slgs.now c.args.face.0) (sym (returns-clause-payments c))
    (payments-face c.args.slgs.now c.args.closed.now c.args.face.0 p (first-short c.args.slgs.now p (certificate-first c.args.slgs.now c.requires.terms)))

pub returns-clause-equal_interest : goal.returns-clause-equal_interest
returns-clause-equal_interest c =
    subst (PayEqualInterest c.args.slgs.now c.args.closed.now c.args.face.0) (sym (returns-clause-payments c)) (payments-equal c.args.slgs.now c.args.closed.now c.args.face.0 (paid c.args.slgs.now c.requires.settlement c.requires.terms))

pub returns-clause-small : goal.returns-clause-small
returns-clause-small c =
    let p = paid c.args.slgs.now c.requires.settlement c.requires.terms in
    subst AreSmall (sym (returns-clause-payments c))
    (payments-small c.args.slgs.now c.args.closed.now c.args.face.0 (first-short c.args.slgs.now p (certificate-first c.args.slgs.now c.requires.terms)) c.requires.face c.requires.rate)

pub returns-clause-interest_bound : goal.returns-clause-interest_bound
returns-clause-interest_bound c =
    let p = paid c.args.slgs.now c.requires.settlement c.requires.terms in
    subst (EarnLittle c.args.slgs.now c.args.closed.now c.args.face.0) (sym (returns-clause-payments c))
    (payments-interest c.args.slgs.now c.args.closed.now c.args.face.0 (first-short c.args.slgs.now p (certificate-first c.args.slgs.now c.requires.terms)) c.requires.face c.requires.rate)
