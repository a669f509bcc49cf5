use Rattle.std.proofs.Common.{◌≡◌, ◌∙◌, sym, subst, rules}
use Rattle.escrow_units.specs.declared.security.SlgsKind.TheVariants as kind
use Rattle.payment_schedule.specs.Schedule.{IsShort}
use Rattle.slgs_interest.specs.Payments.{first_accrual_of}
use Rattle.slgs_interest.proofs.PaymentFacts.{first-of_certificate, first-of_period, first-short}
use Rattle.slgs_interest.proofs.Series.{paid, certificate-first}
use Rattle.slgs_interest.proofs.interest.accrual_by.Goals as goal

pub returns-in-Certificate : goal.returns-in-Certificate
returns-in-Certificate c =
    let is_kind : c.args.slgs.now.kind ≡ kind.Certificate = search rules in
    let value : c.of_certificate.result ≡ first_accrual_of c.args.slgs.now = c.of_certificate.ensures ∙ first-of_certificate c.args.slgs.now is_kind in
    let short = first-short c.args.slgs.now (paid c.args.slgs.now c.requires.settlement c.requires.terms) (certificate-first c.args.slgs.now c.requires.terms) in
    record { value = value; short = subst IsShort (sym value) short }

pub returns-in-Note : goal.returns-in-Note
returns-in-Note c =
    let other : ¬ (c.args.slgs.now.kind ≡ kind.Certificate) = search rules in
    let value : c.of_first_period.result ≡ first_accrual_of c.args.slgs.now = c.of_first_period.ensures ∙ first-of_period c.args.slgs.now other in
    let short = first-short c.args.slgs.now (paid c.args.slgs.now c.requires.settlement c.requires.terms) (certificate-first c.args.slgs.now c.requires.terms) in
    record { value = value; short = subst IsShort (sym value) short }
