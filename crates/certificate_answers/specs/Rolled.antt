-- What `roll` means by an answer to an accepted certificate.
use Rattle.std.specs.Prelude.{◌≡◌, ◌⊎◌, ℕ, List, Option, length}
use Rattle.bound_certificate.specs.Versions.{IsCertificateText}
use Rattle.bound_certificate.specs.declared.certificate.Certificate.{Certificate}
use Rattle.case_file.specs.Case.{CaseContents}
use Rattle.escrow_units.specs.Flows.{total}
use Rattle.escrow_units.specs.declared.security.Flow.{Flow}
use Rattle.escrow_units.specs.declared.security.Terms.{Terms}
use Rattle.offer_book.specs.Book.{BookContents}
use Rattle.offer_book.specs.Portfolio.{security_cost, security_flows}
use Rattle.roll_plan.specs.RolledFlows.{AreRolledFlows, YieldsNoMore}
use Rattle.roll_plan.specs.Rolls.{AreRollsOf, StillMeet}
use Rattle.roll_plan.specs.declared.planning.Roll.{Roll}
use Rattle.certificate_answers.specs.Accepted.{HasNoRival, HasPortfolio}
use Rattle.certificate_answers.specs.CaseOf.{GiveCase}
use Rattle.certificate_answers.specs.InputFiles.{InputFiles}
use Rattle.certificate_answers.specs.RollsText.{rolls_text, yield_of_flows}

-- rolls of a portfolio, by the denominations that are stated: with them opening cash and receipts are at least the needs on every day;
-- what the securities then pay comes to as much, and for what they cost it yields no more; and this is said
pub record HasRolls (terms : Option Terms) (book : BookContents) (plan text : List ℕ) : Type 0 where
  pub rolls : List Roll
  pub are : AreRollsOf book plan terms rolls
  pub meet : StillMeet book plan rolls
  pub moved : List Flow
  pub flows : AreRolledFlows (security_flows book plan) rolls moved
  pub total : total moved ≡ total (security_flows book plan)
  pub yields : YieldsNoMore book.days.settle (security_cost book plan) (security_flows book plan) moved
  pub said : text ≡ rolls_text rolls (yield_of_flows book plan (security_flows book plan)) (yield_of_flows book plan moved)

-- the certificate has a portfolio of which all holds that `yes` means, and these are its rolls
pub record HasPlan (terms : Option Terms) (case : CaseContents) (certificate : Certificate) (text : List ℕ) : Type 0 where
  pub yes : List ℕ
  pub accepted : HasPortfolio case certificate yes
  pub planned : HasRolls terms case.book accepted.portfolio.plan text

-- the same from the bytes of the four files, by the denominations of their rate file; or there is no rival
pub record Rolled (files : InputFiles) (cert text : List ℕ) : Type 0 where
  pub case : CaseContents
  pub gives : GiveCase files case
  pub certificate : Certificate
  pub is_certificate : IsCertificateText (length case.book.needs) certificate cert
  pub right : HasPlan gives.read.rates.terms case certificate text ⊎ HasNoRival case certificate text
