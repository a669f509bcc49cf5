use Rattle.std.proofs.Common.{arith, refl}
use Rattle.jiff_core.proofs.SignedLemmas.{signed_arith}
use Rattle.slgs_rules.proofs.RuleFacts.{longer-than-year}
use Rattle.slgs_rules.proofs.rules.first_payment.Goals as goal

pub first_interest-requires : goal.first_interest-requires
first_interest-requires c = record {
  settlement = c.requires.settlement;
  longer = longer-than-year c.args.kind c.args.settle c.args.maturity c.requires.settlement c.in-Note.is c.requires.kind;
  most = c.requires.most;
}

pub returns-in-Some-clause-fault : goal.returns-in-Some-clause-fault
returns-in-Some-clause-fault c =
    (refl, λ kept. omega (arith, signed_arith, (rw c.in-Some.is at kept).longer, rw c.in-Certificate.is at c.requires.kind))
