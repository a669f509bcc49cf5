use Rattle.std.proofs.Common.{arith}
use Rattle.jiff_core.proofs.SignedLemmas.{signed_arith}
use Rattle.slgs_rules.proofs.RuleFacts.{maturity-base, span}
use Rattle.slgs_rules.proofs.rules.first_interest.Goals as goal

pub earliest_date-requires : goal.earliest_date-requires
earliest_date-requires c = record {
  base = maturity-base c.args.settle c.args.maturity c.requires.settlement c.requires.longer c.requires.most;
  from = (omega (arith, signed_arith, c.interest_start.ensures, c.requires.settlement.0), omega (arith, signed_arith, c.interest_start.ensures, c.requires.settlement.1));
  order = omega (arith, signed_arith, c.interest_start.ensures, (span c.args.settle c.requires.settlement).year_least, c.requires.longer);
  near = omega (arith, signed_arith, c.interest_start.ensures, (span c.args.settle c.requires.settlement).forty_most, c.requires.most);
}

pub returns-in-None-clause-first : goal.returns-in-None-clause-first
returns-in-None-clause-first c = rw (c.in-None.is, ← c.interest_start.ensures) c.earliest_date.ensures
