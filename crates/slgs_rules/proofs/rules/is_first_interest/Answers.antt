use Rattle.std.proofs.Common.{arith, ◌∙◌, sym}
use Rattle.jiff_core.proofs.SignedLemmas.{signed_arith}
use Rattle.slgs_rules.proofs.RuleFacts.{maturity-base, interest-date, earliest-self, span}
use Rattle.std.proofs.lemmas.Bool.Decides.{Decides-int_eq}
use Rattle.slgs_rules.proofs.rules.is_first_interest.Goals as goal

pub earliest_date-requires : goal.earliest_date-requires
earliest_date-requires c =
    let within = c.is_in_first_year.ensures.0 c.if-is_in_first_year.true in
    record {
      base = maturity-base c.args.settle c.args.maturity c.requires.settlement c.requires.longer c.requires.most;
      from = (omega (arith, signed_arith, within.0, c.requires.settlement.0), omega (arith, signed_arith, within.1, (span c.args.settle c.requires.settlement).year_most, c.requires.settlement.1));
      order = omega (arith, signed_arith, within.1, c.requires.longer);
      near = omega (arith, signed_arith, within.0, (span c.args.settle c.requires.settlement).forty_most, c.requires.most);
    }

pub returns-then-is_in_first_year : goal.returns-then-is_in_first_year
returns-then-is_in_first_year c =
    let within = c.is_in_first_year.ensures.0 c.if-is_in_first_year.true in (
      λ t. interest-date c.args.settle c.args.maturity c.args.first c.earliest_date.result within.0 within.1 c.earliest_date.ensures
          ((Decides-int_eq c.earliest_date.result c.args.first).0 (sym c.eq.ensures ∙ t)),
      λ p. c.eq.ensures ∙ (Decides-int_eq c.earliest_date.result c.args.first).1
          (earliest-self c.args.maturity c.args.first c.earliest_date.result c.earliest_date.ensures p.series),
    )
