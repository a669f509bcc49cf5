use Rattle.std.proofs.Common.{◌∙◌, refl, sym}
use Rattle.roll_plan.proofs.TermFacts.{none_where, rolled_where}
use Rattle.roll_plan.proofs.planning.most_rolled.Goals as goal

pub returns-then-not-is_roll_term : goal.returns-then-not-is_roll_term
returns-then-not-is_roll_term c = sym (none_where c.args.closed.now c.args.terms c.args.from c.args.to c.args.free (c.if-not-is_roll_term.ensures.no refl))

pub returns : goal.returns
returns c = c.most_subscribed.ensures ∙ sym (rolled_where c.args.closed.now c.args.terms c.args.from c.args.to c.args.free (c.if-not-is_roll_term.ensures.yes refl))
