use Rattle.case_maker.proofs.RowFacts.{push_two}
use Rattle.case_maker.proofs.rows.push_two_digits.Goals as goal

pub returns : goal.returns
returns c = push_two c.args.n _ _ _ c.requires c.in_ok-push.ensures.items c.in_ok-push-2.ensures.items
