use Rattle.line_words.proofs.EightFacts.{by_pairs}
use Rattle.line_words.proofs.digits.eight_together.Goals as goal

pub returns : goal.returns
returns c = λ digits holds. by_pairs digits c.args.word holds
