use Rattle.line_words.proofs.FrontFacts.{front-all}
use Rattle.line_words.proofs.front.fast_front_number.Goals as goal

pub returns-then-digits-bytes : goal.returns-then-digits-bytes
returns-then-digits-bytes c = front-all c.args.bytes.now c.in_ok-digits.digits c.in_ok-digits.ensures c.if-digits-bytes.true
