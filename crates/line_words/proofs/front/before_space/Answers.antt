use Rattle.line_words.proofs.FrontFacts.{front-space}
use Rattle.line_words.proofs.front.before_space.Goals as goal

pub returns : goal.returns
returns c =
    let both = front-space c.args.bytes.now c.args.digits c.requires.number c.requires.more c.if-bytes-digits-ne32.false in record { words = both.0; number = both.1 }
