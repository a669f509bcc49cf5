use Rattle.line_words.specs.Words.{is_feed}
use Rattle.line_words.proofs.CutFacts.{place-found}
use Rattle.line_words.proofs.cut.feed_place.Goals as goal

pub returns-clause-place : goal.returns-clause-place
returns-clause-place c = place-found is_feed c.args.bytes.now c.memchr.result c.memchr.ensures
