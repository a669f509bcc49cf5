use Rattle.std.proofs.Common.{◌∙◌, sym}
use Rattle.line_words.specs.Words.{words_of}
use Rattle.bound_certificate.proofs.SeenFacts.{all-words, leaf-row-fits, no-leaf-fits, sum-few, sum-many}
use Rattle.bound_certificate.proofs.seen.Seen.fits.Goals as goal

pub returns-then-may_have_tail : goal.returns-then-may_have_tail
returns-then-may_have_tail c line same =
    c.fits_leaf.ensures line same ∙ leaf-row-fits c.args.dates c.args.row (words_of line) (c.may_have_tail.ensures.yes c.if-may_have_tail.true)

pub returns : goal.returns
returns c line same =
    c.fits.ensures
    ∙ all-words c.args.dates c.args.row c.args.self line c.saturating_add.result same c.requires
    (sum-few c.saturating_add.result c.args.self.front c.args.self.tail c.saturating_add.ensures) (sum-many c.saturating_add.result c.args.self.front c.args.self.tail c.saturating_add.ensures)
    ∙ sym (no-leaf-fits c.args.dates c.args.row (words_of line) (c.may_have_tail.ensures.no c.if-may_have_tail.false))
