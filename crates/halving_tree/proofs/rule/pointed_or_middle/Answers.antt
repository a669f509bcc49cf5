use Rattle.std.proofs.Common.{◌∙◌, length, sym, arith, inl, inr}
use Rattle.std.proofs.lemmas.Bool.{cases_lt}
use Rattle.node_ranges.proofs.RangeFacts.{proper-past, tight-length}
use Rattle.halving_tree.proofs.rule.pointed_or_middle.Goals as goal

pub returns-in-Some-clause-there : goal.returns-in-Some-clause-there
returns-in-Some-clause-there c =
    elim (cases_lt c.in-Some.split.line (length c.args.ranges.now.lines)) [
      | inl there ↦ omega (arith, there, tight-length c.args.book.now.lines c.args.ranges.now.lines c.requires.tight.lines)
      | inr past ↦ absurd (let clash = sym c.if-proper.true ∙ c.proper.ensures ∙ proper-past c.args.ranges.now.lines c.in-Some.split.line c.in-Some.split.at past in cc)
    ]
