use Rattle.bound_certificate.specs.Grammar.{line_said}
use Rattle.bound_certificate.specs.Taken.{IsGiven}
use Rattle.bound_certificate.proofs.MoveFacts.{line-is-said, line-moves, more-vectors}
use Rattle.bound_certificate.proofs.line_step.take_due.Goals as goal

pub after-requires-clause-item : goal.after-requires-clause-item
after-requires-clause-item c =
    let given : IsGiven c.args.dates (line_said c.args.version c.args.dates c.args.vectors.now c.args.due c.args.line.now) c.args.vectors.now c.take_line.new.vectors c.take_line.new.leaf c.in_ok-item.item =
    c.in_ok-item.ensures.ok in
    line-is-said c.args.version c.args.dates c.args.due c.args.vectors.now c.args.line.now given.said c.in_ok-item.item c.requires.stage.vectors_are given.is given.item_is

pub returns-clause-ok : goal.returns-clause-ok
returns-clause-ok c =
    let given : IsGiven c.args.dates (line_said c.args.version c.args.dates c.args.vectors.now c.args.due c.args.line.now) c.args.vectors.now c.take_line.new.vectors c.take_line.new.leaf c.in_ok-item.item =
    c.in_ok-item.ensures.ok in
    line-moves c.args.version c.args.dates c.args.due c.after.result c.args.vectors.now c.take_line.new.vectors c.args.line.now given.said c.in_ok-item.item c.take_line.new.leaf
    c.requires.stage.vectors_are given.is given.item_is given.leaf_is c.after.ensures.value given.vectors_are

pub returns-clause-kept : goal.returns-clause-kept
returns-clause-kept c =
    let given : IsGiven c.args.dates (line_said c.args.version c.args.dates c.args.vectors.now c.args.due c.args.line.now) c.args.vectors.now c.take_line.new.vectors c.take_line.new.leaf c.in_ok-item.item =
    c.in_ok-item.ensures.ok in
    record {
      due_is = c.after.ensures.kept;
      vectors_are = more-vectors c.args.version c.args.dates c.args.due c.after.result c.args.vectors.now c.take_line.new.vectors c.args.line.now given.said c.in_ok-item.item
          c.requires.stage.due_is c.requires.stage.vectors_are given.is given.item_is c.after.ensures.value given.vectors_are;
    }
