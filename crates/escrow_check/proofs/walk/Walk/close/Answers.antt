use Rattle.std.proofs.Common.{◌∙◌, ◌++◌, true, Option, ap, sym, subst, arith}
use Rattle.std.specs.Prelude.{option_to_list, IsTrue}
use Rattle.node_ranges.specs.Ranges.{AreTight, RangesContents, is_proper, root_of}
use Rattle.escrow_check.specs.declared.walk.OpenSplit.{OpenSplit}
use Rattle.escrow_check.specs.Walk.{to_come}
use Rattle.escrow_check.proofs.WalkFacts.{dropped, one-fewer, pushed, turned, waiting-going}
use Rattle.escrow_check.proofs.walk.Walk.close.Goals as goal

pub restore-requires-clause-part : goal.restore-requires-clause-part
restore-requires-clause-part c =
    (one-fewer c.args.book.now c.loop-split.self.ranges c.loop-split.self.splits.items c.in-Some.split c.pop.new.self.items c.loop-split.invariant.within
    (c.pop.ensures.items ∙ ap (λ (o : Option OpenSplit). c.pop.new.self.items ++ option_to_list o) c.in-Some.is)).there

pub restore-requires-clause-ordered : goal.restore-requires-clause-ordered
restore-requires-clause-ordered c =
    (one-fewer c.args.book.now c.loop-split.self.ranges c.loop-split.self.splits.items c.in-Some.split c.pop.new.self.items c.loop-split.invariant.within
    (c.pop.ensures.items ∙ ap (λ (o : Option OpenSplit). c.pop.new.self.items ++ option_to_list o) c.in-Some.is)).ordered

pub narrow-requires-clause-tight : goal.narrow-requires-clause-tight
narrow-requires-clause-tight c =
    let fewer = one-fewer c.args.book.now c.loop-split.self.ranges c.loop-split.self.splits.items c.in-Some.split c.pop.new.self.items c.loop-split.invariant.within
    (c.pop.ensures.items ∙ ap (λ (o : Option OpenSplit). c.pop.new.self.items ++ option_to_list o) c.in-Some.is) in
    subst (AreTight c.args.book.now) (sym c.restore.ensures) fewer.split.tight

pub narrow-requires-clause-proper : goal.narrow-requires-clause-proper
narrow-requires-clause-proper c =
    let fewer = one-fewer c.args.book.now c.loop-split.self.ranges c.loop-split.self.splits.items c.in-Some.split c.pop.new.self.items c.loop-split.invariant.within
    (c.pop.ensures.items ∙ ap (λ (o : Option OpenSplit). c.pop.new.self.items ++ option_to_list o) c.in-Some.is) in
    let P : RangesContents → Type 0 = λ r. IsTrue (is_proper r c.in-Some.split.part c.in-Some.split.at) in
    subst P (sym c.restore.ensures) fewer.split.proper

pub returns-then-not-split-clause-walk : goal.returns-then-not-split-clause-walk
returns-then-not-split-clause-walk c =
    let next = turned c.args.book.now c.loop-split.self.ranges c.loop-split.self.splits.items c.in-Some.split c.pop.new.self.items c.restore.new.self c.narrow.new.self c.push.new.self.items
    c.loop-split.invariant.within (c.pop.ensures.items ∙ ap (λ (o : Option OpenSplit). c.pop.new.self.items ++ option_to_list o) c.in-Some.is) c.restore.ensures
    (grind (arith, c.if-not-split.true)) c.narrow.ensures.value
    (pushed c.push.result c.pop.new.self.items c.push.new.self.items (record c.in-Some.split { right = true })
    (c.push.ensures.succeeds (omega (arith, c.in-Some.ensures.capacity, c.in-Some.ensures.len, c.loop-split.self.splits.ok))) c.push.ensures.items) in
    record { at = next.0.at; split = next.0.split }

pub returns-then-not-split-clause-waiting : goal.returns-then-not-split-clause-waiting
returns-then-not-split-clause-waiting c =
    let next = turned c.args.book.now c.loop-split.self.ranges c.loop-split.self.splits.items c.in-Some.split c.pop.new.self.items c.restore.new.self c.narrow.new.self c.push.new.self.items
    c.loop-split.invariant.within (c.pop.ensures.items ∙ ap (λ (o : Option OpenSplit). c.pop.new.self.items ++ option_to_list o) c.in-Some.is) c.restore.ensures
    (grind (arith, c.if-not-split.true)) c.narrow.ensures.value
    (pushed c.push.result c.pop.new.self.items c.push.new.self.items (record c.in-Some.split { right = true })
    (c.push.ensures.succeeds (omega (arith, c.in-Some.ensures.capacity, c.in-Some.ensures.len, c.loop-split.self.splits.ok))) c.push.ensures.items) in
    waiting-going c.loop-split.self.over c.narrow.new.self (to_come c.args.book.now (root_of c.args.book.now) c.push.new.self.items) c.loop-split.invariant.going
    ∙ next.1 ∙ c.loop-split.invariant.come

pub loop-split-preserved : goal.loop-split-preserved
loop-split-preserved c =
    let next = dropped c.args.book.now c.loop-split.self.ranges c.loop-split.self.splits.items c.in-Some.split c.pop.new.self.items c.restore.new.self
    c.loop-split.invariant.within (c.pop.ensures.items ∙ ap (λ (o : Option OpenSplit). c.pop.new.self.items ++ option_to_list o) c.in-Some.is) c.restore.ensures
    (grind (arith, c.if-not-split.false)) in
    record {
      within = next.0;
      come = next.1 ∙ c.loop-split.invariant.come;
      going = c.loop-split.invariant.going;
      depth = omega (arith, c.pop.ensures.len, c.loop-split.invariant.depth);
      room = omega (arith, c.pop.ensures.capacity, c.loop-split.invariant.room);
    }
