use Rattle.std.proofs.Common.{◌∙◌, ◌∷◌, true, false, List, ap}
use Rattle.node_ranges.specs.Ranges.{RangesContents, narrowed, root_of}
use Rattle.escrow_check.specs.declared.walk.OpenSplit.{OpenSplit}
use Rattle.escrow_check.specs.Walk.{to_come}
use Rattle.escrow_check.proofs.WalkFacts.{one-more, own-interval, part-there, pushed, waiting-going, within-tight}
use Rattle.escrow_check.proofs.walk.Walk.split.Goals as goal

pub interval-before-requires : goal.interval-before-requires
interval-before-requires c = part-there c.args.self.now.ranges c.args.part c.args.at c.requires.proper

pub narrow-requires-clause-tight : goal.narrow-requires-clause-tight
narrow-requires-clause-tight c =
    within-tight c.args.book.now c.args.self.now.ranges c.args.self.now.splits.items (record { at = c.requires.walk.at; split = c.requires.walk.split })

pub returns-clause-walk : goal.returns-clause-walk
returns-clause-walk c =
    let split : OpenSplit = record { part = c.args.part; at = c.args.at; before = c.interval-before.result; right = false } in
    let next = one-more c.args.book.now c.args.self.now.ranges c.args.self.now.splits.items split c.narrow.new.self c.push.new.self.items
    (record { at = c.requires.walk.at; split = c.requires.walk.split }) c.requires.proper
    (own-interval c.args.self.now.ranges c.args.part c.args.at c.interval-before.result c.requires.proper c.interval-before.ensures.value) c.narrow.ensures.value
    (pushed c.push.result c.args.self.now.splits.items c.push.new.self.items split (c.push.ensures.succeeds c.requires.room) c.push.ensures.items) in
    record { at = next.within.at; split = next.within.split }

pub returns-clause-waiting : goal.returns-clause-waiting
returns-clause-waiting c =
    let split : OpenSplit = record { part = c.args.part; at = c.args.at; before = c.interval-before.result; right = false } in
    let next = one-more c.args.book.now c.args.self.now.ranges c.args.self.now.splits.items split c.narrow.new.self c.push.new.self.items
    (record { at = c.requires.walk.at; split = c.requires.walk.split }) c.requires.proper
    (own-interval c.args.self.now.ranges c.args.part c.args.at c.interval-before.result c.requires.proper c.interval-before.ensures.value) c.narrow.ensures.value
    (pushed c.push.result c.args.self.now.splits.items c.push.new.self.items split (c.push.ensures.succeeds c.requires.room) c.push.ensures.items) in
    let rest : List RangesContents = to_come c.args.book.now (root_of c.args.book.now) c.args.self.now.splits.items in
    waiting-going c.args.self.now.over c.narrow.new.self (to_come c.args.book.now (root_of c.args.book.now) c.push.new.self.items) c.requires.going
    ∙ ap (λ (ws : List RangesContents). c.narrow.new.self ∷ ws) next.come
    ∙ ap (λ (r : RangesContents). r ∷ narrowed c.args.book.now c.args.self.now.ranges c.args.part c.args.at true ∷ rest) c.narrow.ensures.value
