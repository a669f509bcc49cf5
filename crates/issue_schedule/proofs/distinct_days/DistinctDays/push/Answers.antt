use Rattle.std.proofs.Common.{true, rules}
use Rattle.std.specs.BTreeSet.{Updates}
use Rattle.std.specs.Ordering.{int_cmp}
use Rattle.issue_schedule.proofs.DayFacts.{set-push, set-unchanged}
use Rattle.issue_schedule.proofs.distinct_days.DistinctDays.push.Goals as goal

pub invariant_of-self-in_err-insert : goal.invariant_of-self-in_err-insert
invariant_of-self-in_err-insert c =
    rw c.reserve.ensures.items (set-unchanged c.self.inside.days.items c.self.inside.numbers c.insert.new.self c.self.invariant c.in_err-insert.ensures.err)

pub invariant_of-self-2 : goal.invariant_of-self-2
invariant_of-self-2 c =
    let updates : Updates int_cmp c.self.inside.numbers c.insert.new.self c.args.day true = search rules in
    rw (c.in_ok-push.ensures.items, c.reserve.ensures.items)
    (set-push c.self.inside.days.items c.self.inside.numbers c.insert.new.self c.args.day c.self.invariant updates)
