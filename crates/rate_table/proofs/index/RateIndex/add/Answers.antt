use Rattle.std.proofs.Common.{◌≡◌, false, rules}
use Rattle.std.specs.Prelude.{Some}
use Rattle.std.specs.BTreeMap.{Updates}
use Rattle.std.specs.List.{list_any}
use Rattle.std.specs.Ordering.{int_cmp}
use Rattle.rate_table.specs.Table.{overlap}
use Rattle.rate_table.proofs.IndexFacts.{index-push, index-unchanged}
use Rattle.rate_table.proofs.index.RateIndex.add.Goals as goal

pub invariant_of-self-in_err-insert : goal.invariant_of-self-in_err-insert
invariant_of-self-in_err-insert c =
    rw c.reserve.ensures.items (index-unchanged c.self.inside.ranges.items c.self.inside.by_first c.insert.new.self c.self.invariant c.in_err-insert.ensures.err)

pub invariant_of-self-2 : goal.invariant_of-self-2
invariant_of-self-2 c =
    let apart : list_any (overlap c.args.range.now) c.self.inside.ranges.items ≡ false = rw c.self.view_is c.requires.apart in
    let updates : Updates int_cmp c.self.inside.by_first c.insert.new.self c.args.range.now.from (Some c.args.range.now) = search rules in
    rw (c.in_ok-push.ensures.items, c.reserve.ensures.items)
    (index-push c.self.inside.ranges.items c.self.inside.by_first c.insert.new.self c.args.range.now c.self.invariant c.requires.range apart updates)
