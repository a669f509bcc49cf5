use Rattle.std.proofs.Common.{◌≡◌, ◌<◌, get_or, length, rules}
use Rattle.rate_table.proofs.IndexFacts.{apart-before}
use Rattle.rate_table.proofs.index.RateIndex.make.Goals as goal

pub add-requires-clause-apart : goal.add-requires-clause-apart
add-requires-clause-apart c =
    let short : c.loop-range.range-index < length c.args.file.now.ranges = search rules in
    let is : c.range-item.result ≡ get_or c.args.file.now.ranges c.loop-range.range-index c.range-item.result = search rules in
    rw c.loop-range.invariant (apart-before c.args.file.now.ranges c.range-item.result c.loop-range.range-index c.requires.apart short is)
