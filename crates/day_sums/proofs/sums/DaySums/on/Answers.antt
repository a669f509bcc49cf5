use Rattle.std.proofs.Common.{◌≡◌, ◌∙◌, ap, arith, length, ◌<◌, ◌≤◌, get_or}
use Rattle.day_sums.specs.Summed.{cents_on}
use Rattle.day_sums.specs.Table.{SpanSums}
use Rattle.day_sums.proofs.TableFacts.{sum-at, sum-past}
use Rattle.day_sums.proofs.sums.DaySums.on.Goals as goal

pub returns-in-Some : goal.returns-in-Some
returns-in-Some c =
    let sums = ap (λ (s : SpanSums). cents_on c.args.day s.sums) c.self.view_is in
    let within : c.place_of.result < length c.deref.result.now = grind (arith, c.in-Some.ensures.lookup.0) in
    let is : c.in-Some.cents.now ≡ get_or c.deref.result.now c.place_of.result c.in-Some.cents.now = c.in-Some.ensures.lookup.1 in
    is ∙ (sum-at c.self.inside.from c.args.day c.deref.result.now c.place_of.result c.in-Some.cents.now c.place_of.ensures within
    ∙ rw c.deref.ensures.value sums)

pub returns-in-None : goal.returns-in-None
returns-in-None c =
    let sums = ap (λ (s : SpanSums). cents_on c.args.day s.sums) c.self.view_is in
    let past : length c.deref.result.now ≤ c.place_of.result = grind (arith, c.in-None.ensures.lookup.0) in
    sum-past c.self.inside.from c.args.day c.deref.result.now c.place_of.result c.place_of.ensures past ∙ rw c.deref.ensures.value sums
