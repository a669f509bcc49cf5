use Rattle.std.proofs.Common.{◌∙◌, ap, arith, List, ℕ, ◌≤◌, get_or}
use Rattle.std.proofs.lemmas.Int.{ints}
use Rattle.escrow_units.specs.Flows.{total}
use Rattle.day_sums.specs.Table.{sums_of}
use Rattle.day_sums.proofs.TableFacts.{amount-sums, put-sums}
use Rattle.day_sums.proofs.sums.put.Goals as goal

pub reach-requires : goal.reach-requires
reach-requires c = omega (arith, ints, c.requires.place.before, c.place_of-place.ensures)

pub add_at-requires-clause-room : goal.add_at-requires-clause-room
add_at-requires-clause-room c =
    let cents = c.as_mut_slice.result.now in
    let sums = ap (λ (cents : List ℕ). sums_of c.args.first cents) c.as_mut_slice.ensures.value ∙ c.reach.ensures.sums c.args.first in
    let few : get_or cents c.place_of-place.result 0 ≤ total (sums_of c.args.first cents) =
    amount-sums c.args.first cents c.place_of-place.result 0 (omega (arith, c.as_mut_slice.ensures.len, c.reach.ensures.there)) in
    omega (arith, few, ap total sums, c.requires.room)

pub returns-clause-sums : goal.returns-clause-sums
returns-clause-sums c =
    put-sums c.args.first c.reach.new.cents.items c.as_mut_slice.result.now c.add_at.new.cents _ _ c.place_of-place.result c.args.flow.now _
    c.as_mut_slice.ensures.value c.add_at.ensures c.as_mut_slice.ensures.len c.reach.ensures.there c.place_of-place.ensures (c.reach.ensures.sums c.args.first)
