use Rattle.std.proofs.Common.{◌∙◌, ℕ, ◌<◌, List, get_or, set, sym, subst, arith}
use Rattle.std.proofs.lemmas.List.Elements.{All-same}
use Rattle.std.specs.List.{AllZip}
use Rattle.node_ranges.specs.Ranges.{IsOrdered, IsUpTo, narrowed_sums, side_of}
use Rattle.proof_tree.specs.declared.interval.Interval.{Interval}
use Rattle.node_ranges.proofs.RangeFacts.{narrowed_sums-ordered, narrowed_sums-room, narrowed_sums-set, read-at, splits-at}
use Rattle.node_ranges.proofs.ranges.narrow_sum.Goals as goal

pub slice_copy_out-side_of : goal.slice_copy_out-side_of
slice_copy_out-side_of c =
    let split = splits-at c.args.intervals.now c.args.sum c.args.at c.requires.proper in
    omega (arith, c.from-place.ensures, split.there)

pub side_of-requires : goal.side_of-requires
side_of-requires c =
    let split = splits-at c.args.intervals.now c.args.sum c.args.at c.requires.proper in
    subst (λ (place : ℕ). c.args.at < (get_or c.args.intervals.now place (record { low = 0; high = 0 })).high) (sym c.from-place.ensures) (split.right (record { low = 0; high = 0 }))

pub bounds-intervals-place : goal.bounds-intervals-place
bounds-intervals-place c =
    let split = splits-at c.args.intervals.now c.args.sum c.args.at c.requires.proper in
    omega (arith, c.from-place.ensures, split.there)

pub returns-clause-value : goal.returns-clause-value
returns-clause-value c =
    let split = splits-at c.args.intervals.now c.args.sum c.args.at c.requires.proper in
    let side = c.side_of.ensures ∙ (λ i. side_of (get_or c.args.intervals.now (c.from-place.ensures i) (record { low = 0; high = 0 })) c.args.at c.args.right) in
    (λ i. set c.args.intervals.now (c.from-place.ensures i) (side i))
    ∙ narrowed_sums-set c.args.intervals.now c.args.sum c.args.at c.args.right (get_or c.args.intervals.now c.args.sum (record { low = 0; high = 0 })) split.there
    (read-at c.args.intervals.now c.args.sum split.there)

pub returns-clause-ordered : goal.returns-clause-ordered
returns-clause-ordered c =
    All-same IsOrdered _ (narrowed_sums c.args.intervals.now c.args.sum c.args.at c.args.right) (returns-clause-value c)
    (narrowed_sums-ordered c.args.intervals.now c.args.sum c.args.at c.args.right c.requires.ordered c.requires.proper)

pub returns-clause-room : goal.returns-clause-room
returns-clause-room c = λ most room.
    subst (λ (intervals : List Interval). AllZip IsUpTo most intervals) (sym (returns-clause-value c)) (narrowed_sums-room most c.args.intervals.now c.args.sum c.args.at c.args.right room c.requires.proper)
