use Rattle.std.proofs.Common.{◌∙◌, ℕ, ◌<◌, List, get_or, set, sym, subst, arith}
use Rattle.std.proofs.lemmas.List.Elements.{All-same}
use Rattle.std.specs.List.{AllZip}
use Rattle.node_ranges.specs.Ranges.{IsOrdered, IsTight, narrowed_lines, side_of, tightened}
use Rattle.proof_tree.specs.declared.interval.Interval.{Interval}
use Rattle.node_ranges.proofs.RangeFacts.{narrowed-set, read-at, sides-tight, splits-at, tight-length, tight-ordered}
use Rattle.node_ranges.proofs.ranges.narrow_line.Goals as goal

pub line-requires : goal.line-requires
line-requires c =
    let split = splits-at c.args.intervals.now c.args.line c.args.at c.requires.proper in
    omega (arith, tight-length c.args.book.now.lines c.args.intervals.now c.requires.tight, split.there)

pub slice_copy_out-side_of : goal.slice_copy_out-side_of
slice_copy_out-side_of c =
    let split = splits-at c.args.intervals.now c.args.line c.args.at c.requires.proper in
    omega (arith, c.from-place.ensures, split.there)

pub side_of-requires : goal.side_of-requires
side_of-requires c =
    let split = splits-at c.args.intervals.now c.args.line c.args.at c.requires.proper in
    subst (λ (place : ℕ). c.args.at < (get_or c.args.intervals.now place (record { low = 0; high = 0 })).high) (sym c.from-place.ensures) (split.right (record { low = 0; high = 0 }))

pub bounds-intervals-place : goal.bounds-intervals-place
bounds-intervals-place c =
    let split = splits-at c.args.intervals.now c.args.line c.args.at c.requires.proper in
    omega (arith, c.from-place.ensures, split.there)

pub returns-clause-value : goal.returns-clause-value
returns-clause-value c =
    let split = splits-at c.args.intervals.now c.args.line c.args.at c.requires.proper in
    let side = c.tighten.ensures ∙ (λ i. tightened c.line.result.now (c.side_of.ensures i))
    ∙ (λ i. tightened c.line.result.now (side_of (get_or c.args.intervals.now (c.from-place.ensures i) (record { low = 0; high = 0 })) c.args.at c.args.right)) in
    (λ i. set c.args.intervals.now (c.from-place.ensures i) (side i))
    ∙ narrowed-set c.args.book.now.lines c.args.intervals.now c.args.line c.args.at c.args.right c.line.result.now (get_or c.args.intervals.now c.args.line (record { low = 0; high = 0 }))
    split.there (tight-length c.args.book.now.lines c.args.intervals.now c.requires.tight) c.line.ensures (read-at c.args.intervals.now c.args.line split.there)

pub returns-clause-tight : goal.returns-clause-tight
returns-clause-tight c =
    subst (λ (intervals : List Interval). AllZip IsTight c.args.book.now.lines intervals) (sym (returns-clause-value c))
    (sides-tight c.args.book.now.lines c.args.intervals.now c.args.line c.args.at c.args.right c.requires.tight c.requires.proper)

pub returns-clause-ordered : goal.returns-clause-ordered
returns-clause-ordered c =
    All-same IsOrdered _ (narrowed_lines c.args.book.now.lines c.args.intervals.now c.args.line c.args.at c.args.right) (returns-clause-value c)
    (tight-ordered c.args.book.now.lines (narrowed_lines c.args.book.now.lines c.args.intervals.now c.args.line c.args.at c.args.right)
    (sides-tight c.args.book.now.lines c.args.intervals.now c.args.line c.args.at c.args.right c.requires.tight c.requires.proper))
