use Rattle.std.proofs.Common.{arith, length, sym}
use Rattle.std.proofs.lemmas.List.{get_or_default}
use Rattle.csv.proofs.RecordFacts.{field-bounds}
use Rattle.escrow_desk.proofs.PartFacts.{get_or-parts}
use Rattle.escrow_desk.proofs.buffer.part_of.Goals as goal

pub slice_bounds-result-count : goal.slice_bounds-result-count
slice_bounds-result-count c =
    let bounds = field-bounds 0 c.args.ends.now (length c.args.bytes.now) c.args.part c.requires.kept.rising c.requires.part in
    rw (c.start_of-start.ensures, get_or_default c.args.ends.now c.args.part _ 0 c.requires.part) bounds.0

pub slice_bounds-result-start : goal.slice_bounds-result-start
slice_bounds-result-start c =
    let bounds = field-bounds 0 c.args.ends.now (length c.args.bytes.now) c.args.part c.requires.kept.rising c.requires.part in
    omega (arith, c.start_of-start.ensures, bounds.0, bounds.1)

pub slice_bounds-result-end : goal.slice_bounds-result-end
slice_bounds-result-end c =
    let bounds = field-bounds 0 c.args.ends.now (length c.args.bytes.now) c.args.part c.requires.kept.rising c.requires.part in
    omega (arith, c.start_of-start.ensures, bounds.0, bounds.1)

pub returns : goal.returns
returns c = rw (c.start_of-start.ensures) (sym (get_or-parts 0 c.args.ends.now c.args.bytes.now c.args.part c.requires.part))
