use Rattle.std.proofs.Common.{◌≡◌, ◌∙◌, ◌+◌, ◌<◌, length, map, take, get_or, sym, ap, subst, arith}
use Rattle.std.proofs.Math.ListN.{length-set}
use Rattle.std.proofs.lemmas.List.{get_or_default}
use Rattle.node_ranges.proofs.RangeFacts.{tight-length}
use Rattle.proof_tree.specs.declared.interval.Interval.{Interval}
use Rattle.halving_tree.proofs.Filled.{filled-all, filled-more}
use Rattle.offer_book.specs.Portfolio.{IsPermitted}
use Rattle.branch_search.proofs.EndPlans.{low_of, lows-permitted}
use Rattle.branch_search.proofs.parts.put_low_ends.Goals as goal

pub low-requires : goal.low-requires
low-requires c = omega (arith, c.loop-line-test.true, c.line_count-line-end.ensures.value, tight-length c.args.book.now.lines c.args.ranges.now.lines c.requires.tight.lines)

pub loop-line-preserved : goal.loop-line-preserved
loop-line-preserved c =
    let none : Interval = record { low = 0; high = 0 } in
    let plan = c.loop-line.plan in
    let line = c.loop-line.line in
    let ranges = c.args.ranges.now.lines in
    let same = tight-length c.args.book.now.lines ranges c.requires.tight.lines in
    let within : line < length ranges = omega (arith, c.loop-line-test.true, c.line_count-line-end.ensures.value, same) in
    let own : Interval = get_or ranges line none in (
      ap length c.put.ensures ∙ length-set plan line c.low.result ∙ c.loop-line.invariant.0,
      ap (take (line + 1)) c.put.ensures
          ∙ filled-more low_of plan ranges line c.low.result own within (omega (arith, c.loop-line.invariant.0, same)) (get_or_default ranges line none own within) (c.low.ensures none) c.loop-line.invariant.1,
    )

pub returns : goal.returns
returns c =
    let ranges = c.args.ranges.now.lines in
    let same = tight-length c.args.book.now.lines ranges c.requires.tight.lines in
    let «end» : length ranges ≡ c.loop-line.line = omega (arith, c.loop-line-test.false, c.loop-line.auto.line-end, c.line_count-line-end.ensures.value, same) in
    let value : c.loop-line.plan ≡ map low_of ranges = filled-all low_of c.loop-line.plan ranges c.loop-line.line (omega (arith, c.loop-line.invariant.0, same, «end»)) «end» c.loop-line.invariant.1 in
    record { value = value; permitted = subst (IsPermitted c.args.book.now) (sym value) (lows-permitted c.args.book.now ranges c.requires.tight.lines) }
