use Rattle.std.proofs.Common.{◌≡◌, ◌<◌, ◌≤◌, arith, rules, sym, subst, get_or, length}
use Rattle.held_escrow.specs.HeldCase.{with_needs}
use Rattle.held_escrow.specs.Residual.{IsResidual, shortfall}
use Rattle.held_escrow.proofs.CaseFacts.{meet-alike, short-alike}
use Rattle.held_escrow.proofs.PassedFacts.{all-grown, grows, need-last, needs-before, stays}
use Rattle.held_escrow.proofs.ResidualLaws.{residual-is, stands}
use Rattle.held_escrow.proofs.shortfall.residual.Goals as goal
use Rattle.held_escrow.proofs.shortfall.residual.Goals.{then-short-greatest+in_ok-push, else-short-greatest}

pub passed_by-wanted-requires-clause-counts : goal.passed_by-wanted-requires-clause-counts
passed_by-wanted-requires-clause-counts c =
    let short : c.loop-need.need-index < length c.args.needs.now = search rules in
    let is : c.need-item.result ≡ get_or c.args.needs.now c.loop-need.need-index c.need-item.result = search rules in
    λ t due. c.loop-need.invariant.wanted t (needs-before t c.args.needs.now c.loop-need.need-index c.need-item.result c.requires.needs_order short is due)

pub passed_by-kept-requires-clause-counts : goal.passed_by-kept-requires-clause-counts
passed_by-kept-requires-clause-counts c =
    let short : c.loop-need.need-index < length c.args.needs.now = search rules in
    let is : c.need-item.result ≡ get_or c.args.needs.now c.loop-need.need-index c.need-item.result = search rules in
    λ t due. c.loop-need.invariant.kept t (needs-before t c.args.needs.now c.loop-need.need-index c.need-item.result c.requires.needs_order short is due)

pub loop-need-preserved : goal.loop-need-preserved
loop-need-preserved c =
    let short : c.loop-need.need-index < length c.args.needs.now = search rules in
    let is : c.need-item.result ≡ get_or c.args.needs.now c.loop-need.need-index c.need-item.result = search rules in
    let now : c.saturating_sub-short.result ≡ shortfall c.args.needs.now c.args.held.now c.need-item.result.day =
    omega (arith, c.saturating_sub-short.ensures, c.passed_by-wanted.ensures.cents, c.passed_by-kept.ensures.cents) in
    record {
      so_far = elim c.if-short-greatest.branch [
        | then-short-greatest+in_ok-push w ↦
            rw (w.residual-is, w.greatest-is)
            (grows c.args.needs.now c.args.held.now c.loop-need.residual.items w.push.new.self.items c.loop-need.greatest c.saturating_sub-short.result c.loop-need.need-index c.need-item.result short is now (omega arith) w.in_ok-push.ensures.items
            c.loop-need.invariant.so_far)
        | else-short-greatest w ↦
            rw (w.residual-is, w.greatest-is)
            (stays c.args.needs.now c.args.held.now c.loop-need.residual.items c.loop-need.greatest c.saturating_sub-short.result c.loop-need.need-index c.need-item.result short is now (omega arith) c.loop-need.invariant.so_far)
      ];
      wanted = λ t all. c.passed_by-wanted.ensures.counts t (need-last t c.args.needs.now c.loop-need.need-index c.need-item.result short is all);
      kept = λ t all. c.passed_by-kept.ensures.counts t (need-last t c.args.needs.now c.loop-need.need-index c.need-item.result short is all);
      wanted_count = c.passed_by-wanted.ensures.count;
      kept_count = c.passed_by-kept.ensures.count;
    }

pub returns-clause-value : goal.returns-clause-value
returns-clause-value c =
    let done : length c.args.needs.now ≤ c.loop-need.need-index = search rules in
    all-grown c.args.needs.now c.args.held.now c.loop-need.residual.items c.loop-need.greatest c.loop-need.need-index done c.loop-need.invariant.so_far

pub returns-clause-residual : goal.returns-clause-residual
returns-clause-residual c =
    let done : length c.args.needs.now ≤ c.loop-need.need-index = search rules in
    subst (IsResidual c.args.needs.now c.args.held.now)
    (sym (all-grown c.args.needs.now c.args.held.now c.loop-need.residual.items c.loop-need.greatest c.loop-need.need-index done c.loop-need.invariant.so_far))
    (residual-is c.args.needs.now c.args.held.now c.requires.needs_order)

pub returns-clause-paid : goal.returns-clause-paid
returns-clause-paid c = stands c.args.needs.now c.args.held.now c.loop-need.residual.items (returns-clause-residual c)

pub returns-clause-meet : goal.returns-clause-meet
returns-clause-meet c = λ book. meet-alike c.args.held.now c.loop-need.residual.items (with_needs book c.args.needs.now) (returns-clause-residual c)

pub returns-clause-short : goal.returns-clause-short
returns-clause-short c = λ book. short-alike c.args.held.now c.loop-need.residual.items (with_needs book c.args.needs.now) (returns-clause-residual c)
