use Rattle.std.proofs.Common.{◌≡◌, ◌∙◌, ◌+◌, ◌-◌, ℕ, length, arith, Err}
use Rattle.std.proofs.lemmas.List.{length-replicate}
use Rattle.std.proofs.lemmas.Result.{err_from_is_err_and}
use Rattle.backward_build.specs.BackwardPlan.{with_date}
use Rattle.backward_build.proofs.PlanFacts.{last_next, last_start, last_stop, meets_at_end, under_way_start}
use Rattle.backward_build.proofs.backward.buy_all.Goals as goal

pub loop-later-init : goal.loop-later-init
loop-later-init c =
    let whole : length c.args.book.now.needs - 0 ≡ length c.args.book.now.needs = omega arith in
    record {
      bought = last_start c.args.book.now c.args.plan.now c.requires.none;
      under_way = rw (whole, c.requires.none) (under_way_start c.args.book.now 480);
      room = omega (arith, length-replicate {A = ℕ} 480 0, c.need_count-later-end.ensures.limits.needs.few);
    }

pub returns-in_err-buy_own-clause-ended : goal.returns-in_err-buy_own-clause-ended
returns-in_err-buy_own-clause-ended c =
    let p = err_from_is_err_and c.from_residual.result c.from_residual.ensures.1 in
    let stopped : with_date c.args.book.now (length c.args.book.now.needs - 1 - c.loop-later.later) c.loop-later.plan ≡ Err c.in_err-buy_own.field-0.0 = rw c.need_count.ensures.value at c.in_err-buy_own.ensures.ended in
    rw (p.1, p.2) (last_stop c.args.book.now c.loop-later.later c.loop-later.plan c.in_err-buy_own.field-0.0 (omega arith) c.loop-later.invariant.bought stopped)

pub loop-later-preserved : goal.loop-later-preserved
loop-later-preserved c =
    let place : length c.args.book.now.needs - (c.loop-later.later + 1) ≡ length c.args.book.now.needs - 1 - c.loop-later.later = omega arith in
    record {
      bought = last_next c.args.book.now c.loop-later.later c.loop-later.plan c.loop-later.invariant.bought ∙ (rw c.need_count.ensures.value at c.in_ok-buy_own.ensures.bought);
      under_way = rw place (rw c.need_count.ensures.value at c.in_ok-buy_own.ensures.under_way);
      room = omega (arith, c.loop-later.invariant.room, c.buy_own.auto.received);
    }

pub returns-clause-meets : goal.returns-clause-meets
returns-clause-meets c =
    let none : length c.args.book.now.needs - c.loop-later.later ≡ 0 = omega arith in
    meets_at_end c.args.book.now c.loop-later.plan c.loop-later.received c.need_count-later-end.ensures.limits.needs.rising c.loop-later.invariant.room (rw none at c.loop-later.invariant.under_way)
