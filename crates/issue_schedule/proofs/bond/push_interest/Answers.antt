use Rattle.std.proofs.Common.{◌≡◌, get_or, arith}
use Rattle.issue_schedule.specs.Needs.{half_coupon}
use Rattle.issue_schedule.proofs.BondFacts.{paid-more, paid-all}
use Rattle.issue_schedule.proofs.bond.push_interest.Goals as goal

pub loop-date-preserved : goal.loop-date-preserved
loop-date-preserved c =
    let cents : c.half_coupon-cents.result.0 ≡ half_coupon c.args.bond.now = c.half_coupon-cents.ensures.value in
    let item : c.date-item.result ≡ get_or c.args.after.now c.loop-date.date-index c.date-item.result = c.date-item.is in
    record {
      room = omega (arith, c.loop-date.invariant.room, c.push_by.ensures.room);
      paid = paid-more c.args.last (half_coupon c.args.bond.now) c.args.after.now c.loop-date.date-index c.date-item.result c.args.flows.now.items c.loop-date.flows.items c.push_by.new.flows.items
          c.loop-date-test.true c.loop-date.invariant.paid (rw (cents, item) at c.push_by.ensures.flows);
    }

pub returns : goal.returns
returns c =
    paid-all c.args.settle c.args.last c.args.bond.now c.args.after.now c.loop-date.date-index c.args.flows.now.items c.loop-date.flows.items
    c.loop-date-test.false c.requires.after c.loop-date.invariant.paid
