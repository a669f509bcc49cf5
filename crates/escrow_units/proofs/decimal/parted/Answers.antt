use Rattle.std.proofs.Common.{arith, ℕ, ◌≤◌, ◌+◌, ◌-◌, ◌*◌, ◌^◌, ◌<◌, length}
use Rattle.escrow_units.proofs.NumberFacts.{digits_fit, parted-below}
use Rattle.escrow_units.proofs.decimal.parted.Goals as goal

-- the sum, of which both parts are less
sum_fits : (whole part front back most places : ℕ) → whole < 10 ^ front → part < 10 ^ back → front ≤ most → back ≤ places → most + places ≤ 19 →
    whole * 10 ^ places + part * 10 ^ (places - back) < 2 ^ 64
sum_fits whole part front back most places small fraction few short room =
    digits_fit (whole * 10 ^ places + part * 10 ^ (places - back)) (front + places) (omega arith)
    (parted-below whole part front back places small fraction short)

pub scaled-requires-clause-fits : goal.scaled-requires-clause-fits
scaled-requires-clause-fits c =
    omega (
      arith,
      sum_fits c.in_ok-whole.whole c.in_ok-part.part (length c.args.front.now) (length c.args.back.now) c.args.most c.args.places
          c.in_ok-whole.ensures.bound c.in_ok-part.ensures.bound c.in_ok-whole.ensures.few c.in_ok-part.ensures.few c.requires,
    )

pub scaled-requires-2-clause-fits : goal.scaled-requires-2-clause-fits
scaled-requires-2-clause-fits c =
    omega (
      arith,
      sum_fits c.in_ok-whole.whole c.in_ok-part.part (length c.args.front.now) (length c.args.back.now) c.args.most c.args.places
          c.in_ok-whole.ensures.bound c.in_ok-part.ensures.bound c.in_ok-whole.ensures.few c.in_ok-part.ensures.few c.requires,
    )

pub overflow_add-result : goal.overflow_add-result
overflow_add-result c =
    record {
      fits = omega (
        arith,
        sum_fits c.in_ok-whole.whole c.in_ok-part.part (length c.args.front.now) (length c.args.back.now) c.args.most c.args.places
            c.in_ok-whole.ensures.bound c.in_ok-part.ensures.bound c.in_ok-whole.ensures.few c.in_ok-part.ensures.few c.requires,
      );
    }
