use Rattle.std.proofs.Common.{◌≢◌, ◌+◌, ◌<◌, List, arith, get_or, length, slice_set}
use Rattle.bound_certificate.specs.declared.packed.Change.{Change}
use Rattle.bound_certificate.proofs.LoopFacts.{no_change}
use Rattle.bound_certificate.proofs.StairFacts.{AreStairsTo, stairs-begin, stairs-end, stairs-level, stairs-step}
use Rattle.bound_certificate.proofs.taken.put_stairs.Goals as goal
use Rattle.bound_certificate.proofs.taken.put_stairs.Goals.{then-next-steps+then-steps-next, else-next-steps, else-next-steps-via-then-next-steps+else-steps-next, else-next-steps-via-else-next-steps}

pub loop-place-init : goal.loop-place-init
loop-place-init c = record { some = omega arith; are = stairs-begin c.args.dates c.args.steps.now c.args.prices.now c.requires.dates c.requires.places }

pub loop-place-preserved : goal.loop-place-preserved
loop-place-preserved c =
    let i = c.loop-place.invariant in
    let steps : List Change = c.args.steps.now in
    let level : (c.loop-place.next < length steps → (get_or steps c.loop-place.next no_change).place ≢ c.loop-place.place + 1) →
    AreStairsTo c.args.dates steps (slice_set c.loop-place.prices c.loop-place.place c.loop-place.price) (c.loop-place.place + 1) c.loop-place.price c.loop-place.next =
    (λ other. stairs-level c.args.dates steps c.loop-place.prices c.loop-place.place c.loop-place.price c.loop-place.next c.requires.rising c.loop-place-test.true other i.are) in
    elim c.if-next-steps.branch [
      | then-next-steps+then-steps-next w ↦
          rw (c.put.ensures, w.price-is, w.next-is) (record {
            some = omega (arith, w.if-next-steps.true);
            are = stairs-step c.args.dates steps c.loop-place.prices c.loop-place.place c.loop-place.price c.loop-place.next c.requires.rising c.loop-place-test.true w.if-next-steps.true
                w.if-steps-next.true i.are;
          })
      | else-next-steps w ↦
          rw (c.put.ensures, w.price-is, w.next-is) (elim w.else-next-steps.branch [
            | else-next-steps-via-then-next-steps+else-steps-next o ↦ record { some = i.some; are = level (λ _ same. o.if-steps-next.false same) }
            | else-next-steps-via-else-next-steps o ↦ record { some = i.some; are = level (λ inside _. absurd (omega (arith, inside, o.if-next-steps.false))) }
          ])
    ]

pub returns : goal.returns
returns c =
    stairs-end c.args.dates c.args.steps.now c.loop-place.prices c.loop-place.place c.loop-place.price c.loop-place.next (omega (arith, c.loop-place-test.false, c.loop-place.auto.place-end)) c.requires.places
    c.loop-place.invariant.are
