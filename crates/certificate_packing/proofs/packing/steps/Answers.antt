use Rattle.std.proofs.Common.{◌+◌, List, arith, get_or, subst, sym}
use Rattle.bound_certificate.specs.declared.packed.Change.{Change}
use Rattle.certificate_packing.proofs.PackFacts.{AreStepsSoFar, no-step, no-steps, one-step, whole-steps}
use Rattle.certificate_packing.proofs.packing.steps.Goals as goal

pub loop-place-init : goal.loop-place-init
loop-place-init c =
    let P : List Change → Type 0 = λ cs. AreStepsSoFar c.args.prices.now 0 2_000_000_000_000 cs in subst P (sym c.new-changes.ensures.items) (no-steps c.args.prices.now)

pub loop-place-preserved-then-prices-place : goal.loop-place-preserved-then-prices-place
loop-place-preserved-then-prices-place c =
    no-step c.args.prices.now c.loop-place.place c.loop-place.before c.loop-place.changes.items c.loop-place.invariant c.loop-place-test.true c.if-prices-place.true

pub loop-place-preserved : goal.loop-place-preserved
loop-place-preserved c =
    let P : List Change → Type 0 = λ cs. AreStepsSoFar c.args.prices.now (c.loop-place.place + 1) (get_or c.args.prices.now c.loop-place.place 0) cs in
    subst P (sym c.in_ok-push.ensures.items)
    (one-step c.args.prices.now c.loop-place.place c.loop-place.before c.loop-place.changes.items c.loop-place.invariant c.loop-place-test.true c.if-prices-place.false)

pub returns : goal.returns
returns c =
    whole-steps c.args.prices.now c.loop-place.place c.loop-place.before c.loop-place.changes.items c.loop-place.invariant (omega (arith, c.loop-place-test.false, c.loop-place.auto.place-end))
