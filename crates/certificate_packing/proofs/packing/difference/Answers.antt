use Rattle.std.proofs.Common.{List, arith, subst, sym, ◌+◌}
use Rattle.bound_certificate.specs.declared.packed.Change.{Change}
use Rattle.certificate_packing.proofs.PackFacts.{IsSoFar, none-yet, one-change, whole-difference}
use Rattle.certificate_packing.proofs.packing.difference.Goals as goal

pub loop-place-init : goal.loop-place-init
loop-place-init c =
    let P : List Change → Type 0 = λ cs. IsSoFar c.args.vector.now c.args.prices.now 0 cs in subst P (sym c.new-changes.ensures.items) (none-yet c.args.vector.now c.args.prices.now)

pub loop-place-preserved : goal.loop-place-preserved
loop-place-preserved c =
    let P : List Change → Type 0 = λ cs. IsSoFar c.args.vector.now c.args.prices.now (c.loop-place.place + 1) cs in
    subst P (sym c.in_ok-push.ensures.items)
    (one-change c.args.vector.now c.args.prices.now c.loop-place.place c.loop-place.changes.items c.loop-place.invariant (omega (arith, c.requires.same)) c.requires.same c.if-vector-place.false)

pub returns : goal.returns
returns c =
    whole-difference c.args.vector.now c.args.prices.now c.loop-place.place c.loop-place.changes.items c.loop-place.invariant c.requires.same
    (omega (arith, c.loop-place-test.false, c.loop-place.auto.place-end))
