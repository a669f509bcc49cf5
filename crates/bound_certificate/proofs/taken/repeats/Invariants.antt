use Rattle.std.proofs.Common.{◌≡◌, None, drop}
use Rattle.bound_certificate.specs.Packed.{repeats, restates}
use Rattle.bound_certificate.proofs.taken.repeats.Given as goal

abbrev pub invariant-loop-step : goal.invariant-loop-step
invariant-loop-step l = repeats l.before (drop l.step-index l.steps) ≡ restates None l.steps
