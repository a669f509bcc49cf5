use Rattle.std.proofs.Common.{ℕ, ◌<◌, ◌≤◌, get_or}
use Rattle.dual_bound.specs.Leasts.{IsPricedInside}
use Rattle.dual_bound.specs.declared.leasts.TheConstants.{PAST_DATES}
use Rattle.dual_bound.proofs.leasts.regular_span.Given as goal

abbrev pub invariant-loop-place : goal.invariant-loop-place
invariant-loop-place l = (l.span.first ≤ PAST_DATES) × ((k d : ℕ) → k < l.place-index → IsPricedInside l.days l.span (get_or l.place-items k d))
