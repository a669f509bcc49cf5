use Rattle.std.proofs.Common.{ℕ, ◌<◌, ◌≤◌, All, get_or}
use Rattle.dual_bound.specs.Leasts.{IsPricedInside}
use Rattle.dual_bound.specs.declared.column.OtherPayment.{OtherPayment}
use Rattle.dual_bound.specs.declared.leasts.TheConstants.{PAST_DATES}
use Rattle.dual_bound.proofs.leasts.span_of.Given as goal

abbrev pub invariant-loop-other : goal.invariant-loop-other
invariant-loop-other l = record {
  start : l.span.first ≤ PAST_DATES;
  places : All (IsPricedInside l.days l.span) l.column.places.items;
  others : (k : ℕ) (d : OtherPayment) → k < l.other-index → IsPricedInside l.days l.span (get_or l.other-items k d).place;
}
