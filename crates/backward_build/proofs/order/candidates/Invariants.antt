use Rattle.std.proofs.Common.{◌≡◌, map}
use Rattle.std.specs.List.{range_with_len}
use Rattle.std.specs.Option.{option_copied}
use Rattle.backward_build.specs.Order.{AreCandidates}
use Rattle.backward_build.specs.declared.order.Candidate.{Candidate}
use Rattle.backward_build.proofs.order.candidates.Given as goal

abbrev pub invariant-loop-line : goal.invariant-loop-line
invariant-loop-line l = record {
  lines : map (λ (candidate : Candidate). candidate.line) l.candidates.items ≡ range_with_len 0 l.line;
  savings : AreCandidates l.book (option_copied l.prices) l.candidates.items;
}
