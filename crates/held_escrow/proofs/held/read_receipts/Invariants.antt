use Rattle.std.proofs.Common.{◌≡◌, ◌+◌, [], drop}
use Rattle.escrow_units.specs.Flows.{FallWithinFortyYears}
use Rattle.held_escrow.specs.HeldForm.{with_held_rows}
use Rattle.held_escrow.proofs.held.read_receipts.Given as goal

abbrev pub invariant-loop-place : goal.invariant-loop-place
invariant-loop-place l = record {
  within : FallWithinFortyYears l.fn.settle l.receipts.items;
  rest : with_held_rows l.fn.settle [] 1 l.rows ≡ with_held_rows l.fn.settle l.receipts.items (l.place + 1) (drop l.place l.rows);
}
