use Rattle.std.proofs.Common.{◌≡◌, ◌+◌, drop}
use Rattle.market_notes.specs.PriceForm.{none_read, with_price_rows}
use Rattle.market_notes.proofs.read.read_rest.Given as goal

abbrev pub invariant-loop-place : goal.invariant-loop-place
invariant-loop-place l = record {
  settle : l.draft.settle ≡ l.fn.settle;
  rest : with_price_rows (none_read l.fn.settle l.fn.terms) 2 (drop 1 l.rows) ≡ with_price_rows l.draft (l.place + 1) (drop l.place l.rows);
}
