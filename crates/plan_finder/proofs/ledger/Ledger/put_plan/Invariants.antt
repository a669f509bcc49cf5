use Rattle.std.proofs.Common.{◌≡◌, length, take}
use Rattle.plan_finder.proofs.ledger.Ledger.put_plan.Given as goal

abbrev pub invariant-loop-line : goal.invariant-loop-line
invariant-loop-line l = record {
  book : l.self.book ≡ l.fn.self.book;
  yield_units : l.self.yield_units ≡ l.fn.self.yield_units;
  count : length l.self.plan ≡ length l.plan;
  put : take l.line l.self.plan ≡ take l.line l.plan;
}
