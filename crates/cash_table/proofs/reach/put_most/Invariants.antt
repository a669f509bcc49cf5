use Rattle.std.proofs.Common.{◌≡◌, length, map, take}
use Rattle.cash_table.proofs.reach.put_most.Given as goal

abbrev pub invariant-loop-place : goal.invariant-loop-place
invariant-loop-place l = (length l.units ≡ length l.fn.units) × (take l.place l.units ≡ take l.place (map (λ line. line.most) l.lines))
