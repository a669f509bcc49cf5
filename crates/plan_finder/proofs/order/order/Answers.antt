use Rattle.std.proofs.Common.{◌<◌, length}
use Rattle.std.proofs.lemmas.List.Sorted.{All-permutation}
use Rattle.plan_finder.specs.declared.order.Ranked.{Ranked}
use Rattle.plan_finder.proofs.order.order.Goals as goal

pub returns-in-Ok : goal.returns-in-Ok
returns-in-Ok c =
    All-permutation (λ (ranked : Ranked). ranked.line < length c.args.book.now.lines) c.loop-line.order.items c.sort_by_key.new.self.items c.sort_by_key.ensures.permutation c.loop-line.invariant
