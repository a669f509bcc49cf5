use Rattle.std.proofs.Common.{◌+◌, replicate, arith}
use Rattle.std.proofs.lemmas.List.Folds.{sum_by-replicate}
use Rattle.std.proofs.lemmas.List.Sums.{sum_by-take-drop}
use Rattle.plan_finder.proofs.account.paid_by.Goals as goal

pub returns : goal.returns
returns c = λ k need within.
    let nothing = sum_by-replicate (λ n. n) 480 0 in
    let parts = sum_by-take-drop (λ n. n) (replicate 480 0) (k + 1) in
    omega (arith, c.run_up.ensures k within, c.add_receipts.ensures.by_day k need within, parts, nothing)
