use Rattle.std.proofs.Common.{◌+◌, ◌∙◌, replicate, slice_index_or, ap, arith}
use Rattle.std.proofs.lemmas.List.Folds.{sum_by-replicate}
use Rattle.std.proofs.lemmas.List.Sums.{sum_by-take-drop}
use Rattle.day_sums.specs.Summed.{total_by}
use Rattle.backward_build.proofs.spare.put_paid.Goals as goal

pub returns : goal.returns
returns c = λ d k need within.
    let nothing = sum_by-replicate (λ n. n) 480 0 in
    let parts = sum_by-take-drop (λ n. n) (replicate 480 0) (k + 1) in
    let added = c.add_receipts.ensures.by_day k need (rw c.needs.ensures.value within) in
    let pays = ap (total_by (slice_index_or c.args.book.now.needs k need).day) (c.as_slice.ensures.value ∙ c.line_payments.ensures.value d) in
    let run = c.run_up.ensures k (omega (arith, within, c.from.ensures, c.need_count.ensures.value)) in
    omega (arith, run, rw c.needs.ensures.value at added, parts, nothing, pays)
