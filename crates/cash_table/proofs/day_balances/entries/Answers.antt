use Rattle.std.proofs.Common.{◌≡◌, ◌∙◌, ◌+◌, ◌<◌, ap, sym, arith, pos, ◌+ℤ◌, length}
use Rattle.std.proofs.lemmas.Int.{ints}
use Rattle.escrow_units.specs.Calendar.{years_after_of}
use Rattle.escrow_units.specs.Series.{days_between_of}
use Rattle.escrow_units.proofs.FlowFacts.{days_between_of-count}
use Rattle.escrow_units.proofs.YearFacts.{years-follow}
use Rattle.cash_table.specs.Balances.{entry_on, escrow_days}
use Rattle.cash_table.proofs.BalanceFacts.{entries_all, entries_more-left_out, entries_more-listed, left_after, length-escrow_days, total_before-first}
use Rattle.cash_table.proofs.day_balances.entries.Goals as goal
use Rattle.cash_table.proofs.day_balances.entries.Goals.{then-is_listed+in_ok-push, else-is_listed}

pub days_between-place-end-requires : goal.days_between-place-end-requires
days_between-place-end-requires c = rw c.years_after.ensures (years-follow c.args.settle c.requires.settlement)

pub loop-place-init : goal.loop-place-init
loop-place-init c =
    let none : c.args.settle +ℤ pos 0 ≡ c.args.settle = omega (arith, ints) in
    record {
      listed = c.new-entries.ensures.items;
      left = rw none
          (omega (arith, total_before-first c.args.settle _ c.args.needs.now.sums c.requires.needs_within, total_before-first c.args.settle _ c.args.receipts.now.sums c.requires.receipts_within));
    }

pub day_after-day-requires-clause-within : goal.day_after-day-requires-clause-within
day_after-day-requires-clause-within c = rw (← c.years_after.ensures, ← c.days_between-place-end.ensures) (omega (arith, ints, c.loop-place-test.true))

pub entry_of-entry-requires-clause-before : goal.entry_of-entry-requires-clause-before
entry_of-entry-requires-clause-before c = rw c.day_after-day.ensures c.loop-place.invariant.left

pub loop-place-preserved : goal.loop-place-preserved
loop-place-preserved c =
    let settle = c.args.settle in
    let receipts = c.args.receipts.now.sums in
    let needs = c.args.needs.now.sums in
    let place = c.loop-place.place in
    let count : days_between_of settle (years_after_of settle 40) ≡ c.days_between-place-end.result = days_between_of-count settle _ c.days_between-place-end.result (c.days_between-place-end.ensures ∙ c.years_after.ensures) in
    let within : place < length (escrow_days settle) = omega (arith, count, length-escrow_days settle, c.loop-place-test.true) in
    let is : c.entry_of-entry.result ≡ entry_on receipts needs (settle +ℤ pos place) = c.entry_of-entry.ensures ∙ ap (entry_on receipts needs) c.day_after-day.ensures in
    let next : settle +ℤ pos (place + 1) ≡ (settle +ℤ pos place) +ℤ pos 1 = omega (arith, ints) in
    record {
      listed = elim c.if-is_listed.branch [
        | then-is_listed+in_ok-push w ↦
            rw w.entries-is
            (entries_more-listed settle receipts needs place c.loop-place.entries.items w.push.new.self.items c.entry_of-entry.result within c.loop-place.invariant.listed is (sym c.is_listed.ensures ∙ w.if-is_listed.true) w.in_ok-push.ensures.items)
        | else-is_listed w ↦
            rw w.entries-is
            (entries_more-left_out settle receipts needs place c.loop-place.entries.items c.entry_of-entry.result within c.loop-place.invariant.listed is (sym c.is_listed.ensures ∙ w.if-is_listed.false))
      ];
      left = rw (next, is) (left_after (settle +ℤ pos place) receipts needs c.loop-place.balance c.loop-place.invariant.left (c.requires.meets (settle +ℤ pos place)));
    }

pub returns : goal.returns
returns c =
    let count : days_between_of c.args.settle (years_after_of c.args.settle 40) ≡ c.days_between-place-end.result = days_between_of-count c.args.settle _ c.days_between-place-end.result (c.days_between-place-end.ensures ∙ c.years_after.ensures) in
    c.loop-place.invariant.listed
    ∙ entries_all c.args.settle c.args.receipts.now.sums c.args.needs.now.sums c.loop-place.place (omega (arith, count, length-escrow_days c.args.settle, c.loop-place-test.false))
