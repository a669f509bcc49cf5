use Rattle.std.proofs.Common.{ℤ, get_or, slice_index_or, ap, arith}
use Rattle.escrow_units.specs.Flows.{total}
use Rattle.day_sums.specs.Summed.{total_by}
use Rattle.offer_book.specs.declared.line.Line.{Line}
use Rattle.offer_book.specs.declared.line.LineKind.TheVariants.{Cash}
use Rattle.cash_table.specs.Receipts.{AreReceipts}
use Rattle.offer_book.specs.Portfolio.{line_payments, payments}
use Rattle.cash_table.proofs.DayFacts.{first_short_value}
use Rattle.cash_table.proofs.FlowFacts.{flows_at_most}
use Rattle.cash_table.proofs.StandingFacts.{cash-within, paid-by, some-line}
use Rattle.cash_table.proofs.standing.first_short_by.Goals as goal

pub get-requires : goal.get-requires
get-requires c = omega (arith, some-line c.args.book.now.days c.args.book.now.lines c.needs-needs.ensures.limits.lines, c.requires.permitted.same_length)

pub line_receipts-receipts-requires-clause-line : goal.line_receipts-receipts-requires-clause-line
line_receipts-receipts-requires-clause-line c = some-line c.args.book.now.days c.args.book.now.lines c.needs-needs.ensures.limits.lines

pub line_receipts-receipts-requires-clause-units : goal.line_receipts-receipts-requires-clause-units
line_receipts-receipts-requires-clause-units c = λ d.
    omega (arith, c.get.ensures, cash-within c.args.book.now c.args.plan.now d c.needs-needs.ensures.limits c.requires.permitted)

pub add_receipts-requires-clause-room : goal.add_receipts-requires-clause-room
add_receipts-requires-clause-room c =
    omega (arith, c.line_receipts-receipts.ensures.bound, ap total c.requires.flows, flows_at_most c.args.book.now c.args.plan.now c.needs-needs.ensures.limits c.requires.permitted)

pub first_uncovered-requires-clause-received : goal.first_uncovered-requires-clause-received
first_uncovered-requires-clause-received c =
    omega (arith, c.add_receipts.ensures.whole, c.line_receipts-receipts.ensures.bound, ap total c.requires.flows, flows_at_most c.args.book.now c.args.plan.now c.needs-needs.ensures.limits c.requires.permitted)

some-line-at : Line
some-line-at = record { kind = Cash; step = 1; least = 1; most = 0 }

pub returns : goal.returns
returns c =
    let book = c.args.book.now in
    let plan = c.args.plan.now in
    let limits = c.needs-needs.ensures.limits in
    let by_day = rw c.needs-needs.ensures.value at c.add_receipts.ensures.by_day in
    let received : AreReceipts book.needs (payments book plan) c.add_receipts.new.receipts =
    λ k d within.
    let t : ℤ = (slice_index_or book.needs k d).day in
    let apart = paid-by book plan some-line-at t (some-line book.days book.lines limits.lines) c.requires.permitted.same_length in
    let cash = c.line_receipts-receipts.ensures.receipts some-line-at k d within in
    let units = ap (λ u. total_by t (line_payments book.days (get_or book.lines 0 some-line-at) u)) c.get.ensures in
    omega (arith, by_day k d within, cash, units, ap (total_by t) c.requires.flows, apart) in
    first_short_value book plan c.add_receipts.new.receipts c.first_uncovered.result limits.needs.rising received
    (rw c.needs-needs.ensures.value at c.first_uncovered.ensures.none)
    (rw c.needs-needs.ensures.value at c.first_uncovered.ensures.some)
