use Rattle.std.proofs.Common.{arith, rules, ◌≡◌, ◌-◌, ◌≤◌, pos, ◌+ℤ◌, ◌≤ℤ◌}
use Rattle.std.proofs.lemmas.Bool.{and_from, and_right, lt-leb}
use Rattle.jiff_core.specs.Calendar.{weekday_number}
use Rattle.jiff_core.proofs.CalendarLemmas.{weekday_number_bound}
use Rattle.jiff_core.proofs.SignedLemmas.{signed_arith, signed_casts}
use Rattle.escrow_units.specs.OpenDays.{is_weekend}
use Rattle.escrow_units.proofs.OpenDayFacts.{monday-after, weekend-between}
use Rattle.escrow_units.proofs.OpenTableFacts.{past-is}
use Rattle.escrow_units.proofs.closed_days.past_weekend.Goals as goal

pub overflow_sub-number : goal.overflow_sub-number
overflow_sub-number c =
    let bound = weekday_number_bound c.args.day in
    omega (arith, signed_casts, signed_arith, c.number.ensures.value, c.number.ensures.bound, c.weekday-weekday.ensures, bound)

pub new-requires : goal.new-requires
new-requires c =
    let bound = weekday_number_bound c.args.day in (
      omega (arith, signed_casts, signed_arith, c.number.ensures.value, c.number.ensures.bound, c.weekday-weekday.ensures, bound),
      omega (arith, signed_casts, signed_arith, c.number.ensures.value, c.number.ensures.bound, c.weekday-weekday.ensures, bound, c.requires),
    )

weekend : (c : goal.After-new) → (5 ≤ weekday_number c.args.day) × (c.new.result ≡ c.args.day +ℤ pos (7 - weekday_number c.args.day))
weekend c =
    let bound = weekday_number_bound c.args.day in
    let late : pos 5 ≤ℤ c.weekday-weekday.result = first_of (search rules, omega (arith, signed_casts, c.if-weekday-ge5.true)) in
    past-is c.args.day c.new.result c.weekday-weekday.result c.weekday-weekday.ensures late
    (omega (arith, signed_casts, signed_arith, c.new.ensures, c.number.ensures.value, c.number.ensures.bound, c.weekday-weekday.ensures, bound))

pub returns-then-weekday-ge5-clause-from : goal.returns-then-weekday-ge5-clause-from
returns-then-weekday-ge5-clause-from c = omega (arith, signed_arith, (weekend c).1)

pub returns-then-weekday-ge5-clause-near : goal.returns-then-weekday-ge5-clause-near
returns-then-weekday-ge5-clause-near c = omega (arith, signed_arith, (weekend c).1, (weekend c).0)

pub returns-then-weekday-ge5-clause-past : goal.returns-then-weekday-ge5-clause-past
returns-then-weekday-ge5-clause-past c =
    let monday = monday-after c.args.day c.new.result (weekend c).0 (weekend c).1 in
    and_right c.args.weekends (is_weekend c.new.result) (lt-leb 5 (weekday_number c.new.result) (omega (arith, monday)))

pub returns-then-weekday-ge5-clause-between : goal.returns-then-weekday-ge5-clause-between
returns-then-weekday-ge5-clause-between c = λ other from before.
    and_from c.args.weekends (is_weekend other) c.if-weekends.true
    (weekend-between c.args.day other (weekend c).0 from (omega (arith, signed_arith, before, (weekend c).1)))
