-- The schedules of a book's lines, as they are kept so that no calendar is read again: this project's own.
use Rattle.std.specs.Prelude.{◌==◌, if◌then◌else◌, List, [], map}
use Rattle.offer_book.specs.Book.{BookContents}
use Rattle.offer_book.specs.Schedule.{kind_rate, schedule_of}
use Rattle.offer_book.specs.declared.line.Line.{Line}
use Rattle.offer_book.specs.declared.payment_days.PaymentDays.{PaymentDays}
use Rattle.payment_schedule.specs.declared.schedule.ScheduledPayment.{ScheduledPayment}

-- the payments that are kept of a line: its schedule where it bears interest, else none
abbrev pub kept_of : PaymentDays → Line → List ScheduledPayment
kept_of days line = if kind_rate line.kind == 0 then [] else schedule_of days line

-- and those of each line of a book
abbrev pub schedules_of : BookContents → List (List ScheduledPayment)
schedules_of book = map (kept_of book.days) book.lines
