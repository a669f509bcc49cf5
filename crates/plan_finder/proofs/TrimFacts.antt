-- A line that pays what is due leaves nothing short.
use Rattle.std.proofs.Common.{◌≡◌, ℕ, ◌<◌, List, length, get_or, set, arith}
use Rattle.offer_book.specs.Book.{BookContents}
use Rattle.offer_book.specs.Portfolio.{Meets, line_payments, payments}
use Rattle.offer_book.specs.declared.line.Line.{Line}
use Rattle.cash_table.proofs.DayFacts.{met_on_every_day}
use Rattle.backward_build.specs.Spare.{Cover}
use Rattle.backward_build.proofs.UnitFacts.{payments_exchange}
use Rattle.plan_finder.specs.Ledger.{AreDue}
use Rattle.plan_finder.proofs.PutFacts.{line-paid}

-- the units of a plan that meets the needs pay what is due
pub due-covered : (book : BookContents) (plan due : List ℕ) (i : ℕ) (d : Line) → i < length book.lines → length plan ≡ length book.lines
    → AreDue book.needs (payments book plan) (line_payments book.days (get_or book.lines i d) (get_or plan i 0)) due → Meets book plan
    → Cover book.needs due (line_payments book.days (get_or book.lines i d) (get_or plan i 0))
due-covered book plan due i d within same owed meets = λ k e here.
    let t = (get_or book.needs k e).day in
    omega (arith, owed k e here, meets t, line-paid t book plan i d within same)

-- and units that pay it meet them
pub covered-meets : (book : BookContents) (plan due : List ℕ) (i units : ℕ) (d : Line) → i < length book.lines → length plan ≡ length book.lines
    → AreDue book.needs (payments book plan) (line_payments book.days (get_or book.lines i d) (get_or plan i 0)) due
    → Cover book.needs due (line_payments book.days (get_or book.lines i d) units) → Meets book (set plan i units)
covered-meets book plan due i units d within same owed cover = λ t.
    met_on_every_day book.needs (payments book (set plan i units)) t (λ k e here _.
    let day = (get_or book.needs k e).day in
    omega (arith, payments_exchange day book plan i units d within same, owed k e here, cover k e here, line-paid day book plan i d within same))
