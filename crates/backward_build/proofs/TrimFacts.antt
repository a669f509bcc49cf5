-- When a line can go down: what is left after each need date, what is due, and what a line that went down gives back.
use Rattle.std.proofs.Common.{◌≡◌, ℕ, ◌+◌, ◌-◌, ◌<◌, ◌≤◌, List, length, get_or, set, subst, ◌∙◌, arith, pos}
use Rattle.std.proofs.lemmas.List.{get_or-set_same, length-set, set-set}
use Rattle.escrow_units.specs.declared.security.Flow.{Flow}
use Rattle.day_sums.specs.Summed.{total_by}
use Rattle.offer_book.specs.declared.line.LineKind.TheVariants.{Cash}
use Rattle.offer_book.specs.declared.line.Line.{Line}
use Rattle.offer_book.specs.Book.{BookContents}
use Rattle.offer_book.specs.Portfolio.{IsPermittedUnits, Meets, line_payments, payments}
use Rattle.cash_table.proofs.DayFacts.{met_on_every_day}
use Rattle.cash_table.proofs.ReachFacts.{line_pays_more}
use Rattle.backward_build.specs.Spare.{ArePaid, AreSpare, Cover}
use Rattle.backward_build.specs.Trim.{HasNoMore, IsFewest}
use Rattle.backward_build.proofs.UnitFacts.{no_more-both, payments_exchange, pays_more}
use Rattle.offer_book.specs.declared.payment_days.PaymentDays.{PaymentDays}

-- what is paid of nothing short leaves the needs met
pub met_from_spare : (book : BookContents) (plan spare : List ℕ) → AreSpare book.needs (payments book plan) spare → Meets book plan
met_from_spare book plan spare left = λ t.
    met_on_every_day book.needs (payments book plan) t (λ k d within _. omega (arith, left k d within))

-- more units cover no less
pub cover_more : (days : PaymentDays) (needs : List Flow) (line : Line) (due : List ℕ) (units more : ℕ) → units ≤ more → Cover needs due (line_payments days line units) → Cover needs due (line_payments days line more)
cover_more days needs line due units more le cover = λ k d within.
    omega (arith, cover k d within, line_pays_more (get_or needs k d).day days line units more le)

-- what is due of a line is what it pays by each need date, but for what is spare
abbrev pub AreDue : List Flow → List Flow → List ℕ → List ℕ → Type 0
AreDue needs flows spare due = (k : ℕ) (d : Flow) → k < length needs → get_or due k 0 ≡ total_by (get_or needs k d).day flows - get_or spare k 0

-- so a plan with other units of the line meets the needs exactly where they cover what is due
pub covers_from_meets : (book : BookContents) (plan spare due : List ℕ) (i units : ℕ) (line : Line) → i < length book.lines → length plan ≡ length book.lines
    → AreSpare book.needs (payments book plan) spare → AreDue book.needs (line_payments book.days (get_or book.lines i line) (get_or plan i 0)) spare due
    → Meets book (set plan i units) → Cover book.needs due (line_payments book.days (get_or book.lines i line) units)
covers_from_meets book plan spare due i units line within same left owed meets = λ k d here.
    let t = (get_or book.needs k d).day in
    omega (arith, payments_exchange t book plan i units line within same, left k d here, owed k d here, meets t)

pub meets_from_covers : (book : BookContents) (plan spare due : List ℕ) (i units : ℕ) (line : Line) → i < length book.lines → length plan ≡ length book.lines
    → AreSpare book.needs (payments book plan) spare → AreDue book.needs (line_payments book.days (get_or book.lines i line) (get_or plan i 0)) spare due
    → Cover book.needs due (line_payments book.days (get_or book.lines i line) units) → Meets book (set plan i units)
meets_from_covers book plan spare due i units line within same left owed cover = λ t.
    met_on_every_day book.needs (payments book (set plan i units)) t
    (λ k d here _. omega (arith, payments_exchange (get_or book.needs k d).day book plan i units line within same, left k d here, owed k d here, cover k d here))

-- what is left once a line has other units
pub spare-set : (book : BookContents) (plan spare before after less : List ℕ) (i units : ℕ) (line : Line) → i < length book.lines → length plan ≡ length book.lines
    → AreSpare book.needs (payments book plan) spare → ArePaid book.needs (line_payments book.days (get_or book.lines i line) (get_or plan i 0)) before
    → ArePaid book.needs (line_payments book.days (get_or book.lines i line) units) after
    → ((k : ℕ) → k < length book.needs → get_or less k 0 + get_or before k 0 ≡ get_or spare k 0 + get_or after k 0)
    → AreSpare book.needs (payments book (set plan i units)) less
spare-set book plan spare before after less i units line within same left paid now taken = λ k d here.
    omega (arith, payments_exchange (get_or book.needs k d).day book plan i units line within same, left k d here, paid k d here, now k d here, taken k here)

-- a line that has as few units as it can have, by what is due
pub fewest-set : (book : BookContents) (plan spare due : List ℕ) (i units : ℕ) → i < length book.lines → length plan ≡ length book.lines
    → AreSpare book.needs (payments book plan) spare → ((line : Line) → AreDue book.needs (line_payments book.days (get_or book.lines i line) (get_or plan i 0)) spare due)
    → ((fewer : ℕ) (line : Line) → fewer < units → IsPermittedUnits (get_or book.lines i line) fewer → ¬ Cover book.needs due (line_payments book.days (get_or book.lines i line) fewer))
    → IsFewest book (set plan i units) i
fewest-set book plan spare due i units within same left owed fewest = λ fewer line below permitted meets.
    let at = get_or-set_same plan i units 0 (omega (arith, within, same)) in
    fewest fewer line (omega (arith, at, below)) permitted
    (covers_from_meets book plan spare due i fewer line within same left (owed line) (subst (Meets book) (set-set plan i units fewer) meets))

-- what could go no lower can go no lower once others have fewer units
pub still_fewest : (book : BookContents) (plan other : List ℕ) (i : ℕ) → i < length book.lines → length plan ≡ length book.lines → length other ≡ length book.lines
    → HasNoMore plan other → IsFewest book other i → IsFewest book plan i
still_fewest book plan other i within same too less fewest = λ units line below permitted meets.
    fewest units line (omega (arith, below, less i)) permitted
    (λ t.
    let more = pays_more t book (set plan i units) (set other i units) (length-set plan i units ∙ same) (length-set other i units ∙ too)
    (no_more-both plan other i units (omega (arith, within, same)) (omega (arith, within, too)) less) in
    omega (arith, meets t, more))

pub owed : (needs flows : List Flow) (paid spare due : List ℕ) → length needs ≤ length paid → ArePaid needs flows paid
    → ((k : ℕ) → k < length paid → get_or due k 0 ≡ get_or paid k 0 - get_or spare k 0) → AreDue needs flows spare due
owed needs flows paid spare due places by taken = λ k d here. omega (arith, by k d here, taken k (omega arith))

-- any need and any line, for what doesn't depend on it
abbrev pub some_need : Flow
some_need = record { day = pos 0; cents = record { 0 = 0 } }

abbrev pub some_line : Line
some_line = record { kind = Cash; step = 1; least = 1; most = 1 }

-- what a line pays with fewer units that cover what is due: no more than before, and less by no more than is spare
pub paid_less : (days : PaymentDays) (needs : List Flow) (line : Line) (units fewer : ℕ) (before after : List ℕ) → fewer ≤ units → ArePaid needs (line_payments days line units) before → ArePaid needs (line_payments days line fewer) after
    → (k : ℕ) → k < length needs → get_or after k 0 ≤ get_or before k 0
paid_less days needs line units fewer before after le was now = λ k here.
    omega (arith, line_pays_more (get_or needs k some_need).day days line fewer units le, was k some_need here, now k some_need here)

pub paid_enough : (needs flows : List Flow) (before spare due after : List ℕ) → length needs ≤ length before → Cover needs due flows → ArePaid needs flows after
    → ((k : ℕ) → k < length before → get_or due k 0 ≡ get_or before k 0 - get_or spare k 0)
    → (k : ℕ) → k < length needs → get_or before k 0 ≤ get_or spare k 0 + get_or after k 0
paid_enough needs flows before spare due after places cover now taken = λ k here.
    omega (arith, cover k some_need here, now k some_need here, taken k (omega arith))
