-- The most of every line is permitted, and no permitted portfolio pays more by any day.
use Rattle.std.proofs.Common.{◌≡◌, ◌∙◌, ◌↔◌, ℕ, zero, suc, ◌+◌, ◌<◌, ◌≤◌, refl, sym, ap, arith, ℤ, inl, inr, Bool, true, false, if◌then◌else◌, List, [], ◌∷◌, map, length, Option, Some, None, MatchOption, IfSome, IsNone, int_le, get_or, set, take, ◌++◌}
use Rattle.std.specs.List.{All, zip, flat_map}
use Rattle.std.proofs.Math.Nat.{mul-le-mul_left}
use Rattle.std.proofs.lemmas.List.{length-map, get_or-map, get_or-set_same, length-set, take-set, take_all, take_more}
use Rattle.std.proofs.lemmas.List.Elements.{All-head, All-tail, All-cons, All-nil}
use Rattle.std.proofs.lemmas.List.Sums.{sum_by-cons, sum_by-append}
use Rattle.escrow_units.specs.declared.security.Flow.{Flow}
use Rattle.day_sums.specs.Summed.{total_by}
use Rattle.payment_schedule.specs.Schedule.{flow_by}
use Rattle.payment_schedule.specs.declared.schedule.ScheduledPayment.{ScheduledPayment}
use Rattle.payment_schedule.proofs.ScheduleFacts.{flow-more}
use Rattle.offer_book.specs.declared.line.Line.{Line}
use Rattle.offer_book.specs.Book.{BookContents, IsBook, IsCashLine, IsSecurityLine, AreLines}
use Rattle.offer_book.specs.Portfolio.{IsPermitted, IsPermittedUnits, IsFirstShort, Meets, line_payments, par, payments}
use Rattle.offer_book.specs.Schedule.{kind_rate, schedule_of}
use Rattle.cash_table.specs.Receipts.{cents_by}
use Rattle.cash_table.specs.Reach.{AreAllShort, IsInReach, plan_of_most}
use Rattle.cash_table.proofs.CostFacts.{PairIsPermitted, permitted_few}
use Rattle.cash_table.proofs.PaymentFacts.{pair_payments}
use Rattle.offer_book.specs.declared.payment_days.PaymentDays.{PaymentDays}

-- choices, of which neither falls
pub choice_more : (t : Bool) (a b c d : ℕ) → a ≤ c → b ≤ d → (if t then a else b) ≤ (if t then c else d)
choice_more true a b c d le more = le
choice_more false a b c d le more = more

-- payments on the same days, none of them less
total_by_more : (t : ℤ) (f g : ScheduledPayment → Flow) (schedule : List ScheduledPayment) → ((p : ScheduledPayment) → (f p).day ≡ (g p).day) → ((p : ScheduledPayment) → (f p).cents.0 ≤ (g p).cents.0)
    → total_by t (map f schedule) ≤ total_by t (map g schedule)
total_by_more t f g [] same more = omega arith
total_by_more t f g (p ∷ ps) same more =
    let test = ap (λ (d : ℤ). int_le d t) (same p) in
    let here : cents_by t (f p) ≤ cents_by t (g p) = rw test (choice_more (int_le (g p).day t) (f p).cents.0 0 (g p).cents.0 0 (more p) (omega arith)) in
    omega (arith, sum_by-cons (cents_by t) (f p) (map f ps), sum_by-cons (cents_by t) (g p) (map g ps), here, total_by_more t f g ps same more)

-- more units of a line pay no less by any day
pub line_pays_more : (t : ℤ) (days : PaymentDays) (line : Line) (units more : ℕ) → units ≤ more → total_by t (line_payments days line units) ≤ total_by t (line_payments days line more)
line_pays_more t days line units more le =
    total_by_more t (flow_by (kind_rate line.kind) (par line units)) (flow_by (kind_rate line.kind) (par line more)) (schedule_of days line) (λ payment. refl)
    (λ payment. flow-more (kind_rate line.kind) (par line units) (par line more) payment (mul-le-mul_left line.step le))

abbrev most_of : Line → ℕ
most_of line = line.most

-- no permitted portfolio pays more by any day than the most of every line
most_pays : (t : ℤ) (days : PaymentDays) (lines : List Line) (plan : List ℕ) → length plan ≡ length lines → All PairIsPermitted (zip lines plan)
    → total_by t (flat_map (pair_payments days) (zip lines plan)) ≤ total_by t (flat_map (pair_payments days) (zip lines (map most_of lines)))
most_pays t days [] plan same permitted = omega arith
most_pays t days (line ∷ lines) [] same permitted = absurd (omega (arith, same))
most_pays t days (line ∷ lines) (units ∷ plan) same permitted =
    let few = permitted_few line units (All-head PairIsPermitted (line, units) (zip lines plan) permitted) in
    omega (
      arith,
      sum_by-append (cents_by t) (pair_payments days (line, units)) (flat_map (pair_payments days) (zip lines plan)),
      sum_by-append (cents_by t) (pair_payments days (line, line.most)) (flat_map (pair_payments days) (zip lines (map most_of lines))),
      line_pays_more t days line units line.most few,
      most_pays t days lines plan (omega (arith, same)) (All-tail PairIsPermitted (line, units) (zip lines plan) permitted),
    )

pub most_pays_no_less : (book : BookContents) (plan : List ℕ) (t : ℤ) → IsPermitted book plan → total_by t (payments book plan) ≤ total_by t (payments book (plan_of_most book))
most_pays_no_less book plan t permitted = most_pays t book.days book.lines plan permitted.same_length permitted.units

-- the most of a line is permitted
cash_most : (line : Line) → IsCashLine line → IsPermittedUnits line line.most
cash_most line cash = at line.most refl
  where
    at : (most : ℕ) → line.most ≡ most → IsPermittedUnits line most
    at zero is = inl refl
    at (suc most) is = inr (omega (arith, cash.least), omega (arith, is))

securities_most : (days : PaymentDays) (lines : List Line) → All (IsSecurityLine days) lines → All PairIsPermitted (zip lines (map most_of lines))
securities_most days [] securities = All-nil PairIsPermitted
securities_most days (line ∷ lines) securities =
    All-cons PairIsPermitted (line, line.most) (zip lines (map most_of lines)) (inr ((All-head (IsSecurityLine days) line lines securities).ordered, omega arith))
    (securities_most days lines (All-tail (IsSecurityLine days) line lines securities))

lines_most : (days : PaymentDays) (lines : List Line) → AreLines days lines → All PairIsPermitted (zip lines (map most_of lines))
lines_most days [] lines = absurd lines
lines_most days (cash ∷ securities) lines =
    All-cons PairIsPermitted (cash, cash.most) (zip securities (map most_of securities)) (cash_most cash lines.0) (securities_most days securities lines.1)

pub most_is_permitted : (book : BookContents) → IsBook book → IsPermitted book (plan_of_most book)
most_is_permitted book limits = record {
  same_length = length-map book.lines most_of;
  units = lines_most book.days book.lines limits.lines;
}

-- so the case is in reach exactly where the most of every line meets the needs
pub reach_tells : (book : BookContents) (found : Option ℤ) → IsBook book → MatchOption found (Meets book (plan_of_most book)) (IsFirstShort book (plan_of_most book)) → IsNone found ↔ IsInReach book
reach_tells book None limits tells = (
  (λ none. record { plan = plan_of_most book; permitted = most_is_permitted book limits; meets = tells }),
  (λ reach. refl),
)
reach_tells book (Some day) limits tells = (
  (λ none. cc),
  (λ reach. absurd (omega (arith, tells.short, reach.meets day, most_pays_no_less book reach.plan day reach.permitted))),
)

pub short_tells : (book : BookContents) (found : Option ℤ) → MatchOption found (Meets book (plan_of_most book)) (IsFirstShort book (plan_of_most book))
    → IfSome found (IsFirstShort book (plan_of_most book)) × IfSome found (AreAllShort book)
short_tells book None tells = (tt, tt)
short_tells book (Some day) tells = (tells, λ plan permitted. omega (arith, tells.short, most_pays_no_less book plan day permitted))

-- the most of one line more
pub most_more : (units : List ℕ) (lines : List Line) (place : ℕ) (line : Line) → place < length lines → length lines ≤ length units → line ≡ get_or lines place line
    → take place units ≡ take place (map most_of lines) → take (place + 1) (set units place line.most) ≡ take (place + 1) (map most_of lines)
most_more units lines place line within room at before =
    let here : get_or (map most_of lines) place 0 ≡ line.most = get_or-map most_of lines place line 0 within ∙ sym (ap most_of at) in
    let short : place < length (set units place line.most) = omega (arith, length-set units place line.most) in
    take_more (set units place line.most) place 0 short
    ∙ ap (λ (n : ℕ). take place (set units place line.most) ++ n ∷ []) (get_or-set_same units place line.most 0 (omega arith))
    ∙ ap (λ (front : List ℕ). front ++ line.most ∷ []) (take-set units place line.most ∙ before)
    ∙ ap (λ (n : ℕ). take place (map most_of lines) ++ n ∷ []) (sym here)
    ∙ sym (take_more (map most_of lines) place 0 (omega (arith, length-map lines most_of)))

pub most_all : (units : List ℕ) (lines : List Line) (place : ℕ) → place ≡ length lines → take place units ≡ take place (map most_of lines) → take (length lines) units ≡ map most_of lines
most_all units lines place «end» before =
    ap (λ (n : ℕ). take n units) (sym «end») ∙ before ∙ take_all place (map most_of lines) (omega (arith, length-map lines most_of))
