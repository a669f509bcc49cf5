-- Plans with fewer units of a line: what they pay and cost, and whether they are permitted.
use Rattle.std.proofs.Common.{◌≡◌, ℕ, zero, suc, ◌+◌, ◌*◌, ◌<◌, ◌≤◌, List, [], ◌∷◌, length, get_or, set, subst, ◌∙◌, inl, inr, arith, ℤ}
use Rattle.std.specs.List.{All, flat_map, sum_by, zip}
use Rattle.std.proofs.Math.Nat.{mul-le-mul_left, mul-le-mul_right}
use Rattle.std.proofs.lemmas.Bool.{cases_eq}
use Rattle.std.proofs.lemmas.List.{get_or-set_other, get_or-set_same, length-set}
use Rattle.std.proofs.lemmas.List.Elements.{All-head, All-tail, All-cons, All-nil}
use Rattle.std.proofs.lemmas.List.Sums.{sum_by-cons, sum_by-append}
use Rattle.std.proofs.lemmas.Slice.Zip.{length-zip, get_or-zip}
use Rattle.day_sums.specs.Summed.{total_by}
use Rattle.market_notes.specs.NoteFlows.{accrual_of, accrued_interest}
use Rattle.market_notes.specs.declared.note.Note.{Note}
use Rattle.offer_book.specs.declared.line.LineKind.{LineKind}
use Rattle.offer_book.specs.declared.line.LineKind.TheVariants.{Cash, Market, Security}
use Rattle.offer_book.specs.declared.line.Line.{Line}
use Rattle.offer_book.specs.Book.{BookContents}
use Rattle.offer_book.specs.Portfolio.{IsPermitted, IsPermittedUnits, cost, kind_cost, line_cost, line_payments, par, payments}
use Rattle.cash_table.specs.Receipts.{cents_by}
use Rattle.cash_table.proofs.CostFacts.{PairIsPermitted, pair_cost}
use Rattle.cash_table.proofs.PaymentFacts.{pair_payments}
use Rattle.payment_schedule.proofs.ScheduleFacts.{near-more}
use Rattle.cash_table.proofs.ReachFacts.{line_pays_more}
use Rattle.backward_build.specs.Trim.{HasNoMore}
use Rattle.offer_book.specs.declared.payment_days.PaymentDays.{PaymentDays}

-- where a line has other units, what the others pay stays as it is
lines_exchange : (t : ℤ) (days : PaymentDays) (lines : List Line) (plan : List ℕ) (i units : ℕ) (d : Line) → i < length lines → length plan ≡ length lines
    → total_by t (flat_map (pair_payments days) (zip lines (set plan i units))) + total_by t (line_payments days (get_or lines i d) (get_or plan i 0))
    ≡ total_by t (flat_map (pair_payments days) (zip lines plan)) + total_by t (line_payments days (get_or lines i d) units)
lines_exchange t days [] plan i units d within same = absurd (omega (arith, within))
lines_exchange t days (line ∷ lines) [] i units d within same = absurd (omega (arith, same))
lines_exchange t days (line ∷ lines) (own ∷ plan) zero units d within same =
    omega (
      arith,
      sum_by-append (cents_by t) (pair_payments days (line, units)) (flat_map (pair_payments days) (zip lines plan)),
      sum_by-append (cents_by t) (pair_payments days (line, own)) (flat_map (pair_payments days) (zip lines plan)),
    )
lines_exchange t days (line ∷ lines) (own ∷ plan) (suc i) units d within same =
    omega (
      arith,
      sum_by-append (cents_by t) (pair_payments days (line, own)) (flat_map (pair_payments days) (zip lines (set plan i units))),
      sum_by-append (cents_by t) (pair_payments days (line, own)) (flat_map (pair_payments days) (zip lines plan)),
      lines_exchange t days lines plan i units d (omega (arith, within)) (omega (arith, same)),
    )

pub payments_exchange : (t : ℤ) (book : BookContents) (plan : List ℕ) (i units : ℕ) (d : Line) → i < length book.lines → length plan ≡ length book.lines
    → total_by t (payments book (set plan i units)) + total_by t (line_payments book.days (get_or book.lines i d) (get_or plan i 0))
    ≡ total_by t (payments book plan) + total_by t (line_payments book.days (get_or book.lines i d) units)
payments_exchange t book plan i units d within same = lines_exchange t book.days book.lines plan i units d within same

-- with no more units of any line no more is paid by any day
lines_pay_more : (t : ℤ) (days : PaymentDays) (lines : List Line) (plan other : List ℕ) → length plan ≡ length lines → length other ≡ length lines → HasNoMore plan other
    → total_by t (flat_map (pair_payments days) (zip lines plan)) ≤ total_by t (flat_map (pair_payments days) (zip lines other))
lines_pay_more t days [] plan other same too less = omega arith
lines_pay_more t days (line ∷ lines) [] other same too less = absurd (omega (arith, same))
lines_pay_more t days (line ∷ lines) (units ∷ plan) [] same too less = absurd (omega (arith, too))
lines_pay_more t days (line ∷ lines) (units ∷ plan) (more ∷ other) same too less =
    omega (
      arith,
      sum_by-append (cents_by t) (pair_payments days (line, units)) (flat_map (pair_payments days) (zip lines plan)),
      sum_by-append (cents_by t) (pair_payments days (line, more)) (flat_map (pair_payments days) (zip lines other)),
      line_pays_more t days line units more (less 0),
      lines_pay_more t days lines plan other (omega (arith, same)) (omega (arith, too)) (λ k. less (suc k)),
    )

pub pays_more : (t : ℤ) (book : BookContents) (plan other : List ℕ) → length plan ≡ length book.lines → length other ≡ length book.lines → HasNoMore plan other
    → total_by t (payments book plan) ≤ total_by t (payments book other)
pays_more t book plan other same too less = lines_pay_more t book.days book.lines plan other same too less

-- nor does it cost more
accrued_more : (note : Note) (face more : ℕ) → face ≤ more → accrued_interest note face ≤ accrued_interest note more
unfolding accrued_interest
accrued_more note face more le =
    near-more (face * note.coupon.0 * (accrual_of note).parts) (100_000 * (accrual_of note).year) (more * note.coupon.0 * (accrual_of note).parts)
    (mul-le-mul_right (accrual_of note).parts (mul-le-mul_right note.coupon.0 le))

kind_costs_more : (kind : LineKind) (amount more : ℕ) → amount ≤ more → kind_cost kind amount ≤ kind_cost kind more
kind_costs_more Cash amount more le = le
kind_costs_more (Security slgs) amount more le = le
kind_costs_more (Market note) amount more le =
    omega (arith, near-more (amount * note.price.0) (10_000_000_000) (more * note.price.0) (mul-le-mul_right note.price.0 le), accrued_more note amount more le)

line_costs_more : (line : Line) (units more : ℕ) → units ≤ more → line_cost line units ≤ line_cost line more
line_costs_more line units more le = kind_costs_more line.kind (par line units) (par line more) (mul-le-mul_left line.step le)

lines_cost_more : (lines : List Line) (plan other : List ℕ) → length plan ≡ length lines → length other ≡ length lines → HasNoMore plan other
    → sum_by pair_cost (zip lines plan) ≤ sum_by pair_cost (zip lines other)
lines_cost_more [] plan other same too less = omega arith
lines_cost_more (line ∷ lines) [] other same too less = absurd (omega (arith, same))
lines_cost_more (line ∷ lines) (units ∷ plan) [] same too less = absurd (omega (arith, too))
lines_cost_more (line ∷ lines) (units ∷ plan) (more ∷ other) same too less =
    omega (
      arith,
      sum_by-cons pair_cost (line, units) (zip lines plan),
      sum_by-cons pair_cost (line, more) (zip lines other),
      line_costs_more line units more (less 0),
      lines_cost_more lines plan other (omega (arith, same)) (omega (arith, too)) (λ k. less (suc k)),
    )

pub costs_more : (book : BookContents) (plan other : List ℕ) → length plan ≡ length book.lines → length other ≡ length book.lines → HasNoMore plan other → cost book plan ≤ cost book other
costs_more book plan other same too less = lines_cost_more book.lines plan other same too less

-- permitted units of a line in place of others
lines_permit : (lines : List Line) (plan : List ℕ) (i units : ℕ) → All PairIsPermitted (zip lines plan) → ((d : Line) → IsPermittedUnits (get_or lines i d) units) → All PairIsPermitted (zip lines (set plan i units))
lines_permit [] plan i units permitted own = All-nil PairIsPermitted
lines_permit (line ∷ lines) [] i units permitted own = All-nil PairIsPermitted
lines_permit (line ∷ lines) (other ∷ plan) zero units permitted own =
    All-cons PairIsPermitted (line, units) (zip lines plan) (own line) (All-tail PairIsPermitted (line, other) (zip lines plan) permitted)
lines_permit (line ∷ lines) (other ∷ plan) (suc i) units permitted own =
    All-cons PairIsPermitted (line, other) (zip lines (set plan i units)) (All-head PairIsPermitted (line, other) (zip lines plan) permitted)
    (lines_permit lines plan i units (All-tail PairIsPermitted (line, other) (zip lines plan) permitted) own)

pub permitted-set : (book : BookContents) (plan : List ℕ) (i units : ℕ) → IsPermitted book plan → ((d : Line) → IsPermittedUnits (get_or book.lines i d) units) → IsPermitted book (set plan i units)
permitted-set book plan i units permitted own = record {
  same_length = length-set plan i units ∙ permitted.same_length;
  units = lines_permit book.lines plan i units permitted.units own;
}

-- the units of a line of a permitted plan are permitted
pub permitted-at : (book : BookContents) (plan : List ℕ) (i : ℕ) → i < length book.lines → IsPermitted book plan → (d : Line) → IsPermittedUnits (get_or book.lines i d) (get_or plan i 0)
permitted-at book plan i within permitted d =
    let same = permitted.same_length in
    let pair = get_or-zip book.lines plan i (d, 0) within (omega arith) in
    subst PairIsPermitted pair (permitted.units i (d, 0) (omega (arith, length-zip book.lines plan)))

-- fewer units of a line
pub no_more-set : (plan : List ℕ) (i units : ℕ) → i < length plan → units ≤ get_or plan i 0 → HasNoMore (set plan i units) plan
no_more-set plan i units within less = λ k. elim (cases_eq k i) [
  | inl same ↦ (let at = get_or-set_same plan i units 0 within in rw same (omega (arith, at)))
  | inr other ↦ (let at = get_or-set_other plan i k units 0 other in omega (arith, at))
]

-- and the same units of a line in both
pub no_more-both : (plan other : List ℕ) (i units : ℕ) → i < length plan → i < length other → HasNoMore plan other → HasNoMore (set plan i units) (set other i units)
no_more-both plan other i units within too less = λ k. elim (cases_eq k i) [
  | inl same ↦ (let a = get_or-set_same plan i units 0 within in
      let b = get_or-set_same other i units 0 too in
      rw same (omega (arith, a, b)))
  | inr away ↦ omega (arith, get_or-set_other plan i k units 0 away, get_or-set_other other i k units 0 away, less k)
]
