-- What a portfolio pays by a day: its opening cash, and its securities, also where these are summed by day.
use Rattle.std.proofs.Common.{◌≡◌, ℕ, ◌+◌, ◌<◌, ◌≤◌, List, [], ◌∷◌, length, get_or, drop, arith, ℤ}
use Rattle.std.specs.List.{All, flat_map, zip}
use Rattle.std.proofs.lemmas.List.Elements.{All-head}
use Rattle.std.proofs.lemmas.List.Sums.{sum_by-append}
use Rattle.day_sums.specs.Summed.{total_by}
use Rattle.day_sums.proofs.Uniqueness.{keep-total_by}
use Rattle.offer_book.specs.Book.{AreLines, BookContents, IsBook}
use Rattle.offer_book.specs.Portfolio.{IsPermitted, line_payments, payments, security_flows}
use Rattle.offer_book.specs.declared.line.Line.{Line}
use Rattle.offer_book.specs.declared.payment_days.PaymentDays.{PaymentDays}
use Rattle.cash_table.specs.Receipts.{cents_by}
use Rattle.cash_table.proofs.CostFacts.{PairIsPermitted, permitted_few}
use Rattle.cash_table.proofs.PaymentFacts.{pair_payments}

first-apart : (days : PaymentDays) (lines : List Line) (plan : List ℕ) (d : Line) (t : ℤ) → 0 < length lines → length plan ≡ length lines
    → total_by t (flat_map (pair_payments days) (zip lines plan))
    ≡ total_by t (line_payments days (get_or lines 0 d) (get_or plan 0 0)) + total_by t (flat_map (pair_payments days) (drop 1 (zip lines plan)))
first-apart days [] plan d t some same = absurd (omega (arith, some))
first-apart days (line ∷ lines) [] d t some same = absurd (omega (arith, same))
first-apart days (line ∷ lines) (units ∷ plan) d t some same = sum_by-append (cents_by t) (pair_payments days (line, units)) (flat_map (pair_payments days) (zip lines plan))

pub paid-by : (book : BookContents) (plan : List ℕ) (d : Line) (t : ℤ) → 0 < length book.lines → length plan ≡ length book.lines
    → total_by t (payments book plan) ≡ total_by t (line_payments book.days (get_or book.lines 0 d) (get_or plan 0 0)) + total_by t (security_flows book plan)
paid-by book plan d t some same =
    omega (arith, first-apart book.days book.lines plan d t some same, keep-total_by t (flat_map (pair_payments book.days) (drop 1 (zip book.lines plan))))

-- a book has opening cash, and permitted units of it are within its most
pub some-line : (days : PaymentDays) (lines : List Line) → AreLines days lines → 0 < length lines
some-line days [] lines = absurd lines
some-line days (cash ∷ securities) lines = omega arith

first-within : (lines : List Line) (plan : List ℕ) (d : Line) → 0 < length lines → length plan ≡ length lines → All PairIsPermitted (zip lines plan) → get_or plan 0 0 ≤ (get_or lines 0 d).most
first-within [] plan d some same permitted = absurd (omega (arith, some))
first-within (line ∷ lines) [] d some same permitted = absurd (omega (arith, same))
first-within (line ∷ lines) (units ∷ plan) d some same permitted = permitted_few line units (All-head PairIsPermitted (line, units) (zip lines plan) permitted)

pub cash-within : (book : BookContents) (plan : List ℕ) (d : Line) → IsBook book → IsPermitted book plan → get_or plan 0 0 ≤ (get_or book.lines 0 d).most
cash-within book plan d limits permitted = first-within book.lines plan d (some-line book.days book.lines limits.lines) permitted.same_length permitted.units
