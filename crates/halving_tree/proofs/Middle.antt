-- The middle of the widest line is a proper place to split.
use Rattle.std.proofs.Common.{◌≡◌, ◌∙◌, inl, inr, ℕ, zero, suc, ◌+◌, ◌-◌, ◌*◌, ◌/◌, ◌<◌, ◌≤◌, List, [], ◌∷◌, length, get_or, refl, sym, ap, arith, true, false, Bool, ◌&&◌, ◌==◌}
use Rattle.std.proofs.Math.Nat.{le-mul_of_pos_right}
use Rattle.std.proofs.lemmas.Bool.Decides.{nat_tests}
use Rattle.std.specs.Prelude.{IsTrue, nat_le, nat_lt}
use Rattle.node_ranges.proofs.RangeFacts.{proper-at, tight-at, tight-length}
use Rattle.dual_bound.proofs.Soundness.{all-lines}
use Rattle.std.specs.List.{AllZip}
use Rattle.node_ranges.specs.Ranges.{IsTight, are_single, splits}
use Rattle.proof_tree.specs.declared.interval.Interval.{Interval}
use Rattle.offer_book.specs.Book.{AreLines, BookContents, IsBook, IsLine}
use Rattle.offer_book.specs.CaseBook.{cash_line}
use Rattle.offer_book.specs.declared.line.Line.{Line}
use Rattle.halving_tree.specs.Halving.{IsHalved, IsWidest, middle_at, width_at}
use Rattle.offer_book.specs.declared.payment_days.PaymentDays.{PaymentDays}

abbrev pub no_interval : Interval
no_interval = record { low = 0; high = 0 }

-- ranges that aren't single have an interval of several numbers
record Several (ranges : List Interval) : Type 0 where
  place : ℕ
  there : place < length ranges
  apart : (get_or ranges place no_interval).low ≡ (get_or ranges place no_interval).high → ⊥

several : (ranges : List Interval) → are_single ranges ≡ false → Several ranges
several [] more = absurd (cc)
several (interval ∷ ranges) more = by (interval.low == interval.high) refl (λ open_later. several ranges open_later)
  where
    by : (b : Bool) → (interval.low == interval.high) ≡ b → (are_single ranges ≡ false → Several ranges) → Several (interval ∷ ranges)
    by true same rest =
        let later = rest (sym (ap (λ (b : Bool). b && are_single ranges) same) ∙ more) in
        record { place = suc later.place; there = omega arith; apart = later.apart }
    by false other rest = record { place = 0; there = omega arith; apart = λ same. grind (arith, nat_tests) }

-- what a line of a book steps by
step-some : (days : PaymentDays) (line : Line) → IsLine days line → 0 < line.step
step-some days line is = elim is [
  | inl cash ↦ omega (arith, cash.step)
  | inr security ↦ omega (arith, security.step_at_least)
]

-- the widest of several intervals has some width
some-width : (book : BookContents) (ranges : List Interval) (line : ℕ) → IsBook book → AllZip IsTight book.lines ranges → are_single ranges ≡ false → IsWidest book.lines ranges line
    → (get_or ranges line no_interval).low < (get_or ranges line no_interval).high
some-width book ranges line limits tight more widest =
    let found = several ranges more in
    let place : ℕ = found.place in
    let own : Interval = get_or ranges place no_interval in
    let best : Interval = get_or ranges line no_interval in
    let same : length book.lines ≡ length ranges = tight-length book.lines ranges tight in
    let within : place < length book.lines = omega (arith, found.there, same) in
    let step : 0 < (get_or book.lines place (cash_line 0)).step = step-some book.days (get_or book.lines place (cash_line 0)) (all-lines book.days book.lines limits.lines place (cash_line 0) within) in
    let ordered = (tight-at book.lines ranges place (cash_line 0) no_interval tight found.there).ordered in
    let wide : own.high - own.low ≤ (own.high - own.low) * (get_or book.lines place (cash_line 0)).step = le-mul_of_pos_right (own.high - own.low) step in
    let apart : own.low ≡ own.high → ⊥ = found.apart in
    let some : 0 < width_at book.lines ranges line = omega (arith, wide, ordered, apart, widest.greatest place found.there) in
    not-zero (best.high - best.low) (get_or book.lines line (cash_line 0)).step best.low best.high refl some
  where
    not-zero : (wide step low high : ℕ) → wide ≡ high - low → 0 < wide * step → low < high
    not-zero zero step low high is some = absurd (omega arith)
    not-zero (suc wide) step low high is some = omega (arith, is)

widths : (low high at : ℕ) → low < high → at ≡ (low + high) / 2 → (low ≤ at) × (at < high)
widths low high at some is = (omega (arith, some, is), omega (arith, some, is))

pub halved-proper : (book : BookContents) (ranges : List Interval) (line at : ℕ) → IsBook book → AllZip IsTight book.lines ranges → are_single ranges ≡ false → IsHalved book.lines ranges line at
    → IsTrue (splits ranges line at)
halved-proper book ranges line at limits tight more is =
    let both = widths (get_or ranges line no_interval).low (get_or ranges line no_interval).high at (some-width book ranges line limits tight more is.widest) is.middle in
    proper-at ranges line at no_interval is.widest.there ∙ tests (get_or ranges line no_interval).low (get_or ranges line no_interval).high at both.0 both.1
  where
    tests : (low high at : ℕ) → low ≤ at → at < high → (nat_le low at && nat_lt at high) ≡ true
    tests low high at one other = grind (arith, nat_tests)

-- a book has lines
pub lines-some : (days : PaymentDays) (lines : List Line) → AreLines days lines → 0 < length lines
lines-some days [] are = absurd are
lines-some days (line ∷ lines) are = omega arith

-- the middle as the code has it
middle-same : (low high : ℕ) → low ≤ high → low + (high - low) / 2 ≡ (low + high) / 2
middle-same low high ordered = omega arith

pub middle-is : (lines : List Line) (ranges items : List Interval) (line place : ℕ) → AllZip IsTight lines ranges → line < length ranges → items ≡ ranges → place ≡ line
    → (get_or items place no_interval).low + ((get_or items place no_interval).high - (get_or items place no_interval).low) / 2 ≡ middle_at ranges line
middle-is lines ranges items line place tight few same at =
    let own : get_or items place no_interval ≡ get_or ranges line no_interval = (λ i. get_or (same i) (at i) no_interval) in
    let ordered = (tight-at lines ranges line (cash_line 0) no_interval tight few).ordered in
    ap (λ (x : Interval). x.low + (x.high - x.low) / 2) own ∙ middle-same (get_or ranges line no_interval).low (get_or ranges line no_interval).high ordered
