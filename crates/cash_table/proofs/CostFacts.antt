-- What permitted portfolios cost.
use Rattle.std.proofs.Common.{◌≡◌, ℕ, ◌+◌, ◌*◌, ◌^◌, ◌≤◌, List, [], ◌∷◌, length, get_or, drop, refl, inl, inr, arith}
use Rattle.std.specs.List.{All, sum_by, zip}
use Rattle.std.proofs.lemmas.List.Elements.{All-head, All-tail, All-cons, All-nil}
use Rattle.std.proofs.lemmas.List.Sums.{sum_by-cons, sum_by-le}
use Rattle.std.proofs.lemmas.Slice.Zip.{length-zip}
use Rattle.std.proofs.Math.Nat.{mul-le-mul_right}
use Rattle.offer_book.specs.declared.line.Line.{Line}
use Rattle.offer_book.specs.Book.{BookContents, IsSecurityLine, AreLines, IsBook}
use Rattle.offer_book.specs.Portfolio.{IsPermittedUnits, IsPermitted, line_cost, cost, security_cost}
use Rattle.offer_book.proofs.LineFacts.{cash-at_most, cash-cost, security-at_most}
use Rattle.offer_book.specs.declared.payment_days.PaymentDays.{PaymentDays}

-- the cost of one line, as a function of its pair
abbrev pub pair_cost : Line × ℕ → ℕ
pair_cost p = line_cost p.0 p.1

abbrev pub PairIsPermitted : Line × ℕ → Type 0
PairIsPermitted p = IsPermittedUnits p.0 p.1

-- permitted units are at most the most of the line
pub permitted_few : (line : Line) (units : ℕ) → IsPermittedUnits line units → units ≤ line.most
permitted_few line units permitted = elim permitted [ inl none ↦ omega (arith, none) | inr some ↦ some.1 ]

securities_at_most : (days : PaymentDays) (lines : List Line) (plan : List ℕ) → All (IsSecurityLine days) lines → All PairIsPermitted (zip lines plan) → All (λ p. pair_cost p ≤ 316 * 10 ^ 9) (zip lines plan)
securities_at_most days [] plan securities permitted = All-nil (λ p. pair_cost p ≤ 316 * 10 ^ 9)
securities_at_most days (line ∷ lines) [] securities permitted = All-nil (λ p. pair_cost p ≤ 316 * 10 ^ 9)
securities_at_most days (line ∷ lines) (units ∷ plan) securities permitted =
    All-cons (λ p. pair_cost p ≤ 316 * 10 ^ 9) (line, units) (zip lines plan)
    (security-at_most days line units (All-head (IsSecurityLine days) line lines securities) (permitted_few line units (All-head PairIsPermitted (line, units) (zip lines plan) permitted)))
    (securities_at_most days lines plan (All-tail (IsSecurityLine days) line lines securities) (All-tail PairIsPermitted (line, units) (zip lines plan) permitted))

-- all that a permitted portfolio costs is within a 64-bit number by far
pub lines_cost_at_most : (days : PaymentDays) (lines : List Line) (plan : List ℕ) → AreLines days lines → All PairIsPermitted (zip lines plan) → sum_by pair_cost (zip lines plan) ≤ 172 * 10 ^ 12
lines_cost_at_most days [] plan lines permitted = absurd lines
lines_cost_at_most days (cash ∷ securities) [] lines permitted = omega arith
lines_cost_at_most days (cash ∷ securities) (units ∷ plan) lines permitted =
    let first = cash-at_most cash units lines.0 (permitted_few cash units (All-head PairIsPermitted (cash, units) (zip securities plan) permitted)) in
    let rest = sum_by-le pair_cost (316 * 10 ^ 9) (zip securities plan) (securities_at_most days securities plan lines.1 (All-tail PairIsPermitted (cash, units) (zip securities plan) permitted)) in
    let sum = sum_by-cons pair_cost (cash, units) (zip securities plan) in
    let count : length (zip securities plan) ≤ 512 = omega (arith, length-zip securities plan, lines.2) in
    omega (arith, first, rest, sum, mul-le-mul_right (316 * 10 ^ 9) count)

pub drop-zip : {A B : Type 0} (xs : List A) (ys : List B) → zip (drop 1 xs) (drop 1 ys) ≡ drop 1 (zip xs ys)
drop-zip [] [] = refl
drop-zip [] (y ∷ ys) = refl
drop-zip (x ∷ []) [] = refl
drop-zip (x ∷ w ∷ xs) [] = refl
drop-zip (x ∷ xs) (y ∷ ys) = refl

-- the cost is opening cash and the cost of the securities
cost_parts : (days : PaymentDays) (lines : List Line) (plan : List ℕ) → AreLines days lines → length plan ≡ length lines → sum_by pair_cost (zip lines plan) ≡ get_or plan 0 0 + sum_by pair_cost (drop 1 (zip lines plan))
cost_parts days [] plan lines same = absurd lines
cost_parts days (cash ∷ securities) [] lines same = absurd (omega (arith, same))
cost_parts days (cash ∷ securities) (units ∷ plan) lines same =
    let sum = sum_by-cons pair_cost (cash, units) (zip securities plan) in
    omega (arith, sum, cash-cost cash units lines.0)

pub cost_is : (book : BookContents) (plan : List ℕ) → IsBook book → IsPermitted book plan → cost book plan ≡ get_or plan 0 0 + security_cost book plan
cost_is book plan limits permitted = cost_parts book.days book.lines plan limits.lines permitted.same_length

pub cost_at_most : (book : BookContents) (plan : List ℕ) → IsBook book → IsPermitted book plan → cost book plan ≤ 172 * 10 ^ 12
cost_at_most book plan limits permitted = lines_cost_at_most book.days book.lines plan limits.lines permitted.units

securities_cost_at_most : (days : PaymentDays) (lines : List Line) (plan : List ℕ) → AreLines days lines → All PairIsPermitted (zip lines plan) → sum_by pair_cost (drop 1 (zip lines plan)) ≤ 162 * 10 ^ 12
securities_cost_at_most days [] plan lines permitted = absurd lines
securities_cost_at_most days (cash ∷ securities) [] lines permitted = omega arith
securities_cost_at_most days (cash ∷ securities) (units ∷ plan) lines permitted =
    let rest = sum_by-le pair_cost (316 * 10 ^ 9) (zip securities plan) (securities_at_most days securities plan lines.1 (All-tail PairIsPermitted (cash, units) (zip securities plan) permitted)) in
    let count : length (zip securities plan) ≤ 512 = omega (arith, length-zip securities plan, lines.2) in
    omega (arith, rest, mul-le-mul_right (316 * 10 ^ 9) count)

pub security_cost_at_most : (book : BookContents) (plan : List ℕ) → IsBook book → IsPermitted book plan → security_cost book plan ≤ 162 * 10 ^ 12
security_cost_at_most book plan limits permitted = securities_cost_at_most book.days book.lines plan limits.lines permitted.units

pub lines_present : (book : BookContents) → IsBook book → 1 ≤ length book.lines
lines_present book limits = present book.days book.lines limits.lines
  where
    present : (days : PaymentDays) (lines : List Line) → AreLines days lines → 1 ≤ length lines
    present days [] lines = absurd lines
    present days (cash ∷ securities) lines = omega arith
