-- What the lines of a portfolio pay, one line after another.
use Rattle.std.proofs.Common.{◌≡◌, ℕ, ◌+◌, ◌*◌, ◌^◌, ◌≤◌, List, [], ◌∷◌, ◌++◌, length, take, refl, ap, subst, ◌∙◌, inl, inr, arith}
use Rattle.std.specs.List.{All, sum_by, flat_map, zip}
use Rattle.std.proofs.Math.Nat.{mul-le-mul_right}
use Rattle.std.proofs.lemmas.List.{append-nil, take_more}
use Rattle.std.proofs.lemmas.List.Concat.{flat_map-append}
use Rattle.std.proofs.lemmas.List.Elements.{All-head, All-tail, All-cons, All-nil, All-weaker, All-get_or}
use Rattle.std.proofs.lemmas.List.Sums.{sum_by-cons, sum_by-append, sum_by-le}
use Rattle.std.proofs.lemmas.Slice.Zip.{length-zip}
use Rattle.escrow_units.specs.Flows.{total}
use Rattle.escrow_units.specs.SlgsTerms.{IsSettlement}
use Rattle.escrow_units.specs.declared.security.Flow.{Flow}
use Rattle.offer_book.specs.declared.line.Line.{Line}
use Rattle.offer_book.specs.Book.{BookContents, IsSecurityLine, IsLine, AreLines, IsBook}
use Rattle.offer_book.specs.Portfolio.{IsPermitted, line_payments, payments}
use Rattle.offer_book.proofs.LineFacts.{line_payments-total}
use Rattle.cash_table.proofs.CostFacts.{PairIsPermitted, permitted_few}
use Rattle.cash_table.proofs.ZipFacts.{StandAt, in_zip, pair_at}
pub use Rattle.offer_book.proofs.SumFacts.{all_lines}
use Rattle.offer_book.specs.declared.payment_days.PaymentDays.{PaymentDays}

-- the payments of one line, as a function of its pair
abbrev pub pair_payments : PaymentDays → Line × ℕ → List Flow
pair_payments days p = line_payments days p.0 p.1

abbrev pub pair_total : PaymentDays → Line × ℕ → ℕ
pair_total days p = total (pair_payments days p)

-- the payments of one line more
pub payments_more : (days : PaymentDays) (lines : List Line) (plan : List ℕ) (i : ℕ) (line : Line) (units : ℕ) → StandAt lines plan i line units
    → flat_map (pair_payments days) (take (i + 1) (zip lines plan)) ≡ flat_map (pair_payments days) (take i (zip lines plan)) ++ pair_payments days (line, units)
payments_more days lines plan i line units at =
    let pairs = take i (zip lines plan) in
    let more = take_more (zip lines plan) i (line, units) (in_zip lines plan i line units at) in
    let joined : take (i + 1) (zip lines plan) ≡ pairs ++ (line, units) ∷ [] = more ∙ ap (λ p. pairs ++ p ∷ []) (pair_at lines plan i line units at) in
    ap (flat_map (pair_payments days)) joined ∙ flat_map-append (pair_payments days) pairs ((line, units) ∷ [])
    ∙ ap (λ fs. flat_map (pair_payments days) pairs ++ fs) (append-nil (pair_payments days (line, units)))

-- the sum of all payments, line by line
pub total-payments : (days : PaymentDays) (pairs : List (Line × ℕ)) → total (flat_map (pair_payments days) pairs) ≡ sum_by (pair_total days) pairs
total-payments days [] = refl
total-payments days (pair ∷ pairs) =
    omega (
      arith,
      sum_by-append (λ (f : Flow). f.cents.0) (pair_payments days pair) (flat_map (pair_payments days) pairs),
      total-payments days pairs,
      sum_by-cons (pair_total days) pair pairs,
    )

-- the line at a place of a book, and its permitted units
pub line_at : (days : PaymentDays) (lines : List Line) (plan : List ℕ) (i : ℕ) (line : Line) (units : ℕ) → All (IsLine days) lines → StandAt lines plan i line units → IsLine days line
line_at days lines plan i line units all at = rw (at.first line) (All-get_or (IsLine days) lines i line at.first_in all)

pub units_at : (lines : List Line) (plan : List ℕ) (i : ℕ) (line : Line) (units : ℕ) → All PairIsPermitted (zip lines plan) → StandAt lines plan i line units → units ≤ line.most
units_at lines plan i line units all at =
    let here = All-get_or PairIsPermitted (zip lines plan) i (line, units) (in_zip lines plan i line units at) all in
    permitted_few line units (subst PairIsPermitted (pair_at lines plan i line units at) here)

-- all payments of a permitted portfolio are within a 64-bit number by far
pairs_total : (days : PaymentDays) (lines : List Line) (plan : List ℕ) → IsSettlement days.settle → All (IsLine days) lines → All PairIsPermitted (zip lines plan) → All (λ p. pair_total days p ≤ 17 * 10 ^ 12) (zip lines plan)
pairs_total days [] plan h lines permitted = All-nil (λ p. pair_total days p ≤ 17 * 10 ^ 12)
pairs_total days (line ∷ lines) [] h all permitted = All-nil (λ p. pair_total days p ≤ 17 * 10 ^ 12)
pairs_total days (line ∷ lines) (units ∷ plan) h all permitted =
    All-cons (λ p. pair_total days p ≤ 17 * 10 ^ 12) (line, units) (zip lines plan)
    (line_payments-total days line units h (All-head (IsLine days) line lines all) (permitted_few line units (All-head PairIsPermitted (line, units) (zip lines plan) permitted)))
    (pairs_total days lines plan h (All-tail (IsLine days) line lines all) (All-tail PairIsPermitted (line, units) (zip lines plan) permitted))

pub total-at_most : (days : PaymentDays) (lines : List Line) (plan : List ℕ) → IsSettlement days.settle → All (IsLine days) lines → length lines ≤ 513 → All PairIsPermitted (zip lines plan)
    → total (flat_map (pair_payments days) (zip lines plan)) ≤ 10 ^ 16
total-at_most days lines plan h all few permitted =
    let each = sum_by-le (pair_total days) (17 * 10 ^ 12) (zip lines plan) (pairs_total days lines plan h all permitted) in
    let count : length (zip lines plan) ≤ 513 = omega (arith, length-zip lines plan) in
    omega (arith, total-payments days (zip lines plan), each, mul-le-mul_right (17 * 10 ^ 12) count)

pub count_lines : (days : PaymentDays) (lines : List Line) → AreLines days lines → length lines ≤ 513
count_lines days [] lines = absurd lines
count_lines days (cash ∷ securities) lines = omega (arith, lines.2)

pub payments_at_most : (book : BookContents) (plan : List ℕ) → IsBook book → IsPermitted book plan → total (payments book plan) ≤ 10 ^ 16
payments_at_most book plan limits permitted =
    total-at_most book.days book.lines plan limits.settlement (all_lines book.days book.lines limits.lines) (count_lines book.days book.lines limits.lines) permitted.units
