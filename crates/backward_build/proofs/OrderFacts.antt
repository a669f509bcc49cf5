-- Every line once, in some order.
use Rattle.std.proofs.Common.{◌≡◌, ℕ, ◌+◌, ◌^◌, ◌<◌, ◌≤◌, List, [], ◌∷◌, ◌++◌, map, length, get_or, refl, sym, ap, subst, ◌∙◌, arith}
use Rattle.std.specs.List.{All, range_with_len}
use Rattle.std.specs.List.Sorted.{IsPermutation}
use Rattle.std.proofs.lemmas.List.{get_or-map, length-map, map-append}
use Rattle.std.proofs.lemmas.List.FromFn.{get_or-range_with_len, length-range_with_len, map-range_with_len_more}
use Rattle.std.proofs.lemmas.List.Elements.{All-same}
use Rattle.std.proofs.lemmas.List.Sorted.{All-permutation, IsPermutation-sym}
use Rattle.offer_book.specs.Book.{BookContents, IsBook}
use Rattle.offer_book.specs.Coefficients.{cost_coefficients, pay_coefficients}
use Rattle.offer_book.specs.declared.coefficients.PayCoefficients.{PayCoefficients}
use Rattle.offer_book.specs.declared.line.Line.{Line}
use Rattle.cash_table.proofs.PaymentFacts.{all_lines}
use Rattle.dual_bound.proofs.Sizes.{IsSized, cost-sized, pays-sized, step-small}
use Rattle.backward_build.specs.declared.order.Candidate.{Candidate}

abbrev pub line_of : Candidate → ℕ
line_of candidate = candidate.line

map_same : (xs : List ℕ) → map (λ n. n) xs ≡ xs
map_same [] = refl
map_same (x ∷ xs) = ap (λ ys. x ∷ ys) (map_same xs)

range_more : (n : ℕ) → range_with_len 0 (n + 1) ≡ range_with_len 0 n ++ n ∷ []
range_more n =
    sym (map_same (range_with_len 0 (n + 1))) ∙ map-range_with_len_more (λ m. m) 0 n n (omega arith) ∙ ap (λ xs. xs ++ n ∷ []) (map_same (range_with_len 0 n))

-- one line more
pub lines_more : (items pushed : List Candidate) (candidate : Candidate) (n : ℕ) → candidate.line ≡ n → map line_of items ≡ range_with_len 0 n → pushed ≡ items ++ candidate ∷ [] → map line_of pushed ≡ range_with_len 0 (n + 1)
lines_more items pushed candidate n is before more =
    ap (map line_of) more ∙ map-append line_of items (candidate ∷ []) ∙ ap (λ xs. xs ++ candidate.line ∷ []) before ∙ ap (λ m. range_with_len 0 n ++ m ∷ []) is ∙ sym (range_more n)

-- each is a line of the book
pub lines_within : (n : ℕ) (items : List Candidate) → IsPermutation (range_with_len 0 n) (map line_of items) → All (λ candidate. candidate.line < n) items
lines_within n items moved =
    let range : All (λ m. m < n) (range_with_len 0 n) = λ k d within.
    let below : k < n = omega (arith, within, length-range_with_len 0 n) in
    omega (arith, get_or-range_with_len 0 n k d below) in
    let all = All-permutation (λ m. m < n) (range_with_len 0 n) (map line_of items) moved range in
    λ k d within. subst (λ m. m < n) (get_or-map line_of items k d 0 within) (all k 0 (omega (arith, within, length-map items line_of)))

-- and what holds of each of them holds of every line
pub every_line : (P : ℕ → Type 0) (n : ℕ) (items : List Candidate) → IsPermutation (range_with_len 0 n) (map line_of items) → All (λ candidate. P candidate.line) items → (line : ℕ) → line < n → P line
every_line P n items moved all line within =
    let mapped : All P (map line_of items) = λ k d here.
    let below : k < length items = omega (arith, here, length-map items line_of) in
    let some : Candidate = get_or items k (any items k below) in
    subst P (sym (get_or-map line_of items k some d below)) (all k some below) in
    let ranged = All-permutation P (map line_of items) (range_with_len 0 n) (IsPermutation-sym (range_with_len 0 n) (map line_of items) moved) mapped in
    let at : get_or (range_with_len 0 n) line 0 ≡ line = get_or-range_with_len 0 n line 0 within ∙ plus line in
    subst P at (ranged line 0 (omega (arith, within, length-range_with_len 0 n)))
  where
    plus : (m : ℕ) → 0 + m ≡ m
    plus m = omega arith

    any : (xs : List Candidate) (k : ℕ) → k < length xs → Candidate
    any [] k within = absurd (omega (arith, within))
    any (x ∷ xs) k within = x

-- what a unit of a line costs and pays, scaled, is within a 128-bit number by far
pub cost_small : (book : BookContents) (i : ℕ) (d : Line) → IsBook book → i < length book.lines → (cost_coefficients (get_or book.lines i d)).low ≤ 10 ^ 18
cost_small book i d limits within =
    let is = all_lines book.days book.lines limits.lines i d within in
    omega (arith, (cost-sized book.days (get_or book.lines i d) is).low, step-small book.days (get_or book.lines i d) is)

pub pays_small : (book : BookContents) (i : ℕ) (d : Line) (pays : List PayCoefficients) → IsBook book → i < length book.lines → pays ≡ pay_coefficients book.days (get_or book.lines i d) → All (λ pay. pay.high ≤ 10 ^ 18) pays
pays_small book i d pays limits within same =
    let is = all_lines book.days book.lines limits.lines i d within in
    let step = step-small book.days (get_or book.lines i d) is in
    let sized = All-same (IsSized (get_or book.lines i d).step) pays (pay_coefficients book.days (get_or book.lines i d)) same (pays-sized book.days (get_or book.lines i d) limits.settlement is) in
    λ k e here. omega (arith, (sized k e here).high, step)
