-- The rows of a made-up case, one after another.
use Rattle.std.proofs.Common.{◌≡◌, ◌∙◌, ℕ, zero, suc, ◌+◌, ◌-◌, ◌*◌, ◌/◌, ◌%◌, ◌<◌, ◌≤◌, List, [], ◌∷◌, ◌++◌, map, refl, ap, sym, arith, append_assoc, codes}
use Rattle.std.proofs.lemmas.Grind.{flat_map-append}
use Rattle.std.proofs.lemmas.List.{append-nil}
use Rattle.std.proofs.lemmas.List.FromFn.{map-range_with_len_more}
use Rattle.escrow_units.specs.DateText.{date_text}
use Rattle.escrow_units.specs.Digits.{fixed, last_digits}
use Rattle.case_maker.specs.Draws.{drawn, next_state, state_after}
use Rattle.case_maker.specs.Files.{date, greatest_offer_row, greatest_rate, lower_offer_row, issue_text, lower_rate, need, need_row, note_row, prices_text, rates_text, row, rows_up_to, text_of, thirty_seconds}

-- two digits
two_digits : (n : ℕ) → n < 100 → last_digits 2 n ≡ (48 + n / 10) ∷ (48 + n % 10) ∷ []
unfolding last_digits
two_digits n low = let tens : n / 10 % 10 ≡ n / 10 = omega arith in rw tens refl

-- two digits are pushed
pub push_two : (n : ℕ) (text one both : List ℕ) → n < 100 → one ≡ text ++ (48 + n / 10) ∷ [] → both ≡ one ++ (48 + n % 10) ∷ [] → both ≡ text ++ last_digits 2 n
push_two n text one both low first second =
    second ∙ ap (λ before. before ++ (48 + n % 10) ∷ []) first ∙ append_assoc text ((48 + n / 10) ∷ []) ((48 + n % 10) ∷ []) ∙ ap (λ digits. text ++ digits) (sym (two_digits n low))

-- the first state is the number
pub state_after-zero : (number : ℕ) → state_after number 0 ≡ number
unfolding state_after
state_after-zero number = refl

-- a draw goes on to the next state
pub state_after-next : (number draws next old new : ℕ) → old ≡ state_after number draws → new ≡ next_state old → next ≡ draws + 1 → new ≡ state_after number next
unfolding state_after
state_after-next number draws next old new before step e = let more : next ≡ suc draws = omega arith in rw (more, step, before) refl

-- the first draw
pub state_after-first : (number old new : ℕ) → old ≡ state_after number 0 → new ≡ next_state old → new ≡ state_after number 1
state_after-first number old new before step = state_after-next number 0 1 old new before step refl

-- the draws of a case
pub need-drawn : (number k state found : ℕ) → state ≡ state_after number (k + 1) → found ≡ drawn state 25_000_000 → 100_000_000 + found ≡ need number k
unfolding need
need-drawn number k state found at e = rw (e, at) refl

pub lower_rate-drawn : (number k state found greatest : ℕ) → state ≡ state_after number (k + 41) → found ≡ drawn state 50 → greatest ≡ greatest_rate number
    → greatest - 1 - found ≡ lower_rate number k
unfolding lower_rate
lower_rate-drawn number k state found greatest at e rate = rw (e, at, rate) refl

pub thirty_seconds-drawn : (number j state found : ℕ) → state ≡ state_after number (j + 81) → found ≡ drawn state 32 → found ≡ thirty_seconds number j
unfolding thirty_seconds
thirty_seconds-drawn number j state found at e = rw (e, at) refl

-- no rows
pub rows_up_to-none : (row : ℕ → List ℕ) → rows_up_to 0 row ≡ []
unfolding rows_up_to
rows_up_to-none row = refl

-- rows up to a number: those before it, and its own
pub rows_up_to-more : (row : ℕ → List ℕ) (before k : ℕ) → k ≡ before + 1 → rows_up_to k row ≡ rows_up_to before row ++ row k ∷ []
unfolding rows_up_to
rows_up_to-more row before k e = rw (e) (map-range_with_len_more row 1 before (before + 1) (omega arith))

joined : (text rows row : List ℕ) → text ++ rows ++ row ++ 10 ∷ [] ≡ text ++ (rows ++ (row ++ 10 ∷ [] ++ []))
joined text rows row = simp (append_assoc, append-nil) refl

-- the text of rows up to a number, and that of a row more
pub text_of-more : (row : ℕ → List ℕ) (k : ℕ) (text before after : List ℕ) → 1 ≤ k → before ≡ text ++ text_of (rows_up_to (k - 1) row) → after ≡ before ++ row k ++ 10 ∷ []
    → after ≡ text ++ text_of (rows_up_to (k + 1 - 1) row)
text_of-more row k text before after some so_far pushed =
    let same : k + 1 - 1 ≡ k = omega arith in
    let whole : rows_up_to (k + 1 - 1) row ≡ rows_up_to (k - 1) row ++ row k ∷ [] = rw same (rows_up_to-more row (k - 1) k (omega arith)) in
    pushed ∙ ap (λ front. front ++ row k ++ 10 ∷ []) so_far ∙ joined text (text_of (rows_up_to (k - 1) row)) (row k)
    ∙ ap (λ rows. text ++ rows) (sym (ap text_of whole ∙ flat_map-append (λ line. line ++ 10 ∷ []) (rows_up_to (k - 1) row) (row k ∷ [])))

-- the same, of a row by a figure that was drawn for it
pub text_of-drawn : (row : ℕ → ℕ → List ℕ) (figure : ℕ → ℕ) (k found : ℕ) (text before after : List ℕ) → found ≡ figure k → 1 ≤ k
    → before ≡ text ++ text_of (rows_up_to (k - 1) (λ j. row j (figure j))) → after ≡ before ++ row k found ++ 10 ∷ []
    → after ≡ text ++ text_of (rows_up_to (k + 1 - 1) (λ j. row j (figure j)))
text_of-drawn row figure k found text before after drawn some so_far pushed =
    text_of-more (λ j. row j (figure j)) k text before after some so_far (pushed ∙ ap (λ value. before ++ row k value ++ 10 ∷ []) drawn)

pieces : (text word a b c d e line : List ℕ)
    → text ++ word ++ a ++ b ++ c ++ d ++ (e ++ line) ≡ text ++ (word ++ (a ++ (b ++ ((c ++ d) ++ (e ++ []))))) ++ line
pieces text word a b c d e line = simp (append_assoc, append-nil) refl

-- the row of a note, part by part
pub note_row-parts : (text : List ℕ) (j coupon thirty_seconds : ℕ)
    → text ++ codes "note" ++ 44 ∷ date_text (date (2 * j)) ++ 44 ∷ fixed 2 coupon ++ 44 ∷ codes "102-" ++ last_digits 2 thirty_seconds ++ codes ",100000000\n"
    ≡ text ++ note_row j coupon thirty_seconds ++ 10 ∷ []
unfolding note_row
note_row-parts text j coupon thirty_seconds =
    pieces text (codes "note") (44 ∷ date_text (date (2 * j))) (44 ∷ fixed 2 coupon) (44 ∷ codes "102-") (last_digits 2 thirty_seconds) (44 ∷ codes "100000000") (10 ∷ [])

lines : (first word field rows more line : List ℕ)
    → (first ++ line) ++ (((word ++ (field ++ [])) ++ line) ++ (rows ++ more)) ≡ first ++ line ++ word ++ field ++ line ++ rows ++ more
lines first word field rows more line = simp (append_assoc, append-nil) refl

two_rows : (first word field : List ℕ) (xs ys : List (List ℕ))
    → text_of (first ∷ row word (field ∷ []) ∷ xs ++ ys) ≡ first ++ 10 ∷ [] ++ word ++ 44 ∷ field ++ 10 ∷ [] ++ text_of xs ++ text_of ys
two_rows first word field xs ys =
    ap (λ rest. (first ++ 10 ∷ []) ++ ((row word (field ∷ []) ++ 10 ∷ []) ++ rest)) (flat_map-append (λ line. line ++ 10 ∷ []) xs ys)
    ∙ lines first word (44 ∷ field) (text_of xs) (text_of ys) (10 ∷ [])

-- the texts of the files, part by part
pub issue_text-parts : (number : ℕ) → issue_text number
    ≡ codes "settle,2026-01-15\n" ++ text_of (rows_up_to 40 (λ k. need_row k (need number k))) ++ codes "restricted,6.00\nallowance,50000.00\nbudget,1000\n"
unfolding issue_text
issue_text-parts number =
    ap (λ rest. codes "settle,2026-01-15\n" ++ rest)
    (flat_map-append (λ line. line ++ 10 ∷ []) (rows_up_to 40 (λ k. need_row k (need number k))) (codes "restricted,6.00" ∷ codes "allowance,50000.00" ∷ codes "budget,1000" ∷ []))

pub rates_text-parts : (number : ℕ) → rates_text number
    ≡ codes "terms,1000,1\nrate,2026-02-14,2046-01-15" ++ 44 ∷ fixed 2 (greatest_rate number) ++ 10 ∷ []
    ++ text_of (rows_up_to 40 greatest_offer_row) ++ text_of (rows_up_to 40 (λ k. lower_offer_row k (lower_rate number k)))
unfolding rates_text
rates_text-parts number =
    two_rows (codes "terms,1000,1") (codes "rate,2026-02-14,2046-01-15") (fixed 2 (greatest_rate number)) (rows_up_to 40 greatest_offer_row)
    (rows_up_to 40 (λ k. lower_offer_row k (lower_rate number k)))

pub prices_text-parts : (number : ℕ) → prices_text number
    ≡ codes "terms,1000,1000\n" ++ text_of (rows_up_to 12 (λ j. note_row j (greatest_rate number) (thirty_seconds number j)))
unfolding prices_text
prices_text-parts number = refl

pub ruleset row_steps = (state_after-zero, state_after-first, rows_up_to-none, append-nil)

pub ruleset file_parts = (note_row-parts, issue_text-parts, rates_text-parts, prices_text-parts)
