-- How many bonds an issue file has: at most one a row, and its first row has none.
use Rattle.std.proofs.Common.{◌≡◌, refl, subst, arith, ℕ, ◌+◌, ◌≤◌, List, [], ◌∷◌, ◌++◌, length, length-append, Bool, true, false, cond}
use Rattle.std.specs.Prelude.{Some, Result, Ok, Err, if◌then◌else◌, codes, int_le, is_some, ℤ, pos, ◌==◌}
use Rattle.std.specs.List.{list_any}
use Rattle.std.specs.Ordering.{int_eq}
use Rattle.csv.specs.Reading.{default_config, is_bom, strip_bom}
use Rattle.csv.specs.declared.parser.State.TheVariants.{StartRecord}
use Rattle.escrow_desk.specs.Rows.{rows_of}
use Rattle.escrow_units.specs.Calendar.{years_after_of}
use Rattle.escrow_desk.specs.declared.refusal.FileKind.{FileKind}
use Rattle.escrow_desk.specs.declared.refusal.FileKind.TheVariants as file
use Rattle.escrow_desk.specs.declared.refusal.Refusal.{Refusal}
use Rattle.escrow_desk.specs.declared.refusal.RefusalKind.{RefusalKind}
use Rattle.escrow_desk.specs.declared.refusal.RefusalKind.TheVariants as kind
use Rattle.escrow_desk.proofs.RecordFacts.{length-records_from}
use Rattle.row_fields.specs.RowForm.{Row, field_of, is_word, answer_of_row, with_rows, ◌>>=◌}
use Rattle.issue_schedule.specs.IssueForm.{bare_read, bond_row_of, budget_row_of, call_row_of, cents_row_of, closed_row_of, flow_row_of, price_row_of, settle_row_of, yield_row_of, draft_of, finished_of, first_settle_of, issue_of, issue_with_of, restricted_of, with_read_row, with_row, within_limits_of}
use Rattle.issue_schedule.specs.declared.issue.Issue.{Issue}
use Rattle.issue_schedule.specs.declared.issue.Restricted.{Restricted}
use Rattle.issue_schedule.specs.declared.issue.Restricted.TheVariants.{Given}

-- what was read of an issue file so far: only its own crate names this type
abbrev type_of : {A : Type 0} → A → Type 0
type_of {A} a = A

abbrev Draft : Type 0
Draft = type_of (bare_read (pos 0))

-- how many bonds it has
abbrev bonds_of : Draft → ℕ
bonds_of read = length (issue_with_of read (Given (record { 0 = 0 }))).bonds

-- what was read so far has at most so many bonds
abbrev ReadHasFew : {E : Type 0} → ℕ → Result Draft E → Type 0
ReadHasFew n (Ok read) = bonds_of read ≤ n
ReadHasFew n (Err refused) = Unit {0}

few-then : (n : ℕ) (refuses : Bool) (refused : RefusalKind) (next : Draft) → bonds_of next ≤ n + 1
    → ReadHasFew (n + 1) (if refuses then Err refused else Ok next)
few-then n true refused next few = tt
few-then n false refused next few = few

-- no bond is added
few-kept : (n : ℕ) (refuses : Bool) (refused : RefusalKind) (next : Draft) → bonds_of next ≡ n
    → ReadHasFew (n + 1) (if refuses then Err refused else Ok next)
few-kept n refuses refused next same = few-then n refuses refused next (omega (arith, same))

few-kept_late : (n : ℕ) (refuses again : Bool) (refused other : RefusalKind) (next : Draft) → bonds_of next ≡ n
    → ReadHasFew (n + 1) (if refuses then Err refused else (if again then Err other else Ok next))
few-kept_late n true again refused other next same = tt
few-kept_late n false again refused other next same = few-kept n again other next same

-- one is added
few-added : (n : ℕ) (refuses : Bool) (refused : RefusalKind) (next : Draft) → bonds_of next ≡ n + 1
    → ReadHasFew (n + 1) (if refuses then Err refused else Ok next)
few-added n refuses refused next same = few-then n refuses refused next (omega (arith, same))

-- what a row says is joined to what was read, by one way of two
few-either : {R : Type 0} (n : ℕ) (test : Bool) (this that : Result R RefusalKind) (join : R → Result Draft RefusalKind) → ReadHasFew n (this >>= join)
    → ReadHasFew n (that >>= join) → ReadHasFew n ((if test then this else that) >>= join)
few-either n true this that join first second = first
few-either n false this that join first second = second

few-said : {T R : Type 0} (n : ℕ) (said : Result T RefusalKind) (name : T → R) (join : R → Result Draft RefusalKind)
    → ((value : T) → ReadHasFew n (join (name value))) → ReadHasFew n ((said >>= (λ value. Ok (name value))) >>= join)
few-said n (Ok value) name join few = few value
few-said n (Err refused) name join few = tt

-- a way to add rows that adds at most one bond a row
abbrev AddsFew : (Draft → ℕ → Row → Result Draft RefusalKind) → Type 0
AddsFew add = (read : Draft) (number : ℕ) (row : Row) → ReadHasFew (bonds_of read + 1) (add read number row)

row-adds : AddsFew with_row
row-adds read number row =
    let n = bonds_of read + 1 in
    let join = with_read_row read in
    few-either n (is_word (codes "settle") (field_of row 0)) _ _ join (few-said n (settle_row_of row) _ join (λ x. tt))
    (few-either n (is_word (codes "call") (field_of row 0)) _ _ join (few-said n (call_row_of (years_after_of read.settle 40) row) _ join (λ x. few-kept_late (bonds_of read) (is_some read.call) (int_le x.day read.settle) kind.Repeated kind.DateOrder (record read { call = Some x }) refl))
    (few-either n (is_word (codes "bond") (field_of row 0)) _ _ join (few-said n (bond_row_of (years_after_of read.settle 40) row) _ join (λ x. few-added (bonds_of read) _ _ _ (length-append (issue_with_of read (Given (record { 0 = 0 }))).bonds (x ∷ []))))
    (few-either n (is_word (codes "need") (field_of row 0)) _ _ join (few-said n (flow_row_of (years_after_of read.settle 40) row) _ join (λ x. few-kept (bonds_of read) _ _ _ refl))
    (few-either n (is_word (codes "cash") (field_of row 0)) _ _ join (few-said n (cents_row_of row) _ join (λ x. few-kept (bonds_of read) _ _ _ refl))
    (few-either n (is_word (codes "restricted") (field_of row 0)) _ _ join (few-said n (yield_row_of row) _ join (λ x. few-kept (bonds_of read) _ _ _ refl))
    (few-either n (is_word (codes "price") (field_of row 0)) _ _ join (few-said n (price_row_of number row) _ join (λ x. few-kept (bonds_of read) _ _ _ refl))
    (few-either n (is_word (codes "pay") (field_of row 0)) _ _ join (few-said n (flow_row_of (years_after_of read.settle 40) row) _ join (λ x. few-kept_late (bonds_of read) (is_some read.restricted) (int_le x.day read.settle) kind.Repeated kind.DateOrder (record read { pays = read.pays ++ x ∷ [] }) refl))
    (few-either n (is_word (codes "allowance") (field_of row 0)) _ _ join (few-said n (cents_row_of row) _ join (λ x. few-kept (bonds_of read) _ _ _ refl))
    (few-either n (is_word (codes "budget") (field_of row 0)) _ _ join (few-said n (budget_row_of row) _ join (λ x. few-kept (bonds_of read) _ _ _ refl))
    (few-either n (is_word (codes "weekends") (field_of row 0)) _ _ join (few-either n (length row == 1) _ _ join (few-kept (bonds_of read) read.weekends kind.Repeated (record read { weekends = true }) refl) tt)
    (few-either n (is_word (codes "closed") (field_of row 0)) _ _ join (few-said n (closed_row_of (years_after_of read.settle 40) row) _ join (λ x. few-kept_late (bonds_of read) (int_le x read.settle) (list_any (int_eq x) read.closed) kind.DateOrder kind.Repeated (record read { closed = read.closed ++ x ∷ [] }) refl))
    tt)))))))))))

few-more : (kind : FileKind) (number m n : ℕ) (answer : Result Draft RefusalKind) (next : Draft → Result Draft Refusal) → ReadHasFew m answer
    → ((read : Draft) → bonds_of read ≤ m → ReadHasFew n (next read)) → ReadHasFew n (answer_of_row kind number answer >>= next)
few-more kind number m n (Ok read) next few rest = rest read few
few-more kind number m n (Err refused) next few rest = tt

few-le : {E : Type 0} (m n : ℕ) (answer : Result Draft E) → m ≤ n → ReadHasFew m answer → ReadHasFew n answer
few-le m n (Ok read) le few = omega (arith, le, few)
few-le m n (Err refused) le few = tt

few-rows : (add : Draft → ℕ → Row → Result Draft RefusalKind) → AddsFew add → (read : Draft) (number : ℕ) (rows : List Row)
    → ReadHasFew (bonds_of read + length rows) (with_rows file.Issue add read number rows)
few-rows add adds read number [] = omega arith
few-rows add adds read number (row ∷ rows) =
    few-more file.Issue number (bonds_of read + 1) (bonds_of read + length (row ∷ rows)) (add read number row) (λ more. with_rows file.Issue add more (number + 1) rows)
    (adds read number row)
    (λ more few. few-le (bonds_of more + length rows) (bonds_of read + length (row ∷ rows)) (with_rows file.Issue add more (number + 1) rows) (omega (arith, few)) (few-rows add adds more (number + 1) rows))

few-settled : (n : ℕ) (settle : Result ℤ Refusal) (next : ℤ → Result Draft Refusal) → ((day : ℤ) → ReadHasFew n (next day)) → ReadHasFew n (settle >>= next)
few-settled n (Ok day) next few = few day
few-settled n (Err refused) next few = tt

-- the rows of a file after its first
abbrev rows_after : List Row → ℕ
rows_after [] = 0
rows_after (row ∷ rows) = length rows

few-draft : (rows : List Row) → ReadHasFew (rows_after rows) (draft_of rows)
unfolding draft_of
few-draft [] = tt
few-draft (row ∷ rows) =
    few-settled (length rows) (answer_of_row file.Issue 1 (first_settle_of row)) (λ day. with_rows file.Issue with_row (bare_read day) 2 rows)
    (λ day. few-le (bonds_of (bare_read day) + length rows) (length rows) (with_rows file.Issue with_row (bare_read day) 2 rows) (omega arith) (few-rows with_row row-adds (bare_read day) 2 rows))

-- an issue has at most so many bonds
abbrev IssueHasFew : {E : Type 0} → ℕ → Result Issue E → Type 0
IssueHasFew n (Ok issue) = length issue.bonds ≤ n
IssueHasFew n (Err refused) = Unit {0}

few-within : (n : ℕ) (within many : Bool) (first second : RefusalKind) (issue : Issue) → length issue.bonds ≤ n
    → IssueHasFew n (if within then (if many then Err first else Ok issue) else Err second)
few-within n true true first second issue few = tt
few-within n true false first second issue few = few
few-within n false many first second issue few = tt

few-restricted : (n : ℕ) (read : Draft) (restricted : Result Restricted RefusalKind) → bonds_of read ≤ n
    → IssueHasFew n (restricted >>= (λ r. within_limits_of (issue_with_of read r)))
few-restricted n read (Ok r) few = few-within n _ _ _ _ (issue_with_of read r) few
few-restricted n read (Err refused) few = tt

few-answer : (n number : ℕ) (kind : FileKind) (answer : Result Issue RefusalKind) → IssueHasFew n answer → IssueHasFew n (answer_of_row kind number answer)
few-answer n number kind (Ok issue) few = few
few-answer n number kind (Err refused) few = tt

few-finished : (n : ℕ) (draft : Result Draft Refusal) → ReadHasFew n draft → IssueHasFew n (draft >>= (λ read. answer_of_row file.Issue 0 (finished_of read)))
few-finished n (Ok read) few = few-answer n 0 file.Issue (finished_of read) (few-restricted n read (restricted_of read.restricted read.price read.pays) few)
few-finished n (Err refused) few = tt

few-issue : (rows : List Row) → IssueHasFew (rows_after rows) (issue_of rows)
unfolding issue_of
few-issue rows = few-finished (rows_after rows) (draft_of rows) (few-draft rows)

strip-short : (text : List ℕ) → length (strip_bom text) ≤ length text
unfolding strip_bom
strip-short [] = omega arith
strip-short (a ∷ []) = omega arith
strip-short (a ∷ b ∷ []) = omega arith
strip-short (a ∷ b ∷ c ∷ text) = shorter (is_bom a b c) text (a ∷ b ∷ c ∷ text) (omega arith)
  where
    shorter : (t : Bool) (ys zs : List ℕ) → length ys ≤ length zs → length (cond t ys zs) ≤ length zs
    shorter true ys zs h = h
    shorter false ys zs h = omega arith

rows-short : (text : List ℕ) → length (rows_of text) ≤ length text + 1
rows-short text = omega (arith, strip-short text, length-records_from default_config (length (strip_bom text) + 1) StartRecord (strip_bom text))

after-short : (rows : List Row) (n : ℕ) → length rows ≤ n + 1 → rows_after rows ≤ n
after-short [] n short = omega arith
after-short (row ∷ rows) n short = omega arith

-- an issue has no more bonds than its file has bytes
pub bonds-few : (text : List ℕ) (issue : Issue) → issue_of (rows_of text) ≡ Ok issue → length issue.bonds ≤ length text
bonds-few text issue is =
    let few : length issue.bonds ≤ rows_after (rows_of text) = subst (λ (answer : Result Issue Refusal). IssueHasFew (rows_after (rows_of text)) answer) is (few-issue (rows_of text)) in
    omega (arith, few, after-short (rows_of text) (length text) (rows-short text))
