-- One more row of a file that was read up to it: it is joined to what was read, or the file is refused at it.
use Rattle.std.proofs.Common.{◌≡◌, ℕ, ◌+◌, ◌<◌, List, [], length, drop, get_or, refl}
use Rattle.std.specs.Prelude.{Result, Ok, Err}
use Rattle.std.specs.Result.{result_and}
use Rattle.std.proofs.lemmas.List.{drop_more}
use Rattle.escrow_desk.specs.declared.refusal.CaseError.{CaseError}
use Rattle.escrow_desk.specs.declared.refusal.CaseError.TheVariants as error
use Rattle.escrow_desk.specs.declared.refusal.FileKind.{FileKind}
use Rattle.escrow_desk.specs.declared.refusal.Refusal.{Refusal}
use Rattle.escrow_desk.specs.declared.refusal.RefusalKind.{RefusalKind}
use Rattle.row_fields.specs.declared.fault.RowFault.{RowFault}
use Rattle.row_fields.specs.declared.fault.RowFault.TheVariants as row_fault
use Rattle.row_fields.specs.RowForm.{Row, ◌>>=◌, Answers, RowAnswers, answer_of_row, refusal_of, row_answer_of, with_rows}

joined-ok : {A T : Type 0} (file : FileKind) (number : ℕ) (added : Result A RowFault) (new : T) (defined : Result T RefusalKind) (value : A)
    → row_answer_of file number added ≡ Ok value → RowAnswers (result_and added (Ok new)) defined → defined ≡ Ok new
joined-ok file number (Ok x) new defined value is joined = joined
joined-ok file number (Err (row_fault.Refused kind)) new defined value is joined = cc
joined-ok file number (Err row_fault.NoMemory) new defined value is joined = cc

joined-err : {A T U : Type 0} (file : FileKind) (number : ℕ) (added : Result A RowFault) (new : T) (defined : Result T RefusalKind) (next : T → Result U Refusal) (answer : Result U CaseError) (why : CaseError)
    → answer ≡ Err why → row_answer_of file number added ≡ Err why → RowAnswers (result_and added (Ok new)) defined → Answers answer (answer_of_row file number defined >>= next)
joined-err file number (Ok x) new defined next answer why fails is joined = cc
joined-err file number (Err (row_fault.Refused kind)) new defined next answer why fails is joined =
    let same : why ≡ error.Refused (refusal_of file number kind) = cc in
    rw (fails, same, joined) refl
joined-err file number (Err row_fault.NoMemory) new defined next answer why fails is joined =
    let same : why ≡ error.NoMemory = cc in
    rw (fails, same) tt

-- the row is joined
pub rows-more : {A T : Type 0} (file : FileKind) (with_row : T → ℕ → Row → Result T RefusalKind) (before new : T) (number i : ℕ) (rows : List Row) (added : Result A RowFault) (value : A)
    → i < length rows → row_answer_of file number added ≡ Ok value → RowAnswers (result_and added (Ok new)) (with_row before number (get_or rows i []))
    → with_rows file with_row before number (drop i rows) ≡ with_rows file with_row new (number + 1) (drop (i + 1) rows)
rows-more file with_row before new number i rows added value short is joined =
    rw (drop_more rows i [] short, joined-ok file number added new (with_row before number (get_or rows i [])) value is joined) refl

-- the row is refused, or memory ran out
pub rows-fail : {A T : Type 0} (file : FileKind) (with_row : T → ℕ → Row → Result T RefusalKind) (before new : T) (number i : ℕ) (rows : List Row) (added : Result A RowFault) (answer : Result T CaseError) (why : CaseError)
    → i < length rows → answer ≡ Err why → row_answer_of file number added ≡ Err why → RowAnswers (result_and added (Ok new)) (with_row before number (get_or rows i []))
    → Answers answer (with_rows file with_row before number (drop i rows))
rows-fail file with_row before new number i rows added answer why short fails is joined =
    rw (drop_more rows i [] short)
    (joined-err file number added new (with_row before number (get_or rows i [])) (λ more. with_rows file with_row more (number + 1) (drop (i + 1) rows)) answer why fails is joined)
