-- What `savings` says of an accepted portfolio. The text is this project's own.
use Rattle.std.specs.Prelude.{ℕ, List, [], ◌∷◌, ◌++◌, Option, Some, None, Result, Ok, Err, codes}
use Rattle.escrow_desk.specs.declared.refusal.Refusal.{Refusal}
use Rattle.escrow_units.specs.Digits.{fixed}
use Rattle.issue_schedule.specs.declared.issue.Issue.{Issue}
use Rattle.case_file.specs.Case.{CaseContents}
use Rattle.savings_table.specs.Savings.{restricted_yield, savings_at}
use Rattle.savings_table.specs.SignedText.{signed_cents}
use Rattle.savings_table.specs.declared.discounting.PvRange.{PvRange}
use Rattle.savings_table.specs.declared.savings.Savings.{Savings}
use Rattle.savings_table.specs.declared.savings.SignedRange.{SignedRange}
use Rattle.verification_report.specs.Summary.{text_line}

-- between which amounts a present value lies, in dollars
abbrev pub range_words : PvRange → List ℕ
range_words range = fixed 2 range.lo ++ 32 ∷ fixed 2 range.hi

-- between which amounts a difference lies, in dollars
abbrev pub signed_words : SignedRange → List ℕ
signed_words range = signed_cents range.lo ++ 32 ∷ signed_cents range.hi

-- the words for what is known, or `none`
abbrev pub words_or_none : {A : Type 0} → (A → List ℕ) → Option A → List ℕ
words_or_none words None = codes "none"
words_or_none words (Some known) = words known

-- what the old service is worth, what the new one is, what is saved, and what idle yield costs
abbrev pub savings_text : Savings → List ℕ
savings_text savings =
    text_line (codes "old ") (range_words savings.old_value) ++ text_line (codes "new ") (words_or_none range_words savings.new_value)
    ++ text_line (codes "saved ") (words_or_none signed_words savings.saved) ++ text_line (codes "idle ") (signed_words savings.idle)

-- the savings of a plan of a case, by the issue of the same files: one that is refused gives no case
abbrev pub saved_text : Result Issue Refusal → CaseContents → List ℕ → List ℕ
saved_text (Ok issue) case plan = savings_text (savings_at issue case (restricted_yield case) plan)
saved_text (Err refusal) case plan = []
