-- What `roll` says of an accepted portfolio. The text is this project's own.
use Rattle.std.specs.Prelude.{ℕ, List, [], ◌∷◌, ◌++◌, Option, Result, Ok, Err, codes}
use Rattle.std.specs.List.{flat_map}
use Rattle.escrow_desk.specs.declared.refusal.Refusal.{Refusal}
use Rattle.escrow_units.specs.DateText.{day_text}
use Rattle.escrow_units.specs.Digits.{fixed}
use Rattle.escrow_units.specs.Flows.{indexed}
use Rattle.escrow_units.specs.declared.security.Flow.{Flow}
use Rattle.escrow_units.specs.declared.security.Terms.{Terms}
use Rattle.offer_book.specs.Book.{BookContents}
use Rattle.offer_book.specs.Portfolio.{security_cost, security_flows}
use Rattle.yield_enclosure.specs.YieldAnswers.{yield_answer_of}
use Rattle.yield_enclosure.specs.declared.answer.YieldAnswer.{YieldAnswer}
use Rattle.case_file.specs.Case.{CaseContents}
use Rattle.roll_plan.specs.RollsOf.{moved_by, rolls_of}
use Rattle.roll_plan.specs.declared.planning.Roll.{Roll}
use Rattle.verification_report.specs.Summary.{text_line, yield_words}

-- a planned subscription: when it is bought, when it pays, and its face in dollars
abbrev pub roll_text : Roll → List ℕ
roll_text roll = text_line (codes "roll ") (day_text roll.day ++ 32 ∷ day_text roll.next ++ 32 ∷ fixed 2 roll.cents.0)

-- the rolls, what the securities yield without them, and what they yield with them
abbrev pub rolls_text : List Roll → YieldAnswer → YieldAnswer → List ℕ
rolls_text rolls answer rolled =
    flat_map roll_text rolls ++ text_line (codes "yield ") (yield_words answer) ++ text_line (codes "rolled yield ") (yield_words rolled)

-- what flows yield for what the securities of a portfolio cost
abbrev pub yield_of_flows : BookContents → List ℕ → List Flow → YieldAnswer
yield_of_flows book plan flows = yield_answer_of (indexed book.days.settle flows) (security_cost book plan)

-- the same of a portfolio and its rolls
abbrev pub planned_text : BookContents → List ℕ → List Roll → List ℕ
planned_text book plan rolls =
    rolls_text rolls (yield_of_flows book plan (security_flows book plan)) (yield_of_flows book plan (moved_by (security_flows book plan) rolls))

-- the rolls of a plan of a case, by the denominations of the rate file of the same files: one that is refused gives no case
abbrev pub rolled_text : Result (Option Terms) Refusal → CaseContents → List ℕ → List ℕ
rolled_text (Ok terms) case plan = planned_text case.book plan (rolls_of case.book plan terms)
rolled_text (Err refusal) case plan = []
