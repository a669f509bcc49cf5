-- The summary of an escrow. The text is this project's own.
use Rattle.std.specs.Prelude.{ℕ, List, [], ◌∷◌, ◌++◌, codes}
use Rattle.escrow_units.specs.Digits.{fixed}
use Rattle.yield_enclosure.specs.declared.answer.YieldAnswer.{YieldAnswer}
use Rattle.yield_enclosure.specs.declared.answer.YieldAnswer.TheVariants as yields
use Rattle.verification_report.specs.declared.figures.Figures.{Figures}

-- a line of words and a value
abbrev pub text_line : List ℕ → List ℕ → List ℕ
text_line words value = words ++ value ++ 10 ∷ []

-- both ends of a yield's interval, in percent, or a word for a yield without ends; no escrow that is within a limit yields above
abbrev pub yield_words : YieldAnswer → List ℕ
yield_words yields.Empty = codes "empty"
yield_words yields.Negative = codes "negative"
yield_words (yields.Between lo hi) = fixed 8 lo.0 ++ 32 ∷ fixed 8 hi.0
yield_words yields.Above = codes "above"

-- the cost and the gap in dollars, and the yield and its limit in percent
abbrev pub summary_text : Figures → List ℕ
summary_text figures =
    text_line (codes "cost ") (fixed 2 figures.cost.0) ++ text_line (codes "yield ") (yield_words figures.answer)
    ++ text_line (codes "limit ") (fixed 8 figures.limit.0) ++ text_line (codes "gap ") (fixed 2 figures.gap.0)
