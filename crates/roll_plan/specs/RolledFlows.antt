-- What securities pay where rolls are made, and what they then yield.
use Rattle.std.specs.Prelude.{◌≡◌, ℕ, ◌+◌, ◌≤◌, List, ℤ, ⊤}
use Rattle.escrow_units.specs.Flows.{Rise, indexed}
use Rattle.escrow_units.specs.declared.security.Flow.{Flow}
use Rattle.day_sums.specs.Summed.{cents_on}
use Rattle.day_sums.specs.SummedLaws.{AreAboveZero}
use Rattle.yield_enclosure.specs.YieldAnswers.{yield_answer_of}
use Rattle.yield_enclosure.specs.declared.answer.YieldAnswer.{YieldAnswer}
use Rattle.yield_enclosure.specs.declared.answer.YieldAnswer.TheVariants.{Above, Between, Empty, Negative}
use Rattle.roll_plan.specs.Rolls.{returned, taken}
use Rattle.roll_plan.specs.declared.planning.Roll.{Roll}

-- the rolled flows: in order of day, above 0 each, and on each day what the securities pay, less what is rolled away from it, and what
-- comes back on it
pub record AreRolledFlows (flows : List Flow) (rolls : List Roll) (moved : List Flow) : Type 0 where
  pub rise : Rise moved
  pub above : AreAboveZero moved
  pub days : (day : ℤ) → cents_on day moved + cents_on day (taken rolls) ≡ cents_on day flows + cents_on day (returned rolls)

-- a yield is no higher than another: both are of one kind, and neither end lies above that of the other. Nothing is said where the other
-- is 30 percent or more
abbrev pub IsNoHigher : YieldAnswer → YieldAnswer → Type 0
IsNoHigher Empty Empty = ⊤
IsNoHigher Negative Negative = ⊤
IsNoHigher (Between lo hi) (Between first last) = (lo.0 ≤ first.0) × (hi.0 ≤ last.0)
IsNoHigher answer Above = ⊤
IsNoHigher answer other = ⊥

-- what flows that are moved to later days yield for a cost, beside what they yield unmoved
abbrev pub YieldsNoMore : ℤ → ℕ → List Flow → List Flow → Type 0
YieldsNoMore settle cost flows moved = IsNoHigher (yield_answer_of (indexed settle moved) cost) (yield_answer_of (indexed settle flows) cost)
