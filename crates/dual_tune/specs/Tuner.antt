-- What a tuner is for, and what it keeps.
use Rattle.std.specs.Prelude.{◌≡◌, ℕ, length}
use Rattle.offer_book.specs.Book.{BookContents}
use Rattle.proof_tree.specs.Tree.{IsLeaf}
use Rattle.dual_tune.specs.Steps.{zeros_like}
use Rattle.dual_tune.specs.Sweep.{IsSweep}
use Rattle.dual_tune.specs.declared.given.Given.{Given}
use Rattle.dual_tune.specs.declared.parts.Parts.{Parts}

pub record TunerContents : Type 0 where
  pub book : BookContents
  pub yield_units : ℕ

-- the parts of a tuner are for the same book and yield, and have room for its need dates
pub record AreParts (n : ℕ) (book : BookContents) (parts : Parts) : Type 0 where
  pub swept : IsSweep n book parts.sweep
  pub dates : parts.simplex.value.dates ≡ length book.needs
  pub proposed : IsLeaf (length book.needs) parts.proposal
  pub zeros : parts.zeros ≡ zeros_like book parts.zeros

-- they are for the book and the yield of a given leaf
abbrev pub ArePartsFor : Given → Parts → Type 0
ArePartsFor given parts = AreParts given.yield_units.0 given.book.now parts
