-- What the backward plan is.
use Rattle.std.specs.Prelude.{◌≡◌, ℕ, ◌<◌, ◌≤◌, List, length, slice_index, slice_set, Some, Ok}
use Rattle.offer_book.specs.Book.{BookContents, IsBook}
use Rattle.offer_book.specs.Portfolio.{IsPermitted, IsPermittedUnits, payments}
use Rattle.backward_build.specs.BackwardPlan.{backward_plan}
use Rattle.backward_build.specs.OwnOffer.{line_at, need_at, own_offer_of}
use Rattle.backward_build.specs.Span.{paid_in, span_of}

-- a plan covers the need at a place by what is paid in its span
abbrev pub IsPaidFor : BookContents → List ℕ → ℕ → Type 0
IsPaidFor book plan place = (need_at book.needs place).cents.0 ≤ paid_in (span_of book.needs place) (payments book plan)

-- a line is the own offer of the need date at a place
abbrev pub IsOwnOfferAt : BookContents → ℕ → ℕ → Type 0
IsOwnOfferAt book place number = own_offer_of book (need_at book.needs place).day ≡ Some number

-- the need at a place is paid for, and no more than it takes is bought of its own offer: with fewer permitted units of it, all
-- else as it is, the need isn't paid for
pub record IsJustPaidFor (book : BookContents) (plan : List ℕ) (place : ℕ) : Type 0 where
  pub number : ℕ
  pub own : IsOwnOfferAt book place number
  pub paid : IsPaidFor book plan place
  pub fewest : (fewer : ℕ) → IsPermittedUnits (line_at book.lines number) fewer → fewer < slice_index plan number → IsPaidFor book (slice_set plan number fewer) place → ⊥

-- a backward plan: it is permitted, each need is just paid for by its own offer, and nothing else is bought
pub record IsBackwardPlan (book : BookContents) (plan : List ℕ) : Type 0 where
  pub permitted : IsPermitted book plan
  pub needs : (place : ℕ) → place < length book.needs → IsJustPaidFor book plan place
  pub others : (number : ℕ) → ((place : ℕ) → place < length book.needs → IsOwnOfferAt book place number → ⊥) → number < length book.lines → slice_index plan number ≡ 0

-- the plan that is built is one
abbrev pub BuiltIsBackward : Type 0
BuiltIsBackward = (book : BookContents) (plan : List ℕ) → IsBook book → backward_plan book ≡ Ok plan → IsBackwardPlan book plan
