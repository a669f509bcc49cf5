-- The plans that a search starts with. This is this project's own.
use Rattle.std.specs.Prelude.{◌≡◌, ◌⊎◌, ℕ, false, true, List, Ok}
use Rattle.backward_build.specs.BackwardPlan.{backward_plan}
use Rattle.cash_table.specs.Points.{is_within_limit}
use Rattle.offer_book.specs.Book.{BookContents}
use Rattle.offer_book.specs.Portfolio.{IsPermitted, Meets, cost}
use Rattle.branch_search.specs.Search.{CostsNoLess, OfBackward}

-- the backward plan
pub record IsBuilt (book : BookContents) (plan : List ℕ) : Type 0 where
  pub backward : backward_plan book ≡ Ok plan
  pub permitted : IsPermitted book plan
  pub meets : Meets book plan

-- of a built plan and a trimmed one, the trimmed one is taken where it is within the limit, and else the built one where that is
abbrev pub IsTaken : ℕ → BookContents → List ℕ → List ℕ → List ℕ → Type 0
IsTaken limit book built trimmed taken =
    (taken ≡ trimmed) × (is_within_limit limit book trimmed ≡ true)
    ⊎ (taken ≡ built) × (is_within_limit limit book trimmed ≡ false) × (is_within_limit limit book built ≡ true)

-- neither of two plans is within the limit
pub record AreBeyond (limit : ℕ) (book : BookContents) (built trimmed : List ℕ) : Type 0 where
  pub trimmed_beyond : is_within_limit limit book trimmed ≡ false
  pub built_beyond : is_within_limit limit book built ≡ false

-- a plan that can be bought within the limit, and costs no more than the backward plan and one that it is trimmed to
pub record IsBest (limit : ℕ) (book : BookContents) (plan : List ℕ) : Type 0 where
  pub permitted : IsPermitted book plan
  pub meets : Meets book plan
  pub within : is_within_limit limit book plan ≡ true
  pub no_dearer : OfBackward (CostsNoLess limit book (cost book plan)) book

-- the backward plan and one that it is trimmed to are beyond the limit
abbrev pub HasNone : ℕ → BookContents → Type 0
HasNone limit book = OfBackward (λ plan. is_within_limit limit book plan ≡ false) book
