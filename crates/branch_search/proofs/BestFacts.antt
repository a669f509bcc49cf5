-- The cheapest plan that a search starts with.
use Rattle.std.proofs.Common.{◌≡◌, ℕ, ◌≤◌, List, Ok, Err, Some, None, false, sym, subst, inl, inr, arith}
use Rattle.std.specs.Prelude.{IfOk, MatchOption, Option, Result}
use Rattle.backward_build.specs.BackwardPlan.{backward_plan}
use Rattle.backward_build.specs.declared.backward.BuildEnd.{BuildEnd}
use Rattle.cash_table.specs.Points.{is_within_limit}
use Rattle.offer_book.specs.Book.{BookContents}
use Rattle.offer_book.specs.Portfolio.{cost}
use Rattle.plan_finder.specs.Proposal.{IsProposal}
use Rattle.plan_finder.specs.declared.finding.Proposal.{Proposal}
use Rattle.branch_search.specs.Plans.{AreBeyond, HasNone, IsBest, IsBuilt, IsTaken}
use Rattle.branch_search.specs.Search.{CostsNoLess, HoldsOfBoth, IsTrimmedFrom, OfBackward}

-- ---- the backward plan
-- what holds of the two plans holds of the backward plan
of-these : (Holds : List ℕ → Type 0) (book : BookContents) (built trimmed : List ℕ) → backward_plan book ≡ Ok built → IsTrimmedFrom book built trimmed → Holds built → Holds trimmed → OfBackward Holds book
of-these Holds book built trimmed is from of_built of_trimmed = λ other is_other.
    let same : built ≡ other = cc in
    subst (HoldsOfBoth Holds book) same (record { trimmed = trimmed; from_built = from; of_built = of_built; of_trimmed = of_trimmed })

-- where there is none, anything holds of it
pub of-none : (Holds : List ℕ → Type 0) (book : BookContents) (fault : BuildEnd) → backward_plan book ≡ Err fault → OfBackward Holds book
of-none Holds book fault is = λ built is_built. absurd (cc)

-- what comes of a thing that holds of it
of-weaker : (Strong Weak : List ℕ → Type 0) (book : BookContents) → ((plan : List ℕ) → Strong plan → Weak plan) → OfBackward Strong book → OfBackward Weak book
of-weaker Strong Weak book weaker holds = λ built is.
    let both = holds built is in
    record { trimmed = both.trimmed; from_built = both.from_built; of_built = weaker built both.of_built; of_trimmed = weaker both.trimmed both.of_trimmed }

-- ---- the best plan
-- the plan that is taken of the two is the best of them
best-taken : (limit : ℕ) (book : BookContents) (built trimmed taken : List ℕ) → IsBuilt book built → IsTrimmedFrom book built trimmed → IsTaken limit book built trimmed taken → IsBest limit book taken
best-taken limit book built trimmed taken is from (inl first) =
    subst (IsBest limit book) (sym first.0) (record {
      permitted = from.permitted;
      meets = from.meets;
      within = first.1;
      no_dearer = of-these (CostsNoLess limit book (cost book trimmed)) book built trimmed is.backward from (λ within. from.costs) (λ within. omega arith);
    })
best-taken limit book built trimmed taken is from (inr second) =
    subst (IsBest limit book) (sym second.0) (record {
      permitted = is.permitted;
      meets = is.meets;
      within = second.2;
      no_dearer = of-these (CostsNoLess limit book (cost book built)) book built trimmed is.backward from (λ within. omega arith) (λ within. absurd (cc));
    })

none-taken : (limit : ℕ) (book : BookContents) (built trimmed : List ℕ) → IsBuilt book built → IsTrimmedFrom book built trimmed → AreBeyond limit book built trimmed → HasNone limit book
none-taken limit book built trimmed is from beyond =
    of-these (λ plan. is_within_limit limit book plan ≡ false) book built trimmed is.backward from beyond.built_beyond beyond.trimmed_beyond

pub best-of_taken : {E : Type 0} (limit : ℕ) (book : BookContents) (built trimmed : List ℕ) → IsBuilt book built → IsTrimmedFrom book built trimmed → (took : Result (Option (List ℕ)) E)
    → IfOk took (λ plan. MatchOption plan (AreBeyond limit book built trimmed) (IsTaken limit book built trimmed))
    → IfOk took (λ plan. MatchOption plan (HasNone limit book) (IsBest limit book))
best-of_taken limit book built trimmed is from (Ok (Some plan)) takes = best-taken limit book built trimmed plan is from takes
best-of_taken limit book built trimmed is from (Ok None) beyond = none-taken limit book built trimmed is from beyond
best-of_taken limit book built trimmed is from (Err fault) takes = tt

-- a proposed plan that costs no more than the best is the best
pub best-proposed : (limit : ℕ) (book : BookContents) (plan : List ℕ) (proposed : Proposal) → proposed.cost.0 ≤ cost book plan → IsBest limit book plan → IsProposal limit book proposed
    → IsBest limit book proposed.plan
best-proposed limit book plan proposed cheaper best is = record {
  permitted = is.permitted;
  meets = is.meets;
  within = is.within;
  no_dearer = of-weaker (CostsNoLess limit book (cost book plan)) (CostsNoLess limit book (cost book proposed.plan)) book (λ other no_more within. omega (arith, cheaper, is.cost, no_more within)) best.no_dearer;
}

-- and so is one where there is no other
pub best-where_none : (limit : ℕ) (book : BookContents) (proposed : Proposal) → HasNone limit book → IsProposal limit book proposed → IsBest limit book proposed.plan
best-where_none limit book proposed none is = record {
  permitted = is.permitted;
  meets = is.meets;
  within = is.within;
  no_dearer = of-weaker (λ plan. is_within_limit limit book plan ≡ false) (CostsNoLess limit book (cost book proposed.plan)) book (λ other beyond within. absurd (cc)) none;
}
