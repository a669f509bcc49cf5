-- The backward plan: from the last need date to the first, the own offer of each covers what later purchases leave of its need.
-- This is the backward recursion of cash-flow dedication; its choices are this project's own.
use Rattle.std.specs.Prelude.{◌≡◌, ℕ, zero, suc, ◌-◌, ◌<◌, ◌≤◌, is_none, List, map, reverse, length, replicate, slice_set, slice_index_or, Option, Some, None, Result, Ok, Err, ℤ, true}
use Rattle.std.specs.List.{find, sum}
use Rattle.escrow_units.specs.Flows.{total}
use Rattle.cash_table.specs.Receipts.{AreReceipts}
use Rattle.offer_book.specs.Book.{BookContents}
use Rattle.offer_book.specs.Portfolio.{IsPermitted, payments}
use Rattle.backward_build.specs.OwnOffer.{ends_on, line_at, need_at, own_offer_of}
use Rattle.backward_build.specs.Residual.{fewest_of}
use Rattle.backward_build.specs.Span.{paid_in, span_of}
use Rattle.backward_build.specs.declared.backward.BuildEnd.{BuildEnd}
use Rattle.backward_build.specs.declared.backward.BuildEnd.TheVariants.{NoOwnOffer, OverCap}
use Rattle.backward_build.specs.declared.residual.Residual.{Residual}

-- what a plan leaves of the need at a place: the need less what is paid in its span, and nothing where as much is paid
abbrev pub residual_of : BookContents → List ℕ → ℕ → Residual
residual_of book plan place = record {
  span = span_of book.needs place;
  cents = record { 0 = (need_at book.needs place).cents.0 - paid_in (span_of book.needs place) (payments book plan) };
}

-- units of a line are put into a plan, or the line's most is too little
abbrev pub put_or_over : List ℕ → ℕ → Option ℕ → Result (List ℕ) BuildEnd
put_or_over plan number None = Err (OverCap number)
put_or_over plan number (Some units) = Ok (slice_set plan number units)

-- of the own offer of the need date at a place, the fewest units are bought that cover what the plan leaves of the need
abbrev pub bought : BookContents → ℕ → List ℕ → Option ℕ → Result (List ℕ) BuildEnd
bought book place plan None = Err (NoOwnOffer (need_at book.needs place).day)
bought book place plan (Some number) = put_or_over plan number (fewest_of book.days (residual_of book plan place) (line_at book.lines number))

-- a plan with what the own offer of the need date at a place has to cover
abbrev pub with_date : BookContents → ℕ → List ℕ → Result (List ℕ) BuildEnd
with_date book place plan = bought book place plan (own_offer_of book (need_at book.needs place).day)

-- the same, unless a later need date couldn't be covered
abbrev pub and_date : BookContents → ℕ → Result (List ℕ) BuildEnd → Result (List ℕ) BuildEnd
and_date book place (Err fault) = Err fault
and_date book place (Ok plan) = with_date book place plan

-- the plan for the last so many need dates, of which the latest comes first; or the first own offer, in this order, that
-- doesn't cover its residual
unfoldable pub plan_of_last : BookContents → ℕ → Result (List ℕ) BuildEnd
plan_of_last book zero = Ok (replicate (length book.lines) 0)
plan_of_last book (suc dates) = and_date book (length book.needs - suc dates) (plan_of_last book dates)

-- the latest need date without an own offer
abbrev pub latest_without_offer : BookContents → Option ℤ
latest_without_offer book = find (λ day. is_none (own_offer_of book day)) (reverse (map (λ need. need.day) book.needs))

-- each date has to have an own offer before anything is bought
abbrev pub or_without_offer : BookContents → Option ℤ → Result (List ℕ) BuildEnd
or_without_offer book (Some day) = Err (NoOwnOffer day)
or_without_offer book None = plan_of_last book (length book.needs)

-- the backward plan, or why there is none
abbrev pub backward_plan : BookContents → Result (List ℕ) BuildEnd
backward_plan book = or_without_offer book (latest_without_offer book)

-- what the purchases keep, for the need dates from a place on: the plan is permitted, its receipts are kept by need date and cover
-- each of these needs in its span, and no line that ends before them is bought yet
pub record IsUnderWay (book : BookContents) (place : ℕ) (plan received : List ℕ) : Type 0 where
  pub permitted : IsPermitted book plan
  pub receipts : AreReceipts book.needs (payments book plan) received
  pub little : sum received ≤ total (payments book plan)
  pub covered : (k : ℕ) → place ≤ k → k < length book.needs → (need_at book.needs k).cents.0 ≤ slice_index_or received k 0
  pub unbought : (k number : ℕ) → k < place → k < length book.needs → number < length book.lines
      → ends_on book.days (need_at book.needs k).day (line_at book.lines number).kind ≡ true → slice_index_or plan number 0 ≡ 0
