-- What a yield that isn't within a limit tells.
use Rattle.std.proofs.Common.{◌≡◌, ◌∙◌, ℕ, ◌*◌, ◌≤◌, Bool, true, false, if◌then◌else◌, nat_lt, ◌==◌, ◌&&◌, List, length, inl, inr, refl, arith}
use Rattle.std.proofs.lemmas.Bool.{cases_Bool, cases_lt}
use Rattle.std.proofs.lemmas.Bool.Decides.{nat_tests}
use Rattle.escrow_units.specs.PresentValue.{IndexedFlow, last_index}
use Rattle.fixed_powers.specs.DiscountPowers.{one}
use Rattle.fixed_powers.specs.PresentValues.{HasLaterAmount, total_cents, present_value}
use Rattle.fixed_powers.specs.declared.side.Side.TheVariants.{Low}
use Rattle.yield_enclosure.specs.declared.answer.YieldAnswer.TheVariants.{Empty, Negative}
use Rattle.yield_enclosure.specs.YieldAnswers.{AreDearerBelow, answer_of_covered, is_within}
use Rattle.yield_enclosure.specs.YieldLaws.{AreDearerBelowTheirLimit, NothingIsWithin}
use Rattle.yield_enclosure.proofs.EndFacts.{is_dearer, last_index-le, refused-dearer, refused-worth, within-at_limit}

covered_dearer : (limit : ℕ) (flows : List IndexedFlow) (cost : ℕ) → last_index flows ≤ 14_400 → HasLaterAmount flows → 1 ≤ limit → limit ≤ 3_000_000_000 → cost ≤ total_cents flows
    → is_within limit (answer_of_covered flows cost) ≡ false → AreDearerBelow flows cost limit
covered_dearer limit flows cost near later some most covered outside = elim (cases_lt (present_value Low 3_000_000_000 flows) (one * cost)) [
  | inl less ↦ refused-dearer flows cost limit near some most (is_dearer flows cost limit (within-at_limit flows cost limit near covered less ∙ outside))
  | inr worth ↦ refused-worth flows cost limit near some most later worth
]

not_less : (a b : ℕ) → nat_lt a b ≡ false → b ≤ a
not_less a b h = grind (arith, nat_tests)

pub dearer_below_limit : AreDearerBelowTheirLimit
dearer_below_limit limit flows cost all later some most = at ((length flows == 0) && (cost == 0)) (nat_lt (total_cents flows) cost) refl
  where
    at : (none less : Bool) → nat_lt (total_cents flows) cost ≡ less → is_within limit (if none then Empty else if less then Negative else answer_of_covered flows cost) ≡ false → AreDearerBelow flows cost limit
    at true less is outside = absurd (cc)
    at false true is outside = absurd (cc)
    at false false is outside = covered_dearer limit flows cost (last_index-le 14_400 flows all) later some most (not_less (total_cents flows) cost is) outside

pub nothing_within : NothingIsWithin
nothing_within limit cost = elim (cases_Bool (cost == 0)) [
  | inl free ↦ rw free refl
  | inr some ↦
      let less : nat_lt 0 cost ≡ true = grind (arith, nat_tests) in
      rw (some, less) refl
]
