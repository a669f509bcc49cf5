-- What a yes means, proved.
use Rattle.std.proofs.Common.{◌≡◌, ◌∙◌, ℕ, ◌+◌, ◌*◌, ◌<◌, ◌≤◌, refl, sym, ap, subst, arith, List, length, Option, Some, None, MatchOption, Bool, true, false, not, ◌&&◌, ◌==◌, nat_lt, if◌then◌else◌, ℤ, pos, ◌-ℤ◌, ◌≤ℤ◌}
use Rattle.std.specs.Prelude.{option_map}
use Rattle.std.specs.Bool.{then_some}
use Rattle.std.specs.List.{position}
use Rattle.std.specs.Option.{option_or}
use Rattle.std.proofs.lemmas.Bool.{ltb-false, leb-true}
use Rattle.std.proofs.lemmas.Int.{ints}
use Rattle.dual_bound.specs.Closing.{is_weak}
use Rattle.dual_bound.proofs.TreeFacts.{priced-bears_out, rival-bears_out}
use Rattle.escrow_units.specs.Flows.{indexed}
use Rattle.escrow_units.specs.PresentValue.{IndexedFlow, last_index}
use Rattle.fixed_powers.specs.DiscountPowers.{one}
use Rattle.fixed_powers.specs.PresentValues.{present_value, total_cents}
use Rattle.fixed_powers.specs.declared.side.Side.TheVariants.{Low}
use Rattle.node_ranges.specs.Claims.{is_bad_split, placed_nodes}
use Rattle.yield_enclosure.specs.YieldAnswers.{answer_of_covered, is_within, is_worth, lower_end, upper_end, yield_answer_of}
use Rattle.yield_enclosure.specs.declared.answer.YieldAnswer.TheVariants.{Empty, Negative, Between, Above}
use Rattle.yield_enclosure.proofs.EndFacts.{ends_are, last_index-le, lower_end-is, upper_end-is}
use Rattle.bound_certificate.specs.Certificate.{AreBuys, IsPortfolio}
use Rattle.bound_certificate.specs.declared.limits.TheConstants.{MOST_PACKED_BUYS}
use Rattle.bound_certificate.specs.declared.certificate.Buy.{Buy}
use Rattle.bound_certificate.specs.declared.certificate.Certificate.{Certificate}
use Rattle.case_file.specs.Case.{CaseContents}
use Rattle.cash_table.proofs.DayFacts.{first_short_is}
use Rattle.cash_table.proofs.FlowFacts.{flows_within}
use Rattle.cash_table.proofs.PointFacts.{indexes_near}
use Rattle.cash_table.specs.First.{first_short_of}
use Rattle.cash_table.specs.Points.{is_within_limit}
use Rattle.offer_book.specs.Book.{BookContents, IsBook}
use Rattle.offer_book.specs.Portfolio.{IsFirstShort, Meets, cost, security_cost, security_flows}
use Rattle.escrow_check.specs.Acceptance.{claim_of, first_not_offered, judged, numbered, plan_of, portfolio_of, portfolio_reason, reason_by, reason_of, tree_reason, verdict_by, yes_of}
use Rattle.escrow_check.specs.Meaning.{IsHeard, IsRightPortfolio, LiesInEnds, NoRivalSaves, YesIsRight, YesNoneIsRight, YieldsWithin}
use Rattle.escrow_check.specs.declared.verdict.Portfolio.{Portfolio}
use Rattle.escrow_check.specs.declared.verdict.Reason.{Reason}
use Rattle.escrow_check.specs.declared.verdict.Reason.TheVariants as reason
use Rattle.escrow_check.specs.declared.verdict.Verdict.TheVariants as verdict
use Rattle.escrow_check.proofs.PurchaseFacts.{plan-buys, plan_permitted, rise-pairs}

-- ---- where no reason stands, each test passes
pub option_or-none : {A : Type 0} (first second : Option A) → option_or first second ≡ None → (first ≡ None) × (second ≡ None)
option_or-none None second none = (refl, none)
option_or-none (Some x) second none = absurd (cc)

pub option_map-none : {A B : Type 0} (f : A → B) (o : Option A) → option_map f o ≡ None → o ≡ None
option_map-none f None none = refl
option_map-none f (Some x) none = absurd (cc)

pub then_some-none : {A : Type 0} (test : Bool) (x : A) → then_some test x ≡ None → test ≡ false
then_some-none true x none = absurd (cc)
then_some-none false x none = refl

not-false : (t : Bool) → not t ≡ false → t ≡ true
not-false true e = refl
not-false false e = sym e

-- no reason stands against a tree
record IsSoundTree (case : CaseContents) (cert : Certificate) : Type 0 where
  good : position is_bad_split (placed_nodes case.book cert.nodes) ≡ None
  closed : position (is_weak case (claim_of case.book cert)) (placed_nodes case.book cert.nodes) ≡ None

sound_tree : (case : CaseContents) (cert : Certificate) → tree_reason case cert ≡ None → IsSoundTree case cert
sound_tree case cert none =
    let bad = numbered (position is_bad_split (placed_nodes case.book cert.nodes)) in
    let weak = numbered (position (is_weak case (claim_of case.book cert)) (placed_nodes case.book cert.nodes)) in
    let both = option_or-none (option_map reason.BadSplit bad) (option_map reason.WeakLeaf weak) none in
    record {
      good = option_map-none (λ n. n + 1) _ (option_map-none reason.BadSplit bad both.0);
      closed = option_map-none (λ n. n + 1) _ (option_map-none reason.WeakLeaf weak both.1);
    }

-- nor against purchases
pub record AreSoundBuys (case : CaseContents) (buys : List Buy) : Type 0 where
  pub offered : first_not_offered case.book.lines buys ≡ None
  pub covered : first_short_of case.book (plan_of case.book buys) ≡ None
  pub within : is_within_limit case.limit case.book (plan_of case.book buys) ≡ true

pub sound_buys : (case : CaseContents) (buys : List Buy) → portfolio_reason case buys ≡ None → AreSoundBuys case buys
sound_buys case buys none =
    let plan = plan_of case.book buys in
    let missing = option_map (λ buy. reason.NotPermitted buy.line) (first_not_offered case.book.lines buys) in
    let short = option_map reason.ShortOn (first_short_of case.book plan) in
    let above = then_some (not (is_within_limit case.limit case.book plan)) reason.YieldAbove in
    let first = option_or-none missing (option_or short above) none in
    let second = option_or-none short above first.1 in
    record {
      offered = option_map-none (λ (buy : Buy). reason.NotPermitted buy.line) (first_not_offered case.book.lines buys) first.0;
      covered = option_map-none reason.ShortOn (first_short_of case.book plan) second.0;
      within = not-false (is_within_limit case.limit case.book plan) (then_some-none (not (is_within_limit case.limit case.book plan)) reason.YieldAbove second.1);
    }

meets_from_none : (book : BookContents) (plan : List ℕ) → IsBook book → first_short_of book plan ≡ None → Meets book plan
meets_from_none book plan limits none =
    let P : Option ℤ → Type 0 = λ found. MatchOption found (Meets book plan) (IsFirstShort book plan) in
    subst P none (first_short_is book plan limits.needs.rising)

-- ---- a yield within the limit has ends that hold the exact one
covered-lies : (flows : List IndexedFlow) (cost limit : ℕ) → last_index flows ≤ 14_400 → cost ≤ total_cents flows
    → (worth : Bool) → is_worth flows cost 3_000_000_000 ≡ worth
    → is_within limit (if worth then Above else Between (record { 0 = lower_end flows cost }) (record { 0 = upper_end flows cost })) ≡ true
    → LiesInEnds (if worth then Above else Between (record { 0 = lower_end flows cost }) (record { 0 = upper_end flows cost })) flows cost limit
covered-lies flows cost limit near covered true test within = absurd (cc)
covered-lies flows cost limit near covered false test within =
    let less : present_value Low 3_000_000_000 flows < one * cost = grind arith in
    let lower = lower_end-is flows cost covered less in
    let upper = upper_end-is flows cost (lower_end flows cost) near less lower in
    ((ends_are flows cost (lower_end flows cost) (upper_end flows cost) near covered less lower upper).exact, leb-true (upper_end flows cost) limit within)

answer-lies : (flows : List IndexedFlow) (cost limit : ℕ) → last_index flows ≤ 14_400 → is_within limit (yield_answer_of flows cost) ≡ true → LiesInEnds (yield_answer_of flows cost) flows cost limit
answer-lies flows cost limit near within = at ((length flows == 0) && (cost == 0)) (nat_lt (total_cents flows) cost) refl within
  where
    at : (none less : Bool) → nat_lt (total_cents flows) cost ≡ less → is_within limit (if none then Empty else if less then Negative else answer_of_covered flows cost) ≡ true
        → LiesInEnds (if none then Empty else if less then Negative else answer_of_covered flows cost) flows cost limit
    at true less is inside = tt
    at false true is inside = tt
    at false false is inside = covered-lies flows cost limit near (ltb-false (total_cents flows) cost is) (is_worth flows cost 3_000_000_000) refl inside

yields-within : (limit : ℕ) (book : BookContents) (plan : List ℕ) → IsBook book → is_within_limit limit book plan ≡ true → YieldsWithin limit book plan
yields-within limit book plan limits within =
    answer-lies (indexed book.days.settle (security_flows book plan)) (security_cost book plan) limit
    (last_index-le 14_400 (indexed book.days.settle (security_flows book plan)) (indexes_near book.days.settle (security_flows book plan) limits.settlement (flows_within book plan limits))) within

-- ---- a yes with a portfolio
-- what its verdict tells
pub record IsYes (case : CaseContents) (cert : Certificate) (portfolio : Portfolio) : Type 0 where
  pub none : reason_of case cert ≡ None
  pub told : yes_of case cert.buys cert.gap ≡ verdict.Yes portfolio

pub yes-told : (case : CaseContents) (cert : Certificate) (portfolio : Portfolio) → judged case cert ≡ verdict.Yes portfolio → IsYes case cert portfolio
unfolding judged
yes-told case cert portfolio said = by (reason_of case cert) refl said
  where
    by : (found : Option Reason) → reason_of case cert ≡ found → verdict_by case cert found ≡ verdict.Yes portfolio → IsYes case cert portfolio
    by None is told = record { none = is; told = told }
    by (Some why) is told = absurd (cc)

record IsBuying (case : CaseContents) (cert : Certificate) (portfolio : Portfolio) : Type 0 where
  buys : List Buy
  named : cert.buys ≡ Some buys
  is : portfolio_of case buys cert.gap ≡ portfolio

buying : (case : CaseContents) (cert : Certificate) (portfolio : Portfolio) → yes_of case cert.buys cert.gap ≡ verdict.Yes portfolio → IsBuying case cert portfolio
buying case cert portfolio told = by cert.buys refl told
  where
    by : (found : Option (List Buy)) → cert.buys ≡ found → yes_of case found cert.gap ≡ verdict.Yes portfolio → IsBuying case cert portfolio
    by None is told = absurd (cc)
    by (Some buys) is told = record { buys = buys; named = is; is = cc }

-- what no reason leaves of a portfolio and its tree
record IsUnopposed (case : CaseContents) (cert : Certificate) (buys : List Buy) : Type 0 where
  portfolio : AreSoundBuys case buys
  tree : IsSoundTree case cert
  allowed : cert.gap ≤ case.allowance

unopposed : (case : CaseContents) (cert : Certificate) (buys : List Buy) → cert.buys ≡ Some buys → reason_of case cert ≡ None → IsUnopposed case cert buys
unopposed case cert buys named none =
    let by_buys : reason_by case cert (Some buys) ≡ None = ap (reason_by case cert) (sym named) ∙ none in
    let over = then_some (nat_lt case.allowance cert.gap) reason.GapAbove in
    let first = option_or-none (portfolio_reason case buys) (option_or (tree_reason case cert) over) by_buys in
    let second = option_or-none (tree_reason case cert) over first.1 in
    record {
      portfolio = sound_buys case buys first.0;
      tree = sound_tree case cert second.0;
      allowed = ltb-false case.allowance cert.gap (then_some-none (nat_lt case.allowance cert.gap) reason.GapAbove second.1);
    }

-- a claim that is borne out leaves the gap
within-gap : (whole gap other : ℕ) → (pos whole -ℤ pos gap) ≤ℤ pos other → whole ≤ other + gap
within-gap whole gap other borne = omega (arith, ints)

pub well_bought : (case : CaseContents) (cert : Certificate) (buys : List Buy) → IsHeard case cert → cert.buys ≡ Some buys → AreBuys MOST_PACKED_BUYS buys
well_bought case cert buys heard named = (subst (λ found. IsPortfolio MOST_PACKED_BUYS found cert.gap) named heard.written.portfolio).0

-- the right portfolio, by its purchases
right : (case : CaseContents) (cert : Certificate) (buys : List Buy) → IsHeard case cert → cert.buys ≡ Some buys → IsUnopposed case cert buys → IsRightPortfolio case cert (portfolio_of case buys cert.gap)
right case cert buys heard named sound =
    let plan = plan_of case.book buys in
    let permitted = plan_permitted case.book buys sound.portfolio.offered in
    let covered = meets_from_none case.book plan heard.book sound.portfolio.covered in
    let claim : claim_of case.book cert ≡ Some (pos (cost case.book plan) -ℤ pos cert.gap) = ap (option_map (λ (b : List Buy). pos (cost case.book (plan_of case.book b)) -ℤ pos cert.gap)) named in
    let wise = well_bought case cert buys heard named in
    let closed : position (is_weak case (Some (pos (cost case.book plan) -ℤ pos cert.gap))) (placed_nodes case.book cert.nodes) ≡ None =
    ap (λ asked. position (is_weak case asked) (placed_nodes case.book cert.nodes)) (sym claim) ∙ sound.tree.closed in
    let saves : NoRivalSaves case.limit cert.gap case.book plan = λ rival is.
    within-gap (cost case.book plan) cert.gap (cost case.book rival)
    (rival-bears_out case (Some (pos (cost case.book plan) -ℤ pos cert.gap)) cert.nodes heard.book heard.written.tree heard.written.nodes_are sound.tree.good closed rival is) in
    record {
      buys = buys;
      named = named;
      bought = plan-buys case.book buys (rise-pairs buys wise.rising 0 (λ k d few. omega arith)) sound.portfolio.offered;
      gap = refl;
      cost = refl;
      answer = refl;
      right = record {
        permitted = permitted;
        covered = covered;
        yields = yields-within case.limit case.book plan heard.book sound.portfolio.within;
        cheapest = saves;
        allowed = sound.allowed;
      };
      priced = λ priced other is_permitted is_met.
          within-gap (cost case.book plan) cert.gap (cost case.book other)
          (priced-bears_out case (Some (pos (cost case.book plan) -ℤ pos cert.gap)) cert.nodes heard.book heard.written.tree heard.written.nodes_are priced sound.tree.good closed other is_permitted is_met);
    }

pub yes_is_right : YesIsRight
yes_is_right case cert portfolio heard said =
    let told = yes-told case cert portfolio said in
    let bought = buying case cert portfolio told.told in
    subst (IsRightPortfolio case cert) bought.is (right case cert bought.buys heard bought.named (unopposed case cert bought.buys bought.named told.none))

-- ---- a yes without a portfolio
pub none-told : (case : CaseContents) (cert : Certificate) → judged case cert ≡ verdict.YesNone → (reason_of case cert ≡ None) × (cert.buys ≡ None)
unfolding judged
none-told case cert said = by (reason_of case cert) refl said
  where
    bare : (found : Option (List Buy)) → yes_of case found cert.gap ≡ verdict.YesNone → found ≡ None
    bare None told = refl
    bare (Some buys) told = absurd (cc)

    by : (found : Option Reason) → reason_of case cert ≡ found → verdict_by case cert found ≡ verdict.YesNone → (reason_of case cert ≡ None) × (cert.buys ≡ None)
    by None is told = (is, bare cert.buys told)
    by (Some why) is told = absurd (cc)

pub yes_none_is_right : YesNoneIsRight
yes_none_is_right case cert heard said rival is =
    let told = none-told case cert said in
    let tree = sound_tree case cert (ap (reason_by case cert) (sym told.1) ∙ told.0) in
    let claim : claim_of case.book cert ≡ None = ap (option_map (λ (b : List Buy). pos (cost case.book (plan_of case.book b)) -ℤ pos cert.gap)) told.1 in
    rival-bears_out case None cert.nodes heard.book heard.written.tree heard.written.nodes_are tree.good
    (ap (λ asked. position (is_weak case asked) (placed_nodes case.book cert.nodes)) (sym claim) ∙ tree.closed) rival is
