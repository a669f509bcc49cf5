use Rattle.std.proofs.Common.{◌≡◌, ◌∙◌, ◌⊎◌, ◌+◌, ◌*◌, ◌<◌, ◌≤◌, ℕ, List, All, get_or, length, set, sym, ap, subst, inl, inr, arith}
use Rattle.std.proofs.lemmas.Bool.{cases_eq}
use Rattle.std.proofs.lemmas.List.{get_or-set_other, get_or-set_same, get_or_default, length-set}
use Rattle.std.proofs.lemmas.List.Elements.{All-set}
use Rattle.dual_bound.specs.LeafBound.{priced_needs}
use Rattle.proof_tree.specs.declared.prices.TheConstants.{PRICE_SCALE}
use Rattle.dual_bound.proofs.BoundSizes.{priced-small}
use Rattle.dual_bound.proofs.DateFacts.{IsAhead, ahead-more, same-list}
use Rattle.dual_bound.proofs.NeedsFacts.{cents-there, cents_at, priced-one, priced-set}
use Rattle.dual_bound.proofs.tableau.take_prices.Goals as goal

-- prices that are the same but for dates of which none is left
all_taken : (own new dates : List ℕ) (from : ℕ) → length own ≡ length new → length dates ≤ from
    → ((date : ℕ) → date < length new → (get_or own date 0 ≡ get_or new date 0) ⊎ IsAhead from dates date) → own ≡ new
all_taken own new dates from long past rest =
    same-list own new long (λ k d lt.
    get_or_default own k d 0 lt
    ∙ elim (rest k (omega (arith, lt, long))) [
      | inl same ↦ same
      | inr ahead ↦ absurd (omega (arith, ahead.1, ahead.2, past))
    ]
    ∙ get_or_default new k 0 d (omega (arith, lt, long)))

pub mended-worth-requires-clause-worth : goal.mended-worth-requires-clause-worth
mended-worth-requires-clause-worth c =
    omega (arith, c.loop-date.invariant.worth, priced-small c.args.needs.now c.loop-date.own c.loop-date.invariant.small, c.requires.needs)

pub returns-clause-prices : goal.returns-clause-prices
returns-clause-prices c = all_taken c.loop-date.own c.args.new.now c.args.dates.now c.loop-date.date-index c.loop-date.invariant.long (omega (arith, c.loop-date-test.false)) c.loop-date.invariant.rest

pub returns-clause-worth : goal.returns-clause-worth
returns-clause-worth c =
    c.loop-date.invariant.worth
    ∙ ap (priced_needs c.args.needs.now)
    (all_taken c.loop-date.own c.args.new.now c.args.dates.now c.loop-date.date-index c.loop-date.invariant.long (omega (arith, c.loop-date-test.false)) c.loop-date.invariant.rest)

pub mended-worth-requires-clause-part : goal.mended-worth-requires-clause-part
mended-worth-requires-clause-part c =
    let date = get_or c.args.dates.now c.loop-date.date-index 0 in
    let few : date < length c.args.own.now = c.requires.dates.there c.loop-date.date-index 0 c.loop-date-test.true in
    let own = c.loop-date.own in
    let there : date < length own = omega (arith, few, c.requires.same, c.loop-date.invariant.long) in
    let part : cents_at c.args.needs.now date * get_or own date 0 ≤ c.loop-date.worth =
    omega (arith, c.loop-date.invariant.worth, priced-one c.args.needs.now own date (omega (arith, c.requires.long, c.requires.same, c.loop-date.invariant.long)) there) in
    subst (λ (ps : List ℕ). (get_or c.args.needs.now date c.index-needs-date.result).cents.0 * get_or ps date 0 ≤ c.loop-date.worth) (sym c.as_slice.ensures)
    (subst (λ (k : ℕ). k * get_or own date 0 ≤ c.loop-date.worth) (sym (cents-there c.args.needs.now date c.index-needs-date.result (omega (arith, few, c.requires.long)))) part)

pub loop-date-preserved : goal.loop-date-preserved
loop-date-preserved c =
    let date = get_or c.args.dates.now c.loop-date.date-index 0 in
    let price = get_or c.args.new.now date 0 in
    let few : date < length c.args.own.now = c.requires.dates.there c.loop-date.date-index 0 c.loop-date-test.true in
    let own = c.loop-date.own in
    let i = c.loop-date.invariant in
    let there : date < length own = omega (arith, few, c.requires.same, i.long) in
    let after : c.put.new.self ≡ set own date price = c.put.ensures in
    let needs : (get_or c.args.needs.now date c.index-needs-date.result).cents.0 ≡ cents_at c.args.needs.now date =
    cents-there c.args.needs.now date c.index-needs-date.result (omega (arith, few, c.requires.long)) in
    let mended : c.mended-worth.result + cents_at c.args.needs.now date * get_or own date 0 ≡ c.loop-date.worth + cents_at c.args.needs.now date * price =
    subst (λ (k : ℕ). c.mended-worth.result + k * get_or own date 0 ≡ c.loop-date.worth + k * price) needs
    (subst (λ (ps : List ℕ). c.mended-worth.result + (get_or c.args.needs.now date c.index-needs-date.result).cents.0 * get_or ps date 0
    ≡ c.loop-date.worth + (get_or c.args.needs.now date c.index-needs-date.result).cents.0 * price) c.as_slice.ensures c.mended-worth.ensures) in
    record {
      long = ap length after ∙ length-set own date price ∙ i.long;
      small = subst (All (λ (p : ℕ). p ≤ 2 * PRICE_SCALE)) (sym after) (All-set (λ (p : ℕ). p ≤ 2 * PRICE_SCALE) own date price (c.requires.new date 0 (omega (arith, few, c.requires.same))) i.small);
      worth = omega (arith, mended, i.worth, priced-set c.args.needs.now own date price (omega (arith, c.requires.long, c.requires.same, i.long)) there)
          ∙ ap (priced_needs c.args.needs.now) (sym after);
      rest = λ k lt.
          elim (cases_eq k date) [
            | inl at ↦
                inl (subst (λ (ps : List ℕ). get_or ps k 0 ≡ get_or c.args.new.now k 0) (sym after)
                (ap (λ j. get_or (set own date price) j 0) at ∙ get_or-set_same own date price 0 there ∙ ap (λ j. get_or c.args.new.now j 0) (sym at)))
            | inr apart ↦
                elim (i.rest k lt) [
                  | inl same ↦ inl (ap (λ (ps : List ℕ). get_or ps k 0) after ∙ get_or-set_other own date k price 0 apart ∙ same)
                  | inr ahead ↦
                      elim (ahead-more c.loop-date.date-index date c.args.dates.now k c.loop-date-test.true
                      (λ d. get_or_default c.args.dates.now c.loop-date.date-index d 0 c.loop-date-test.true) ahead) [
                        | inl at ↦ absurd (apart at)
                        | inr more ↦ inr more
                      ]
                ]
          ];
    }
