use Rattle.std.proofs.Common.{◌≡◌, ◌∙◌, ◌<◌, inl, inr, All, List, drop, get_or, length, map, sym, ap, subst, arith}
use Rattle.std.proofs.lemmas.List.{length-map}
use Rattle.dual_bound.specs.Changes.{IsListedAt}
use Rattle.dual_bound.specs.Columns.{AreSmallSums, IsStopWithin, IsSummed, worth_at, worth_on}
use Rattle.dual_bound.specs.declared.date_days.DateDays.{DateDays}
use Rattle.dual_bound.specs.declared.series.Stop.{Stop}
use Rattle.dual_bound.specs.declared.worth.Worth.{Worth}
use Rattle.dual_bound.proofs.DateFacts.{listed-change-at, priced-or-listed}
use Rattle.dual_bound.proofs.SumFacts.{summed-or-listed, sums-small, written}
use Rattle.dual_bound.proofs.TableauFacts.{worths-light}
use Rattle.dual_bound.proofs.tableau.Tableau.price_changes.Goals as goal

pub price_dates-requires-clause-others : goal.price_dates-requires-clause-others
price_dates-requires-clause-others c =
    λ place few.
    let self = c.args.self.now in
    let tableau = c.requires.tableau in
    let there : place < length self.days.items = omega (arith, few, ap length c.as_slice-2.ensures.value) in
    elim (priced-or-listed (length c.args.book.now.needs) self.priced.leaf c.args.leaf.now self.days.items self.date_days.items self.priced.worths.items tableau.date_days tableau.leaf.every_date
    c.requires.leaf.every_date c.requires.limit tableau.worths place there) [
      | inl priced ↦ inl (λ d. ap (λ (ws : List Worth). worth_at ws place) c.as_mut_slice.ensures.value ∙ priced d ∙ (λ i. worth_on c.args.leaf.now (get_or (sym c.as_slice-2.ensures.value i) place d)))
      | inr change ↦ inr (subst (λ (lists : List DateDays). IsListedAt c.args.dates.now lists place) (sym c.as_slice.ensures.value)
          (listed-change-at self.priced.leaf.prices c.args.leaf.now.prices c.args.dates.now self.date_days.items place c.requires.dates change))
    ]

-- the days as they are priced
priced : (c : goal.After-as_slice-5) → c.as_slice-4.result.now ≡ map (worth_on c.args.leaf.now) c.args.self.now.days.items
priced c =
    let self = c.args.self.now in
    let new = c.price_dates.new.worths in
    let len : self.priced.worths.len ≡ length new = omega (arith, self.priced.worths.ok.0, c.price_dates.auto.worths, ap length c.as_mut_slice.ensures.value) in
    c.as_slice-4.ensures.value ∙ written new (drop (length new) self.priced.worths.items) self.priced.worths.len len ∙ c.price_dates.ensures ∙ ap (map (worth_on c.args.leaf.now)) c.as_slice-2.ensures.value

pub mend_dates-requires-clause-light : goal.mend_dates-requires-clause-light
mend_dates-requires-clause-light c =
    worths-light (length c.args.book.now.needs) c.args.leaf.now c.args.self.now.days.items c.as_slice-4.result.now c.requires.leaf c.requires.tableau.powers (priced c)

pub mend_dates-requires-clause-small : goal.mend_dates-requires-clause-small
mend_dates-requires-clause-small c =
    let self = c.args.self.now in
    let tableau = c.requires.tableau in
    subst AreSmallSums (sym c.as_mut_slice-2.ensures.value)
    (sums-small self.priced.worths.items self.series.stops.items self.priced.sums.items tableau.sums
    (worths-light (length c.args.book.now.needs) self.priced.leaf self.days.items self.priced.worths.items tableau.leaf tableau.powers tableau.worths)
    (subst (λ n. All (IsStopWithin n) self.series.stops.items) (omega (arith, ap length tableau.worths, length-map self.days.items (worth_on self.priced.leaf))) tableau.series.there))

pub mend_dates-requires-clause-others : goal.mend_dates-requires-clause-others
mend_dates-requires-clause-others c =
    λ k few.
    let self = c.args.self.now in
    let tableau = c.requires.tableau in
    let there : k < length self.series.stops.items = omega (arith, few, ap length c.as_slice-3.ensures.value) in
    elim (summed-or-listed (length c.args.book.now.needs) self.priced.leaf c.args.leaf.now self.days.items self.series.stops.items self.series.date_stops.items self.priced.worths.items
    self.priced.sums.items tableau.series.date_stops tableau.series.there tableau.leaf.every_date c.requires.leaf.every_date c.requires.limit tableau.worths tableau.sums k there) [
      | inl summed ↦
          inl (subst (λ (ws : List Worth). IsSummed ws c.as_slice-3.result.now c.as_mut_slice-2.result.now k) (sym (priced c))
          (subst (λ (ss : List Stop). IsSummed (map (worth_on c.args.leaf.now) self.days.items) ss c.as_mut_slice-2.result.now k) (sym c.as_slice-3.ensures.value)
          (subst (λ (ws : List Worth). IsSummed (map (worth_on c.args.leaf.now) self.days.items) self.series.stops.items ws k) (sym c.as_mut_slice-2.ensures.value) summed)))
      | inr change ↦ inr (subst (λ (lists : List DateDays). IsListedAt c.args.dates.now lists k) (sym c.as_slice-5.ensures.value)
          (listed-change-at self.priced.leaf.prices c.args.leaf.now.prices c.args.dates.now self.series.date_stops.items k c.requires.dates change))
    ]
