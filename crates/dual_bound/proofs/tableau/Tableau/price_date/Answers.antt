use Rattle.std.proofs.Common.{◌≡◌, ◌∙◌, ◌⊎◌, ◌+◌, ◌*◌, ◌<◌, ◌≤◌, ◌++◌, ℕ, List, inl, inr, All, drop, get_or, length, map, take, sym, ap, subst, refl, arith}
use Rattle.std.proofs.lemmas.List.{length-map}
use Rattle.std.specs.List.{Contains}
use Rattle.escrow_units.specs.declared.security.Flow.{Flow}
use Rattle.dual_bound.specs.Columns.{AreDateDays, AreSmallSums, AreSums, IsStopWithin, IsSummed, stop_day, worth_on}
use Rattle.dual_bound.specs.LeafBound.{priced_needs}
use Rattle.proof_tree.specs.Tree.{IsLeaf}
use Rattle.dual_bound.specs.declared.date_days.DateDays.{DateDays}
use Rattle.proof_tree.specs.declared.prices.Prices.{Prices}
use Rattle.dual_bound.specs.declared.series.Stop.{Stop}
use Rattle.proof_tree.specs.declared.tree.Leaf.{Leaf}
use Rattle.dual_bound.specs.declared.worth.Worth.{Worth}
use Rattle.dual_bound.proofs.DateFacts.{date-priced}
use Rattle.dual_bound.proofs.NeedsFacts.{cents-there, cents_at, priced-one, priced-set}
use Rattle.dual_bound.proofs.SumFacts.{date-summed, sums-small, written}
use Rattle.dual_bound.proofs.TableauFacts.{worths-light}
use Rattle.dual_bound.proofs.tableau.Tableau.price_date.Goals as goal
use Rattle.dual_bound.proofs.tableau.Tableau.price_date.Goals.{After-as_slice}

-- the cents of the need whose price changes
own_cents : (c : After-as_slice) → (get_or c.needs.result.now c.from.result c.index-needs-from.result).cents.0 ≡ cents_at c.args.book.now.needs c.args.place
own_cents c =
    ap (λ (needs : List Flow). (get_or needs c.from.result c.index-needs-from.result).cents.0) c.needs.ensures.value
    ∙ ap (λ k. (get_or c.args.book.now.needs k c.index-needs-from.result).cents.0) c.from.ensures ∙ cents-there c.args.book.now.needs c.args.place c.index-needs-from.result c.requires.place

pub mended-self-requires-clause-part : goal.mended-self-requires-clause-part
mended-self-requires-clause-part c =
    let own = c.args.self.now.priced.leaf.prices in
    let needs = c.args.book.now.needs in
    let tableau = c.requires.tableau in
    let part : cents_at needs c.args.place * get_or own c.args.place 0 ≤ c.needs_worth.result =
    omega (arith, c.needs_worth.ensures.value, priced-one needs own c.args.place (sym tableau.leaf.every_date) (omega (arith, c.requires.place, tableau.leaf.every_date))) in
    rw (own_cents (goal.at.mended-self-requires-clause-part c).After-as_slice, c.as_slice.ensures, c.from-2.ensures) part

pub mend_at-requires-clause-light : goal.mend_at-requires-clause-light
mend_at-requires-clause-light c =
    let self = c.args.self.now in
    let tableau = c.requires.tableau in
    let leaf : Leaf = record { rho = self.priced.leaf.rho; mu = self.priced.leaf.mu; prices = c.put.new.self; weights = self.priced.leaf.weights } in
    let new = c.price_days_at.new.worths in
    let len : self.priced.worths.len ≡ length new = omega (arith, self.priced.worths.ok.0, c.price_days_at.auto.worths, ap length c.as_mut_slice.ensures.value) in
    let well : IsLeaf (length c.args.book.now.needs) leaf =
    subst (λ (prices : Prices). IsLeaf (length c.args.book.now.needs) (record { rho = self.priced.leaf.rho; mu = self.priced.leaf.mu; prices = prices; weights = self.priced.leaf.weights })) (sym c.put.ensures) c.requires.leaf in
    let priced : new ≡ map (worth_on leaf) c.as_slice-2.result.now =
    date-priced (length c.args.book.now.needs) self.priced.leaf leaf c.args.place c.args.price c.as_slice-2.result.now self.date_days.items c.as_mut_slice.result.now c.price_days_at.new.worths c.index.result.now
    (subst (λ days. AreDateDays (length c.args.book.now.needs) days self.date_days.items) (sym c.as_slice-2.ensures.value) tableau.date_days) tableau.leaf.every_date
    (ap length c.put.ensures ∙ c.requires.leaf.every_date) refl c.put.ensures (c.as_mut_slice.ensures.value ∙ tableau.worths ∙ ap (map (worth_on self.priced.leaf)) (sym c.as_slice-2.ensures.value))
    (c.price_days_at.auto.worths ∙ ap length c.as_mut_slice.ensures.value ∙ ap length tableau.worths ∙ length-map self.days.items (worth_on self.priced.leaf) ∙ sym (ap length c.as_slice-2.ensures.value))
    (λ day few was.
    c.price_days_at.ensures day few
    (elim was [
      | inl before ↦ inl before
      | inr listed ↦
          inr (subst (λ places. Contains places day)
          (ap (λ (l : DateDays). l.places.items) (ap (λ k. get_or self.date_days.items k c.index.result.now) (sym c.from-3.ensures) ∙ sym c.index.ensures) ∙ sym c.as_slice-3.ensures.value) listed)
    ])) in
    worths-light (length c.args.book.now.needs) leaf self.days.items c.as_slice-5.result.now well tableau.powers
    (c.as_slice-5.ensures.value ∙ written new (drop (length new) self.priced.worths.items) self.priced.worths.len len ∙ priced ∙ ap (map (worth_on leaf)) c.as_slice-2.ensures.value)

pub mend_at-requires-clause-small : goal.mend_at-requires-clause-small
mend_at-requires-clause-small c =
    let self = c.args.self.now in
    let tableau = c.requires.tableau in
    subst AreSmallSums (sym c.as_mut_slice-2.ensures.value)
    (sums-small self.priced.worths.items self.series.stops.items self.priced.sums.items tableau.sums
    (worths-light (length c.args.book.now.needs) self.priced.leaf self.days.items self.priced.worths.items tableau.leaf tableau.powers tableau.worths)
    (subst (λ n. All (IsStopWithin n) self.series.stops.items) (omega (arith, ap length tableau.worths, length-map self.days.items (worth_on self.priced.leaf))) tableau.series.there))

pub returns-clause-tableau : goal.returns-clause-tableau
returns-clause-tableau c =
    let self = c.args.self.now in
    let tableau = c.requires.tableau in
    let leaf : Leaf = record { rho = self.priced.leaf.rho; mu = self.priced.leaf.mu; prices = c.put.new.self; weights = self.priced.leaf.weights } in
    let new = c.price_days_at.new.worths in
    let len : self.priced.worths.len ≡ length new = omega (arith, self.priced.worths.ok.0, c.price_days_at.auto.worths, ap length c.as_mut_slice.ensures.value) in
    let priced : new ≡ map (worth_on leaf) c.as_slice-2.result.now =
    date-priced (length c.args.book.now.needs) self.priced.leaf leaf c.args.place c.args.price c.as_slice-2.result.now self.date_days.items c.as_mut_slice.result.now c.price_days_at.new.worths c.index.result.now
    (subst (λ days. AreDateDays (length c.args.book.now.needs) days self.date_days.items) (sym c.as_slice-2.ensures.value) tableau.date_days) tableau.leaf.every_date
    (ap length c.put.ensures ∙ c.requires.leaf.every_date) refl c.put.ensures (c.as_mut_slice.ensures.value ∙ tableau.worths ∙ ap (map (worth_on self.priced.leaf)) (sym c.as_slice-2.ensures.value))
    (c.price_days_at.auto.worths ∙ ap length c.as_mut_slice.ensures.value ∙ ap length tableau.worths ∙ length-map self.days.items (worth_on self.priced.leaf) ∙ sym (ap length c.as_slice-2.ensures.value))
    (λ day few was.
    c.price_days_at.ensures day few
    (elim was [
      | inl before ↦ inl before
      | inr listed ↦
          inr (subst (λ places. Contains places day)
          (ap (λ (l : DateDays). l.places.items) (ap (λ k. get_or self.date_days.items k c.index.result.now) (sym c.from-3.ensures) ∙ sym c.index.ensures) ∙ sym c.as_slice-3.ensures.value) listed)
    ])) in
    let worths : take self.priced.worths.len (new ++ drop (length new) self.priced.worths.items) ≡ map (worth_on leaf) self.days.items =
    written new (drop (length new) self.priced.worths.items) self.priced.worths.len len ∙ priced ∙ ap (map (worth_on leaf)) c.as_slice-2.ensures.value in
    let stops = c.as_slice-4.result.now in
    let places : (get_or self.series.date_stops.items c.args.place c.index-2.result.now).places.items ≡ c.as_slice-6.result.now =
    ap (λ (l : DateDays). l.places.items) (ap (λ k. get_or self.series.date_stops.items k c.index-2.result.now) (sym c.from-4.ensures) ∙ sym c.index-2.ensures) ∙ sym c.as_slice-6.ensures.value in
    let mended = subst (λ (ws : List Worth). (k : ℕ) → k < length stops → IsSummed ws stops c.as_mut_slice-2.result.now k ⊎ Contains c.as_slice-6.result.now k → IsSummed ws stops c.mend_at.new.sums k)
    (c.as_slice-5.ensures.value ∙ worths) c.mend_at.ensures.summed in
    let start : AreSums self.priced.worths.items stops c.as_mut_slice-2.result.now =
    subst (λ (ss : List Stop). AreSums self.priced.worths.items ss c.as_mut_slice-2.result.now) (sym c.as_slice-4.ensures.value)
    (subst (λ (ws : List Worth). AreSums self.priced.worths.items self.series.stops.items ws) (sym c.as_mut_slice-2.ensures.value) tableau.sums) in
    let every : length c.mend_at.new.sums ≡ length stops = c.mend_at.auto.sums ∙ start.every in
    let summed : AreSums (map (worth_on leaf) self.days.items) stops c.mend_at.new.sums =
    date-summed (length c.args.book.now.needs) self.priced.leaf leaf c.args.place c.args.price self.days.items stops self.series.date_stops.items c.as_mut_slice-2.result.now c.mend_at.new.sums
    self.priced.worths.items c.index-2.result.now
    (subst (λ (ss : List Stop). AreDateDays (length c.args.book.now.needs) (map (stop_day (length c.args.book.now.needs) self.days.items) ss) self.series.date_stops.items) (sym c.as_slice-4.ensures.value) tableau.series.date_stops)
    (subst (All (IsStopWithin (length self.days.items))) (sym c.as_slice-4.ensures.value) tableau.series.there) tableau.leaf.every_date (ap length c.put.ensures ∙ c.requires.leaf.every_date) refl c.put.ensures
    tableau.worths start every (λ k few was. mended k few (elim was [ inl before ↦ inl before | inr listed ↦ inr (subst (λ ks. Contains ks k) places listed) ])) in
    let mended : c.mended-self.result + cents_at c.args.book.now.needs c.args.place * get_or self.priced.leaf.prices c.args.place 0
    ≡ c.needs_worth.result + cents_at c.args.book.now.needs c.args.place * c.args.price =
    rw (← own_cents (goal.at.returns-clause-tableau c).After-as_slice, ← c.as_slice.ensures, ← c.from-2.ensures) c.mended-self.ensures in
    let sums_len : self.priced.sums.len ≡ length c.mend_at.new.sums = omega (arith, self.priced.sums.ok.0, c.mend_at.auto.sums, ap length c.as_mut_slice-2.ensures.value) in
    let sums : take self.priced.sums.len (c.mend_at.new.sums ++ drop (length c.mend_at.new.sums) self.priced.sums.items) ≡ c.mend_at.new.sums =
    written c.mend_at.new.sums (drop (length c.mend_at.new.sums) self.priced.sums.items) self.priced.sums.len sums_len in
    record {
      limits = tableau.limits;
      leaf = subst (λ (prices : Prices). IsLeaf (length c.args.book.now.needs) (record { rho = self.priced.leaf.rho; mu = self.priced.leaf.mu; prices = prices; weights = self.priced.leaf.weights })) (sym c.put.ensures) c.requires.leaf;
      unweighted = tableau.unweighted;
      powers = tableau.powers;
      columns = tableau.columns;
      small = tableau.small;
      date_days = tableau.date_days;
      worths = worths;
      series = tableau.series;
      needs = omega (
        arith,
        mended,
        c.needs_worth.ensures.value,
        priced-set c.args.book.now.needs self.priced.leaf.prices c.args.place c.args.price (sym tableau.leaf.every_date)
            (omega (arith, c.requires.place, tableau.leaf.every_date)),
      ) ∙ ap (priced_needs c.args.book.now.needs) (sym c.put.ensures);
      sums = subst (λ (ws : List Worth). AreSums ws self.series.stops.items (take self.priced.sums.len (c.mend_at.new.sums ++ drop (length c.mend_at.new.sums) self.priced.sums.items))) (sym worths)
          (subst (λ (ws : List Worth). AreSums (map (worth_on leaf) self.days.items) self.series.stops.items ws) (sym sums)
          (subst (λ (ss : List Stop). AreSums (map (worth_on leaf) self.days.items) ss c.mend_at.new.sums) c.as_slice-4.ensures.value summed));
    }
