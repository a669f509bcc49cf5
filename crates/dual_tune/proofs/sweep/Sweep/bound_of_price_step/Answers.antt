use mir.Syntax.{w128}
use Rattle.std.proofs.Common.{◌≡◌, ◌∙◌, ◌*◌, ◌<◌, true, length, get_or, sym, ap, subst, arith, pos, ◌+ℤ◌, ◌-ℤ◌}
use Rattle.std.proofs.lemmas.Int.{to_z-of_z}
use Rattle.escrow_units.specs.declared.security.Flow.{Flow}
use Rattle.offer_book.specs.declared.coefficients.TheConstants.{COEFFICIENT_SCALE}
use Rattle.dual_bound.proofs.Signed.{read-again}
use Rattle.proof_tree.specs.Tree.{IsLeaf, with_price}
use Rattle.proof_tree.specs.declared.tree.Leaf.{Leaf}
use Rattle.offer_book.specs.Book.{BookContents}
use Rattle.dual_tune.specs.Payers.{ArePayers}
use Rattle.dual_tune.specs.Steps.{price_beside}
use Rattle.dual_tune.specs.Sweep.{AreLeasts, bound_at}
use Rattle.dual_tune.specs.Table.{AreFormsOf}
use Rattle.dual_tune.proofs.SweepFacts.{bound-changed, leaf-beside, one-within, put-back, set-at}
use Rattle.dual_tune.proofs.TableFacts.{priced-for, some-item}
use Rattle.dual_tune.proofs.sweep.Sweep.bound_of_price_step.Goals as goal
use Rattle.dual_tune.proofs.sweep.Sweep.bound_of_price_step.Goals.{After-price_beside-price, After-price_step_for}

-- the price is that beside the one at the place
price-is : (c : After-price_beside-price) → c.price_beside-price.result ≡ price_beside c.args.given.now.leaf.now.prices c.args.place c.args.side
price-is c = c.price_beside-price.ensures ∙ ap (λ prices. price_beside prices c.args.place c.args.side) c.as_slice-prices.ensures

-- the step goes to a leaf
step-leaf : (c : After-price_beside-price) → IsLeaf (length c.args.given.now.book.now.needs) (with_price c.args.given.now.leaf.now c.args.place c.price_beside-price.result)
step-leaf c =
    let given = c.args.given.now in
    let dates = length given.book.now.needs in
    subst (λ price. IsLeaf dates (with_price given.leaf.now c.args.place price)) (sym (price-is c)) (leaf-beside dates given.leaf.now c.args.place c.args.side given.well_formed c.requires.place)

-- where ranges hold a point, the columns are priced there
step-priced : (c : After-price_step_for) → c.args.self.now.points ≡ true → c.price_step_for.new.columns.leaf ≡ with_price c.args.given.now.leaf.now c.args.place c.price_beside-price.result
step-priced c points = c.price_step_for.ensures.priced points ∙ ap (λ (l : Leaf). with_price l c.args.place c.price_beside-price.result) (c.requires.kept.priced points)

-- and then the price is put back
put_back : (c : After-price_step_for) → c.args.self.now.points ≡ true
    → with_price c.price_step_for.new.columns.leaf c.args.place (get_or c.as_slice-prices.result.now c.from-at.result 0) ≡ c.args.given.now.leaf.now
put_back c points =
    let old = get_or c.as_slice-prices.result.now c.from-at.result 0 in
    ap (λ (l : Leaf). with_price l c.args.place old) (step-priced c points)
    ∙ put-back c.args.given.now.leaf.now c.args.place c.price_beside-price.result old (λ i. get_or (c.as_slice-prices.ensures i) (c.from-at.ensures i) 0)

pub price_step_for-requires-clause-leaf : goal.price_step_for-requires-clause-leaf
price_step_for-requires-clause-leaf c =
    λ points.
    let given = c.args.given.now in
    subst (λ (b : BookContents). IsLeaf (length b.needs) (with_price c.args.self.now.columns.leaf c.args.place c.price_beside-price.result)) (sym c.requires.kept.ready.kept.own)
    (subst (λ (l : Leaf). IsLeaf (length given.book.now.needs) (with_price l c.args.place c.price_beside-price.result)) (sym (c.requires.kept.priced points))
    (step-leaf (goal.at.price_step_for-requires-clause-leaf c).After-price_beside-price))

pub lines_change-lines-requires-clause-own : goal.lines_change-lines-requires-clause-own
lines_change-lines-requires-clause-own c =
    let kept = c.requires.kept.ready.kept in
    record { book = c.price_step_for.ensures.own ∙ kept.own; yield_units = c.price_step_for.ensures.yield_units ∙ kept.yield_units }

pub lines_change-lines-requires-clause-priced : goal.lines_change-lines-requires-clause-priced
lines_change-lines-requires-clause-priced c =
    priced-for c.args.self.now.points c.args.given.now.ranges.now.lines c.price_step_for.new.columns.leaf (with_price c.args.given.now.leaf.now c.args.place c.price_beside-price.result)
    c.requires.kept.ready.points (step-priced (goal.at.lines_change-lines-requires-clause-priced c).After-price_step_for)

pub lines_change-lines-requires-clause-leasts : goal.lines_change-lines-requires-clause-leasts
lines_change-lines-requires-clause-leasts c = subst (AreLeasts c.args.given.now) (sym c.as_slice.ensures.value) c.requires.kept.leasts

pub lines_change-lines-requires-clause-step : goal.lines_change-lines-requires-clause-step
lines_change-lines-requires-clause-step c =
    let given = c.args.given.now in
    let n = given.yield_units.0 in
    let book = given.book.now in
    let side = c.args.side in
    let table = c.args.self.now.table in
    let is = c.requires.kept.ready.kept.table in
    let before = (goal.at.lines_change-lines-requires-clause-step c).After-price_beside-price in
    let few : c.args.place < length table.dates.items = omega (arith, is.room.dates, c.requires.place) in
    let date = some-item table.dates.items c.args.place few in
    let payers = some-item table.payers.items c.args.place (omega (arith, is.room.payers.every_date, c.requires.place)) in
    let lines = sym (c.payers_of.ensures payers) in
    let stepped = with_price table.leaf c.args.place (price_beside table.leaf.prices c.args.place side) in
    let leaf : stepped ≡ with_price given.leaf.now c.args.place c.price_beside-price.result =
    ap (λ (l : Leaf). with_price l c.args.place (price_beside l.prices c.args.place side)) c.requires.kept.ready.leaf ∙ ap (with_price given.leaf.now c.args.place) (sym (price-is before)) in
    record {
      place = c.requires.place;
      leaf = step-leaf before;
      payers = subst (ArePayers book (length book.lines) c.args.place) lines (is.room.payers.payers c.args.place payers c.requires.place);
      room = ap length (c.step_forms.ensures date) ∙ is.room.steps c.args.place date payers few side ∙ ap length lines;
      forms = subst (λ (l : Leaf). AreFormsOf n book l c.payers_of.result.now c.step_forms.result.now) leaf
          (subst (λ lines. AreFormsOf n book stepped lines c.step_forms.result.now) lines
          (subst (AreFormsOf n book stepped (get_or table.payers.items c.args.place payers).lines.items) (sym (c.step_forms.ensures date)) (is.steps c.args.place date payers c.requires.place side)));
    }

pub needs_change-requires-clause-cents : goal.needs_change-requires-clause-cents
needs_change-requires-clause-cents c =
    let needs = c.args.given.now.book.now.needs in
    let own : get_or c.needs.result.now c.from-at.result c.index-needs-at.result ≡ get_or needs c.args.place c.index-needs-at.result =
    (λ i. get_or (c.needs.ensures.value i) (c.from-at.ensures i) c.index-needs-at.result) in
    omega (arith, one-within needs c.args.place c.index-needs-at.result c.requires.place, c.needs.ensures.limits.needs.small, ap (λ (f : Flow). f.cents.0) own)

pub needs_change-requires-clause-new : goal.needs_change-requires-clause-new
needs_change-requires-clause-new c =
    let leaf = c.args.given.now.leaf.now in
    let step = step-leaf (goal.at.needs_change-requires-clause-new c).After-price_beside-price in
    omega (
      arith,
      step.range c.args.place 0 (omega (arith, step.every_date, c.requires.place)),
      set-at leaf.prices c.args.place c.price_beside-price.result (omega (arith, c.requires.place, c.args.given.now.well_formed.every_date)),
    )

pub price_step_for-requires-2-clause-leaf : goal.price_step_for-requires-2-clause-leaf
price_step_for-requires-2-clause-leaf c =
    λ points.
    let given = c.args.given.now in
    let old = get_or c.as_slice-prices.result.now c.from-at.result 0 in
    let own : c.price_step_for.new.columns.book ≡ given.book.now = c.price_step_for.ensures.own ∙ c.requires.kept.ready.kept.own in
    subst (λ (b : BookContents). IsLeaf (length b.needs) (with_price c.price_step_for.new.columns.leaf c.args.place old)) (sym own)
    (subst (IsLeaf (length given.book.now.needs)) (sym (put_back (goal.at.price_step_for-requires-2-clause-leaf c).After-price_step_for points)) given.well_formed)

pub returns-clause-kept : goal.returns-clause-kept
returns-clause-kept c =
    let kept = c.requires.kept.ready.kept in
    record {
      ready = record {
        kept = record {
          own = c.price_step_for-2.ensures.own ∙ c.price_step_for.ensures.own ∙ kept.own;
          yield_units = c.price_step_for-2.ensures.yield_units ∙ c.price_step_for.ensures.yield_units ∙ kept.yield_units;
          table = kept.table;
          places = kept.places;
          small = kept.small;
          trial = kept.trial;
        };
        leaf = c.requires.kept.ready.leaf;
        points = c.requires.kept.ready.points;
      };
      priced = λ points. c.price_step_for-2.ensures.priced points ∙ put_back (goal.at.returns-clause-kept c).After-price_step_for points;
      leasts = c.requires.kept.leasts;
      bound = c.requires.kept.bound;
      size = c.requires.kept.size;
    }

pub returns-clause-value : goal.returns-clause-value
returns-clause-value c =
    let given = c.args.given.now in
    let flow = c.index-needs-at.result in
    let own : get_or c.needs.result.now c.from-at.result flow ≡ get_or given.book.now.needs c.args.place flow = (λ i. get_or (c.needs.ensures.value i) (c.from-at.ensures i) flow) in
    let bound = read-again c.args.self.now.bound (omega (arith, c.requires.kept.size)) ∙ c.requires.kept.bound in
    let needs = to_z-of_z w128 c.needs_change.result (record { sfits = c.needs_change.type_inv }) in
    let lines = to_z-of_z w128 c.lines_change-lines.result (record { sfits = c.lines_change-lines.type_inv }) in
    to_z-of_z w128 c.changed.result (record { sfits = c.changed.type_inv }) ∙ c.changed.ensures
    ∙ (λ i. (bound i +ℤ needs i) +ℤ lines i)
    ∙ bound-changed given c.args.place c.price_beside-price.result flow c.needs_change.result c.lines_change-lines.result c.requires.place
    (c.needs_change.ensures.value
    ∙ (λ i.
    pos (COEFFICIENT_SCALE * ((own i).cents.0 * c.price_beside-price.result)) -ℤ pos (COEFFICIENT_SCALE * ((own i).cents.0 * get_or (c.as_slice-prices.ensures i) (c.from-at.ensures i) 0))))
    c.lines_change-lines.ensures.value
    ∙ ap (λ price. bound_at given (with_price given.leaf.now c.args.place price)) (price-is (goal.at.returns-clause-value c).After-price_beside-price)
