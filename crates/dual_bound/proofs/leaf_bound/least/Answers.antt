use mir.Syntax.{w128}
use Rattle.std.proofs.Common.{◌≡◌, ◌∙◌, ◌*◌, ◌^◌, ◌≤◌, ℤ, ◌-ℤ◌, ◌*ℤ◌, pos, sym, ap, subst, arith, unsigned_abs}
use Rattle.std.proofs.lemmas.Int.{to_z-of_z}
use Rattle.dual_bound.specs.LeafBound.{credited, least_by, priced_form}
use Rattle.dual_bound.specs.declared.form.Form.{Form}
use Rattle.dual_bound.proofs.BoundSizes.{cost-small, credited-times, form-slack, least-apart, least-one, least-room, least-small, load-times, slope-small}
use Rattle.dual_bound.proofs.LoadFacts.{line-load, load-is}
use Rattle.dual_bound.proofs.leaf_bound.least.Goals as goal

pub credited_cost-requires-clause-cost : goal.credited_cost-requires-clause-cost
credited_cost-requires-clause-cost c =
    let cost = to_z-of_z w128 c.priced_cost-cost.result (record { sfits = c.priced_cost-cost.type_inv }) ∙ c.priced_cost-cost.ensures in
    omega (
      arith,
      ap unsigned_abs cost,
      cost-small c.args.powers.now.yield_units c.args.book.now c.args.leaf.now c.args.line.now c.args.interval.low c.requires.limits.settlement c.requires.leaf c.requires.line (omega (arith, c.requires.ordered, c.requires.high)),
    )

pub credited_cost-requires-clause-load : goal.credited_cost-requires-clause-load
credited_cost-requires-clause-load c =
    let load = line-load c.args.book.now c.args.leaf.now c.args.line.now c.args.unit_load c.requires.leaf c.requires.line c.requires.load in
    omega (
      arith,
      ap (λ (z : ℤ). unsigned_abs z * c.args.interval.low) (to_z-of_z w128 c.args.unit_load c.ranges.unit_load),
      load-times c.args.line.now c.args.unit_load c.args.interval.low load (omega (arith, c.requires.ordered, c.requires.high)),
    )

pub credited-requires-clause-slope : goal.credited-requires-clause-slope
credited-requires-clause-slope c =
    omega (
      arith,
      ap (λ (f : Form). unsigned_abs f.slope) c.priced_form.ensures,
      slope-small c.args.powers.now.yield_units c.args.book.now c.args.leaf.now c.args.line.now c.requires.limits.settlement c.requires.leaf c.requires.line,
    )

pub credited-requires-clause-load : goal.credited-requires-clause-load
credited-requires-clause-load c =
    omega (
      arith,
      ap unsigned_abs (to_z-of_z w128 c.args.unit_load c.ranges.unit_load),
      (line-load c.args.book.now c.args.leaf.now c.args.line.now c.args.unit_load c.requires.leaf c.requires.line c.requires.load).unit,
    )

-- the form by which a line is bounded
form-is : (c : goal.After-least_within-arg-1) → c.credited.result ≡ credited (priced_form c.args.powers.now.yield_units c.args.book.now c.args.leaf.now c.args.line.now) c.args.unit_load
form-is c = c.credited.ensures ∙ (λ i. credited (c.priced_form.ensures i) (to_z-of_z w128 c.args.unit_load c.ranges.unit_load i))

pub least_within-requires-clause-low : goal.least_within-requires-clause-low
least_within-requires-clause-low c =
    let load = line-load c.args.book.now c.args.leaf.now c.args.line.now c.args.unit_load c.requires.leaf c.requires.line c.requires.load in
    omega (
      arith,
      ap (λ (f : Form). unsigned_abs f.slope * c.args.interval.low) (form-is c),
      credited-times c.args.powers.now.yield_units c.args.book.now c.args.leaf.now c.args.line.now c.args.unit_load c.args.interval.low c.requires.limits.settlement c.requires.leaf c.requires.line load
          (omega (arith, c.requires.ordered, c.requires.high)),
    )

pub least_within-requires-clause-high : goal.least_within-requires-clause-high
least_within-requires-clause-high c =
    let load = line-load c.args.book.now c.args.leaf.now c.args.line.now c.args.unit_load c.requires.leaf c.requires.line c.requires.load in
    omega (
      arith,
      ap (λ (f : Form). unsigned_abs f.slope * c.args.interval.high) (form-is c),
      credited-times c.args.powers.now.yield_units c.args.book.now c.args.leaf.now c.args.line.now c.args.unit_load c.args.interval.high c.requires.limits.settlement c.requires.leaf c.requires.line load c.requires.high,
    )

pub least_within-requires-clause-least : goal.least_within-requires-clause-least
least_within-requires-clause-least c =
    let load = line-load c.args.book.now c.args.leaf.now c.args.line.now c.args.unit_load c.requires.leaf c.requires.line c.requires.load in
    omega (
      arith,
      ap (λ (f : Form). unsigned_abs f.slope * c.args.line.now.least) (form-is c),
      credited-times c.args.powers.now.yield_units c.args.book.now c.args.leaf.now c.args.line.now c.args.unit_load c.args.line.now.least c.requires.limits.settlement c.requires.leaf c.requires.line load
          (least-room c.args.book.now.days c.args.line.now c.args.interval c.requires.line c.requires.ordered c.requires.high c.if-interval.false),
    )

pub least_within-requires-clause-slack : goal.least_within-requires-clause-slack
least_within-requires-clause-slack c =
    omega (
      arith,
      ap (λ (f : Form). f.slack) (form-is c),
      form-slack c.args.powers.now.yield_units c.args.book.now c.args.leaf.now c.args.line.now c.requires.limits.settlement c.requires.leaf c.requires.line,
    )

pub returns-then-interval-clause-value : goal.returns-then-interval-clause-value
returns-then-interval-clause-value c =
    let n = c.args.powers.now.yield_units in
    let cost = to_z-of_z w128 c.priced_cost-cost.result (record { sfits = c.priced_cost-cost.type_inv }) ∙ c.priced_cost-cost.ensures in
    to_z-of_z w128 c.credited_cost.result (record { sfits = c.credited_cost.type_inv }) ∙ c.credited_cost.ensures
    ∙ (λ i. cost i -ℤ to_z-of_z w128 c.args.unit_load c.ranges.unit_load i *ℤ pos c.args.interval.low)
    ∙ least-one n c.args.book.now c.args.leaf.now c.args.line.now c.args.unit_load c.args.interval c.if-interval.true
    ∙ ap (λ (z : ℤ). least_by n c.args.book.now c.args.leaf.now c.args.line.now z c.args.interval) c.requires.load

pub returns-then-interval-clause-size : goal.returns-then-interval-clause-size
returns-then-interval-clause-size c =
    subst (λ z. unsigned_abs z ≤ 71 * 10 ^ 33) (sym (returns-then-interval-clause-value c))
    (least-small c.args.powers.now.yield_units c.args.book.now c.args.leaf.now c.args.line.now _ c.args.interval c.requires.limits.settlement c.requires.leaf c.requires.line
    (load-is c.args.book.now c.args.leaf.now.weights c.args.line.now c.requires.leaf.weights c.requires.line) c.requires.ordered c.requires.high)

pub returns-clause-value : goal.returns-clause-value
returns-clause-value c =
    let n = c.args.powers.now.yield_units in
    to_z-of_z w128 c.least_within.result (record { sfits = c.least_within.type_inv }) ∙ c.least_within.ensures.value
    ∙ least-apart n c.args.book.now c.args.leaf.now c.args.line.now c.args.unit_load c.args.interval c.credited.result (form-is c.before) c.if-interval.false
    ∙ ap (λ (z : ℤ). least_by n c.args.book.now c.args.leaf.now c.args.line.now z c.args.interval) c.requires.load

pub returns-clause-size : goal.returns-clause-size
returns-clause-size c =
    subst (λ z. unsigned_abs z ≤ 71 * 10 ^ 33) (sym (returns-clause-value c))
    (least-small c.args.powers.now.yield_units c.args.book.now c.args.leaf.now c.args.line.now _ c.args.interval c.requires.limits.settlement c.requires.leaf c.requires.line
    (load-is c.args.book.now c.args.leaf.now.weights c.args.line.now c.requires.leaf.weights c.requires.line) c.requires.ordered c.requires.high)
