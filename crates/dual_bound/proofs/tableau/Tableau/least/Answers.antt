use mir.Syntax.{w128}
use Rattle.std.proofs.Common.{◌≡◌, ◌∙◌, ◌≤◌, ◌*◌, ◌^◌, ℤ, ◌-ℤ◌, ◌*ℤ◌, get_or, pos, sym, ap, subst, arith, unsigned_abs}
use Rattle.std.proofs.lemmas.Int.{to_z-of_z}
use Rattle.std.proofs.lemmas.List.{get_or_default}
use Rattle.offer_book.specs.Book.{IsLine}
use Rattle.offer_book.specs.declared.line.Line.{Line}
use Rattle.dual_bound.specs.LeafBound.{credited, least_by, priced_form}
use Rattle.dual_bound.specs.Loads.{IsLoad}
use Rattle.dual_bound.specs.declared.form.Form.{Form}
use Rattle.dual_bound.proofs.BoundSizes.{cost-small, credited-times, form-slack, least-apart, least-one, least-room, least-small, load-times, slope-small}
use Rattle.dual_bound.proofs.Soundness.{all-lines}
use Rattle.dual_bound.proofs.TableauFacts.{some-line}
use Rattle.dual_bound.proofs.tableau.Tableau.least.Goals as goal

pub credited_cost-requires-clause-cost : goal.credited_cost-requires-clause-cost
credited_cost-requires-clause-cost c =
    let line = get_or c.args.book.now.lines c.args.line some-line in
    let cost = to_z-of_z w128 c.priced_cost-cost.result (record { sfits = c.priced_cost-cost.type_inv }) ∙ c.priced_cost-cost.ensures some-line in
    omega (
      arith,
      ap unsigned_abs cost,
      cost-small c.args.self.now.yield_units.0 c.args.book.now c.args.self.now.priced.leaf line c.args.interval.low c.requires.tableau.limits.settlement c.requires.tableau.leaf
          (all-lines c.args.book.now.days c.args.book.now.lines c.requires.tableau.limits.lines c.args.line some-line c.requires.line) (omega (arith, c.requires.ordered, c.requires.high some-line)),
    )

pub credited_cost-requires-clause-load : goal.credited_cost-requires-clause-load
credited_cost-requires-clause-load c =
    let line = get_or c.args.book.now.lines c.args.line some-line in
    omega (
      arith,
      ap (λ (z : ℤ). unsigned_abs z * c.args.interval.low) (to_z-of_z w128 c.args.unit_load c.ranges.unit_load),
      load-times line c.args.unit_load c.args.interval.low (c.requires.load some-line) (omega (arith, c.requires.ordered, c.requires.high some-line)),
    )

pub credited-requires-clause-slope : goal.credited-requires-clause-slope
credited-requires-clause-slope c =
    let line = get_or c.args.book.now.lines c.args.line some-line in
    omega (
      arith,
      ap (λ (f : Form). unsigned_abs f.slope) (c.form.ensures some-line),
      slope-small c.args.self.now.yield_units.0 c.args.book.now c.args.self.now.priced.leaf line c.requires.tableau.limits.settlement c.requires.tableau.leaf
          (all-lines c.args.book.now.days c.args.book.now.lines c.requires.tableau.limits.lines c.args.line some-line c.requires.line),
    )

pub credited-requires-clause-load : goal.credited-requires-clause-load
credited-requires-clause-load c = omega (arith, ap unsigned_abs (to_z-of_z w128 c.args.unit_load c.ranges.unit_load), (c.requires.load some-line).unit)

-- the form by which the line is bounded
form-is : (c : goal.After-line) → c.credited.result ≡ credited (priced_form c.args.self.now.yield_units.0 c.args.book.now c.args.self.now.priced.leaf c.line.result.now) c.args.unit_load
form-is c =
    c.credited.ensures
    ∙ (λ i. credited ((c.form.ensures c.line.result.now ∙ ap (priced_form c.args.self.now.yield_units.0 c.args.book.now c.args.self.now.priced.leaf) (sym c.line.ensures)) i) (to_z-of_z w128 c.args.unit_load c.ranges.unit_load i))

line-is : (c : goal.After-line) → IsLine c.args.book.now.days c.line.result.now
line-is c =
    subst (IsLine c.args.book.now.days) (sym c.line.ensures)
    (all-lines c.args.book.now.days c.args.book.now.lines c.requires.tableau.limits.lines c.args.line c.line.result.now c.requires.line)

high : (c : goal.After-line) → c.args.interval.high ≤ c.line.result.now.most
high c = subst (λ (l : Line). c.args.interval.high ≤ l.most) (sym c.line.ensures) (c.requires.high c.line.result.now)

load-is : (c : goal.After-line) → IsLoad c.line.result.now c.args.unit_load
load-is c = subst (λ (l : Line). IsLoad l c.args.unit_load) (sym c.line.ensures) (c.requires.load c.line.result.now)

pub least_within-requires-clause-low : goal.least_within-requires-clause-low
least_within-requires-clause-low c =
    omega (
      arith,
      ap (λ (f : Form). unsigned_abs f.slope * c.args.interval.low) (form-is c),
      credited-times c.args.self.now.yield_units.0 c.args.book.now c.args.self.now.priced.leaf c.line.result.now c.args.unit_load c.args.interval.low c.requires.tableau.limits.settlement
          c.requires.tableau.leaf (line-is c) (load-is c) (omega (arith, c.requires.ordered, high c)),
    )

pub least_within-requires-clause-high : goal.least_within-requires-clause-high
least_within-requires-clause-high c =
    omega (
      arith,
      ap (λ (f : Form). unsigned_abs f.slope * c.args.interval.high) (form-is c),
      credited-times c.args.self.now.yield_units.0 c.args.book.now c.args.self.now.priced.leaf c.line.result.now c.args.unit_load c.args.interval.high c.requires.tableau.limits.settlement
          c.requires.tableau.leaf (line-is c) (load-is c) (high c),
    )

pub least_within-requires-clause-least : goal.least_within-requires-clause-least
least_within-requires-clause-least c =
    omega (
      arith,
      ap (λ (f : Form). unsigned_abs f.slope * c.line.result.now.least) (form-is c),
      credited-times c.args.self.now.yield_units.0 c.args.book.now c.args.self.now.priced.leaf c.line.result.now c.args.unit_load c.line.result.now.least c.requires.tableau.limits.settlement
          c.requires.tableau.leaf (line-is c) (load-is c) (least-room c.args.book.now.days c.line.result.now c.args.interval (line-is c) c.requires.ordered (high c) c.if-interval.false),
    )

pub least_within-requires-clause-slack : goal.least_within-requires-clause-slack
least_within-requires-clause-slack c =
    omega (
      arith,
      ap (λ (f : Form). f.slack) (form-is c),
      form-slack c.args.self.now.yield_units.0 c.args.book.now c.args.self.now.priced.leaf c.line.result.now c.requires.tableau.limits.settlement c.requires.tableau.leaf (line-is c),
    )

pub returns-then-interval-clause-value : goal.returns-then-interval-clause-value
returns-then-interval-clause-value c =
    λ d.
    let cost = to_z-of_z w128 c.priced_cost-cost.result (record { sfits = c.priced_cost-cost.type_inv }) ∙ c.priced_cost-cost.ensures d in
    to_z-of_z w128 c.credited_cost.result (record { sfits = c.credited_cost.type_inv }) ∙ c.credited_cost.ensures
    ∙ (λ i. cost i -ℤ to_z-of_z w128 c.args.unit_load c.ranges.unit_load i *ℤ pos c.args.interval.low)
    ∙ least-one c.args.self.now.yield_units.0 c.args.book.now c.args.self.now.priced.leaf (get_or c.args.book.now.lines c.args.line d) c.args.unit_load c.args.interval c.if-interval.true

pub returns-then-interval-clause-size : goal.returns-then-interval-clause-size
returns-then-interval-clause-size c =
    let line = get_or c.args.book.now.lines c.args.line some-line in
    subst (λ z. unsigned_abs z ≤ 71 * 10 ^ 33) (sym (returns-then-interval-clause-value c some-line))
    (least-small c.args.self.now.yield_units.0 c.args.book.now c.args.self.now.priced.leaf line c.args.unit_load c.args.interval c.requires.tableau.limits.settlement c.requires.tableau.leaf
    (all-lines c.args.book.now.days c.args.book.now.lines c.requires.tableau.limits.lines c.args.line some-line c.requires.line) (c.requires.load some-line) c.requires.ordered (c.requires.high some-line))

pub returns-clause-value : goal.returns-clause-value
returns-clause-value c =
    let n = c.args.self.now.yield_units.0 in
    λ d.
    to_z-of_z w128 c.least_within.result (record { sfits = c.least_within.type_inv }) ∙ c.least_within.ensures.value
    ∙ least-apart n c.args.book.now c.args.self.now.priced.leaf c.line.result.now c.args.unit_load c.args.interval c.credited.result (form-is c.before) c.if-interval.false
    ∙ ap (λ (l : Line). least_by n c.args.book.now c.args.self.now.priced.leaf l c.args.unit_load c.args.interval)
    (c.line.ensures ∙ get_or_default c.args.book.now.lines c.args.line c.line.result.now d c.requires.line)

pub returns-clause-size : goal.returns-clause-size
returns-clause-size c =
    let line = get_or c.args.book.now.lines c.args.line some-line in
    subst (λ z. unsigned_abs z ≤ 71 * 10 ^ 33) (sym (returns-clause-value c some-line))
    (least-small c.args.self.now.yield_units.0 c.args.book.now c.args.self.now.priced.leaf line c.args.unit_load c.args.interval c.requires.tableau.limits.settlement c.requires.tableau.leaf
    (all-lines c.args.book.now.days c.args.book.now.lines c.requires.tableau.limits.lines c.args.line some-line c.requires.line) (c.requires.load some-line) c.requires.ordered (c.requires.high some-line))
