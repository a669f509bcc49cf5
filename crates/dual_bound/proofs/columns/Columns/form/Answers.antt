use Rattle.std.proofs.Common.{◌≡◌, ◌∙◌, ◌*◌, ◌<◌, ◌≤◌, get_or, length, sym, ap, subst, arith, unsigned_abs}
use Rattle.dual_bound.specs.Columns.{ColumnsContents}
use Rattle.offer_book.specs.declared.line.Line.{Line}
use Rattle.dual_bound.specs.LeafBound.{credited, form_of, priced_form, unit_load}
use Rattle.dual_bound.specs.declared.form.Form.{Form}
use Rattle.dual_bound.proofs.BoundSizes.{credited-times, form-slack, slope-small}
use Rattle.dual_bound.proofs.LeastFacts.{form-weighted}
use Rattle.dual_bound.proofs.LoadFacts.{load-is}
use Rattle.dual_bound.proofs.Signed.{read-again}
use Rattle.dual_bound.proofs.Soundness.{all-lines}
use Rattle.dual_bound.proofs.TableauFacts.{some-line}
use Rattle.dual_bound.proofs.columns.Columns.form.Goals as goal

pub credited-requires-clause-slope : goal.credited-requires-clause-slope
credited-requires-clause-slope c =
    let book = c.self.inside.book.now in
    let line = get_or book.lines c.args.line some-line in
    let there = subst (λ (v : ColumnsContents). c.args.line < length v.book.lines) (sym c.self.view_is) c.requires in
    omega (
      arith,
      ap (λ (f : Form). unsigned_abs f.slope) (c.form.ensures some-line),
      slope-small c.self.inside.tableau.yield_units.0 book c.self.inside.tableau.priced.leaf line c.self.invariant.0.known.of_book.limits.settlement c.self.invariant.0.known.of_book.leaf
          (all-lines book.days book.lines c.self.invariant.0.known.of_book.limits.lines c.args.line some-line there),
    )

-- the form of a line, with what its weights of sums credit
form-is : (c : goal.After-credited) (d : Line)
    → c.credited.result
    ≡ credited (priced_form c.self.inside.tableau.yield_units.0 c.self.inside.book.now c.self.inside.tableau.priced.leaf (get_or c.self.inside.book.now.lines c.args.line d))
    (unit_load c.self.inside.book.now c.self.inside.loads.weights.items (get_or c.self.inside.book.now.lines c.args.line d))
form-is c d =
    c.credited.ensures ∙ (λ i. credited (c.form.ensures d i) ((read-again c.unit.result (omega (arith, c.unit.ensures.small)) ∙ c.unit.ensures.value d) i))

pub returns-clause-value : goal.returns-clause-value
returns-clause-value c =
    subst (λ (v : ColumnsContents). (d : Line) → c.credited.result ≡ form_of v.yield_units v.book v.leaf (get_or v.book.lines c.args.line d)) c.self.view_is
    (λ d.
    form-is c d
    ∙ ap (λ (f : Form). credited f (unit_load c.self.inside.book.now c.self.inside.loads.weights.items (get_or c.self.inside.book.now.lines c.args.line d)))
    (form-weighted c.self.inside.tableau.yield_units.0 c.self.inside.book.now c.self.inside.tableau.priced.leaf c.self.inside.loads.weights.items (get_or c.self.inside.book.now.lines c.args.line d)))

pub returns-clause-slope : goal.returns-clause-slope
returns-clause-slope c =
    λ d units few.
    let book = c.self.inside.book.now in
    let line = get_or book.lines c.args.line d in
    let there = subst (λ (v : ColumnsContents). c.args.line < length v.book.lines) (sym c.self.view_is) c.requires in
    let most = subst (λ (v : ColumnsContents). units ≤ (get_or v.book.lines c.args.line d).most) (sym c.self.view_is) few in
    let is = all-lines book.days book.lines c.self.invariant.0.known.of_book.limits.lines c.args.line d there in
    omega (
      arith,
      ap (λ (f : Form). unsigned_abs f.slope * units) (form-is c d),
      credited-times c.self.inside.tableau.yield_units.0 book c.self.inside.tableau.priced.leaf line (unit_load book c.self.inside.loads.weights.items line) units
          c.self.invariant.0.known.of_book.limits.settlement c.self.invariant.0.known.of_book.leaf is (load-is book c.self.inside.loads.weights.items line c.self.invariant.1.weights is) most,
    )

pub returns-clause-slack : goal.returns-clause-slack
returns-clause-slack c =
    let book = c.self.inside.book.now in
    let line = get_or book.lines c.args.line some-line in
    let there = subst (λ (v : ColumnsContents). c.args.line < length v.book.lines) (sym c.self.view_is) c.requires in
    omega (
      arith,
      ap (λ (f : Form). f.slack) (form-is c some-line),
      form-slack c.self.inside.tableau.yield_units.0 book c.self.inside.tableau.priced.leaf line c.self.invariant.0.known.of_book.limits.settlement c.self.invariant.0.known.of_book.leaf
          (all-lines book.days book.lines c.self.invariant.0.known.of_book.limits.lines c.args.line some-line there),
    )
