use mir.Syntax.{w128}
use Rattle.std.proofs.Common.{◌≡◌, ◌∙◌, ◌<◌, ℤ, get_or, length, sym, ap, subst, arith, to_z, of_z}
use Rattle.std.proofs.lemmas.Int.{to_z-of_z}
use Rattle.offer_book.specs.declared.line.Line.{Line}
use Rattle.dual_bound.specs.Columns.{ColumnsContents}
use Rattle.dual_bound.specs.LeafBound.{least_by, least_within, unit_load}
use Rattle.dual_bound.specs.Loads.{IsLoad}
use Rattle.dual_bound.proofs.LeastFacts.{least-weighted}
use Rattle.dual_bound.proofs.LoadFacts.{load-is}
use Rattle.dual_bound.proofs.Signed.{read-again}
use Rattle.dual_bound.proofs.Soundness.{all-lines}
use Rattle.dual_bound.proofs.columns.Columns.least.Goals as goal

pub least-requires-clause-load : goal.least-requires-clause-load
least-requires-clause-load c =
    λ d.
    let book = c.self.inside.book.now in
    let there = subst (λ (v : ColumnsContents). c.args.line < length v.book.lines) (sym c.self.view_is) c.requires.line in
    let load = read-again c.unit-unit_load.result (omega (arith, c.unit-unit_load.ensures.small)) ∙ c.unit-unit_load.ensures.value d in
    subst (IsLoad (get_or book.lines c.args.line d)) (sym load)
    (load-is book c.self.inside.loads.weights.items (get_or book.lines c.args.line d) c.self.invariant.1.weights
    (all-lines book.days book.lines c.self.invariant.0.known.of_book.limits.lines c.args.line d there))

pub returns-clause-value : goal.returns-clause-value
returns-clause-value c =
    let n = c.self.inside.tableau.yield_units.0 in
    let book = c.self.inside.book.now in
    let leaf = c.self.inside.tableau.priced.leaf in
    let weights = c.self.inside.loads.weights.items in
    subst (λ (v : ColumnsContents). (d : Line) → to_z w128 (of_z w128 c.least.result) ≡ least_within v.yield_units v.book v.leaf (get_or v.book.lines c.args.line d) c.args.interval) c.self.view_is
    (λ d.
    let line = get_or book.lines c.args.line d in
    let load = read-again c.unit-unit_load.result (omega (arith, c.unit-unit_load.ensures.small)) ∙ c.unit-unit_load.ensures.value d in
    to_z-of_z w128 c.least.result (record { sfits = c.least.type_inv }) ∙ c.least.ensures.value d ∙ ap (λ (z : ℤ). least_by n book leaf line z c.args.interval) load
    ∙ least-weighted n book leaf weights line (unit_load book weights line) c.args.interval)
