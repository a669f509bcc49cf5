use mir.Syntax.{w128}
use mir.Val.{of_z, to_z}
use Rattle.std.proofs.Common.{◌≡◌, ◌∙◌, ◌<◌, ◌≤◌, ◌*◌, ◌^◌, get_or, length, inl, inr, sym, ap, subst, arith, unsigned_abs}
use Rattle.std.proofs.lemmas.Bool.{cases_lt}
use Rattle.std.proofs.lemmas.Grind.{get_or-set_at}
use Rattle.std.proofs.lemmas.Int.{to_z-of_z}
use Rattle.std.proofs.lemmas.List.{get_or-set_other}
use Rattle.dual_bound.specs.Columns.{ColumnsContents}
use Rattle.proof_tree.specs.declared.tree.Leaf.{Leaf}
use Rattle.dual_bound.specs.LeafBound.{least_within}
use Rattle.dual_tune.specs.Sweep.{IsFormAt}
use Rattle.dual_tune.specs.Table.{AreLineForms, IsTable}
use Rattle.dual_tune.specs.declared.sweep.LineLeast.{LineLeast}
use Rattle.dual_tune.specs.declared.table.Table.{Table}
use Rattle.dual_tune.proofs.AsideFacts.{set-length}
use Rattle.dual_tune.proofs.SweepFacts.{set-all}
use Rattle.dual_tune.proofs.TableFacts.{form-at}
use Rattle.dual_tune.proofs.sweep.Sweep.keep_leasts.Goals as goal
use Rattle.dual_tune.proofs.sweep.Sweep.keep_leasts.Goals.{After-index-form}

-- the form is that of the line
line-form : (c : After-index-form) → IsFormAt c.args.given.now c.loop-line.self.columns.leaf c.loop-line.line c.args.given.now.leaf.now c.index-form.result.now
line-form c =
    let given = c.args.given.now in
    let leaf = given.leaf.now in
    let table = c.args.self.now.table in
    let l = c.loop-line.invariant in
    let at = c.loop-line.line in
    let form = c.index-form.result.now in
    let form_is : form ≡ get_or table.lines.given.items at form = c.index-form.ensures ∙ (λ i. get_or (l.table i).lines.given.items (c.from-at.ensures i) form) in
    subst (λ (s : ColumnsContents). IsFormAt given s.leaf at leaf form) (sym l.columns)
    (form-at given c.args.self.now.columns.leaf leaf table.lines.given.items at form given.well_formed
    (subst (λ (l : Leaf). AreLineForms given.yield_units.0 given.book.now l table.lines.given.items) c.requires.ready.leaf c.requires.ready.kept.table.lines.given)
    c.requires.priced (omega (arith, c.line_count-line-end.ensures.value, c.loop-line-test.true)) form_is)

pub line_least-requires-clause-form : goal.line_least-requires-clause-form
line_least-requires-clause-form c = (c.args.given.now.leaf.now, line-form (goal.at.line_least-requires-clause-form c).After-index-form)

pub loop-line-preserved : goal.loop-line-preserved
loop-line-preserved c =
    let given = c.args.given.now in
    let n = given.yield_units.0 in
    let book = given.book.now in
    let ranges = given.ranges.now.lines in
    let at = c.loop-line.line in
    let place = c.from-at.result in
    let leasts = c.loop-line.self.leasts.items in
    let l = c.loop-line.invariant in
    let whole = to_z-of_z w128 c.line_least.result (record { sfits = c.line_least.type_inv }) in
    let new : LineLeast = record { least = to_z w128 (of_z w128 c.line_least.result) } in
    let there : at < length book.lines = omega (arith, c.line_count-line-end.ensures.value, c.loop-line-test.true) in
    let few : place < length leasts = omega (arith, c.from-at.ensures, l.places, there) in
    let own = line-form (goal.at.loop-line-preserved c).After-index-form in
    record {
      columns = l.columns;
      table = l.table;
      points = l.points;
      trial = l.trial;
      places = set-length leasts place new ∙ l.places;
      small = set-all (λ (least : LineLeast). unsigned_abs least.least ≤ 71 * 10 ^ 33) leasts place new l.small
          (subst (λ z. unsigned_abs z ≤ 71 * 10 ^ 33) (sym whole) c.line_least.ensures.size);
      leasts = λ line d e f lt.
          elim (cases_lt line at) [
            | inl before ↦
                ap (λ (l : LineLeast). l.least) (get_or-set_other leasts place line new f (λ e. omega (arith, e, before, c.from-at.ensures))) ∙ l.leasts line d e f before
            | inr from ↦
                let here : line ≡ place = omega (arith, lt, from, c.from-at.ensures) in
                let back : at ≡ line = omega (arith, lt, from) in
                ap (λ (l : LineLeast). l.least) (get_or-set_at leasts place line new f here few) ∙ whole ∙ c.line_least.ensures.value d e given.leaf.now own
                ∙ (λ i. least_within n book given.leaf.now (get_or book.lines (back i) d) (get_or ranges (back i) e))
          ];
    }

pub returns-clause-ready : goal.returns-clause-ready
returns-clause-ready c =
    let given = c.args.given.now in
    let ready = c.requires.ready in
    let kept = ready.kept in
    let l = c.loop-line.invariant in
    record {
      kept = record {
        own = ap (λ (s : ColumnsContents). s.book) l.columns ∙ kept.own;
        yield_units = ap (λ (s : ColumnsContents). s.yield_units) l.columns ∙ kept.yield_units;
        table = subst (IsTable given.yield_units.0 given.book.now) (sym l.table) kept.table;
        places = l.places;
        small = l.small;
        trial = l.trial ∙ kept.trial ∙ ap (λ (t : Table). t.leaf) (sym l.table);
      };
      leaf = ap (λ (t : Table). t.leaf) l.table ∙ ready.leaf;
      points = λ none. ready.points (sym l.points ∙ none);
    }

pub returns-clause-leasts : goal.returns-clause-leasts
returns-clause-leasts c = record {
  every_line = c.loop-line.invariant.places;
  small = c.loop-line.invariant.small;
  value = λ line d e f lt. c.loop-line.invariant.leasts line d e f (omega (arith, lt, c.line_count-line-end.ensures.value, c.loop-line-test.false));
}
