use mir.Syntax.{w128}
use Rattle.std.proofs.Common.{◌≡◌, ◌∙◌, ◌*◌, ◌^◌, ◌<◌, ◌≤◌, ℤ, get_or, length, set, sym, ap, subst, arith, unsigned_abs, of_z, to_z}
use Rattle.std.proofs.lemmas.Bool.Decides.{nat_tests}
use Rattle.std.proofs.lemmas.Int.{to_z-of_z}
use Rattle.std.proofs.lemmas.List.{get_or-set_same, get_or_default}
use Rattle.std.proofs.lemmas.Slice.Zip.{AllZip-long}
use Rattle.offer_book.specs.declared.line.Line.{Line}
use Rattle.dual_bound.specs.LeafBound.{least_by}
use Rattle.dual_bound.specs.Leasts.{IsLeast, IsRight}
use Rattle.dual_bound.specs.declared.leasts.Least.{Least}
use Rattle.dual_bound.proofs.BoundSizes.{least-small}
use Rattle.dual_bound.proofs.LeastFacts.{known-least, same-interval, zip-set}
use Rattle.dual_bound.proofs.Signed.{read-again}
use Rattle.dual_bound.proofs.Soundness.{all-lines}
use Rattle.dual_bound.proofs.TableauFacts.{some-line}
use Rattle.dual_bound.proofs.leasts.Leasts.least.Goals as goal

pub index-requires : goal.index-requires
index-requires c =
    omega (
      arith,
      c.from-place.ensures,
      c.requires.line,
      AllZip-long (IsLeast c.args.tableau.now.yield_units.0 c.args.book.now c.args.tableau.now.priced.leaf c.args.self.now.changed) c.args.book.now.lines c.args.self.now.lines.items c.requires.leasts,
    )

pub returns-then-eq-clause-value : goal.returns-then-eq-clause-value
returns-then-eq-clause-value c =
    let n = c.args.tableau.now.yield_units.0 in
    let book = c.args.book.now in
    let leaf = c.args.tableau.now.priced.leaf in
    let known = c.index.result.now in
    let line = get_or book.lines c.args.line some-line in
    let same = same-interval known.interval c.args.interval (grind (arith, nat_tests, c.eq.ensures, c.if-eq.true)) (grind (arith, nat_tests, c.eq.ensures, c.if-eq.true)) in
    let is = c.index.ensures ∙ ap (λ k. get_or c.args.self.now.lines.items k known) c.from-place.ensures in
    let load : known.unit_load ≡ c.args.unit_load =
    sym (read-again known.unit_load (omega (arith, (known-least n book leaf c.args.self.now c.args.line known c.requires.leasts c.requires.line is some-line).load))) ∙ ap (to_z w128) c.if-known-unit_load.true
    ∙ to_z-of_z w128 c.args.unit_load c.ranges.unit_load in
    let value : (d : Line) → known.least ≡ least_by n book leaf (get_or book.lines c.args.line d) c.args.unit_load c.args.interval =
    (λ d.
    (known-least n book leaf c.args.self.now c.args.line known c.requires.leasts c.requires.line is d).right (c.is_apart.ensures c.if-is_apart.true)
    ∙ (λ i. least_by n book leaf (get_or book.lines c.args.line d) (load i) (same i))) in
    let size : unsigned_abs known.least ≤ 71 * 10 ^ 33 =
    subst (λ z. unsigned_abs z ≤ 71 * 10 ^ 33) (sym (value some-line))
    (least-small n book leaf line c.args.unit_load c.args.interval c.requires.tableau.limits.settlement c.requires.tableau.leaf
    (all-lines book.days book.lines c.requires.tableau.limits.lines c.args.line some-line c.requires.line) (c.requires.load some-line) c.requires.ordered (c.requires.high some-line)) in
    λ d. read-again known.least (omega (arith, size)) ∙ value d

pub returns-then-eq-clause-size : goal.returns-then-eq-clause-size
returns-then-eq-clause-size c =
    let book = c.args.book.now in
    subst (λ z. unsigned_abs z ≤ 71 * 10 ^ 33) (sym (returns-then-eq-clause-value c some-line))
    (least-small c.args.tableau.now.yield_units.0 book c.args.tableau.now.priced.leaf (get_or book.lines c.args.line some-line) c.args.unit_load c.args.interval c.requires.tableau.limits.settlement c.requires.tableau.leaf
    (all-lines book.days book.lines c.requires.tableau.limits.lines c.args.line some-line c.requires.line) (c.requires.load some-line) c.requires.ordered (c.requires.high some-line))

pub returns-then-eq-clause-right : goal.returns-then-eq-clause-right
returns-then-eq-clause-right c =
    λ d e.
    let n = c.args.tableau.now.yield_units.0 in
    let book = c.args.book.now in
    let leaf = c.args.tableau.now.priced.leaf in
    let known = c.index.result.now in
    let is = c.index.ensures ∙ ap (λ k. get_or c.args.self.now.lines.items k known) c.from-place.ensures in
    let long = AllZip-long (IsLeast n book leaf c.args.self.now.changed) book.lines c.args.self.now.lines.items c.requires.leasts in
    subst (IsRight n book leaf (get_or book.lines c.args.line d)) (is ∙ get_or_default c.args.self.now.lines.items c.args.line known e (omega (arith, long, c.requires.line)))
    ((known-least n book leaf c.args.self.now c.args.line known c.requires.leasts c.requires.line is d).right (c.is_apart.ensures c.if-is_apart.true))

pub index_mut-requires : goal.index_mut-requires
index_mut-requires c =
    omega (
      arith,
      c.from-place.ensures,
      c.requires.line,
      AllZip-long (IsLeast c.args.tableau.now.yield_units.0 c.args.book.now c.args.tableau.now.priced.leaf c.args.self.now.changed) c.args.book.now.lines c.args.self.now.lines.items c.requires.leasts,
    )

pub returns-clause-value : goal.returns-clause-value
returns-clause-value c =
    λ d.
    to_z-of_z w128 c.least-least.result (record { sfits = c.least-least.type_inv }) ∙ c.least-least.ensures.value d
    ∙ ap (λ (z : ℤ). least_by c.args.tableau.now.yield_units.0 c.args.book.now c.args.tableau.now.priced.leaf (get_or c.args.book.now.lines c.args.line d) z c.args.interval) (to_z-of_z w128 c.args.unit_load c.ranges.unit_load)

pub returns-clause-leasts : goal.returns-clause-leasts
returns-clause-leasts c =
    let n = c.args.tableau.now.yield_units.0 in
    let book = c.args.book.now in
    let leaf = c.args.tableau.now.priced.leaf in
    let place = c.from-place.result in
    let few : place < length book.lines = omega (arith, c.from-place.ensures, c.requires.line) in
    let own_least : Least = record { span = c.index.result.now.span; interval = c.args.interval; unit_load = to_z w128 (of_z w128 c.args.unit_load); least = to_z w128 (of_z w128 c.least-least.result) } in
    let own = known-least n book leaf c.args.self.now place c.index.result.now c.requires.leasts few c.index.ensures some-line in
    zip-set (IsLeast n book leaf c.args.self.now.changed) book.lines c.args.self.now.lines.items place some-line own_least c.requires.leasts few
    (record {
      start = own.start;
      load = omega (arith, ap unsigned_abs (to_z-of_z w128 c.args.unit_load c.ranges.unit_load), (c.requires.load some-line).unit);
      priced = own.priced;
      right = λ apart.
          returns-clause-value c some-line
          ∙ (λ i. least_by n book leaf (get_or book.lines (sym c.from-place.ensures i) some-line) (sym (to_z-of_z w128 c.args.unit_load c.ranges.unit_load) i) c.args.interval);
    })

pub returns-clause-right : goal.returns-clause-right
returns-clause-right c =
    λ d e.
    let items = c.args.self.now.lines.items in
    let place = c.from-place.result in
    let own : Least = record { span = c.index.result.now.span; interval = c.args.interval; unit_load = to_z w128 (of_z w128 c.args.unit_load); least = to_z w128 (of_z w128 c.least-least.result) } in
    let long = AllZip-long (IsLeast c.args.tableau.now.yield_units.0 c.args.book.now c.args.tableau.now.priced.leaf c.args.self.now.changed) c.args.book.now.lines items c.requires.leasts in
    let there : place < length items = omega (arith, long, c.from-place.ensures, c.requires.line) in
    let same : get_or (set items place own) c.args.line e ≡ own = ap (λ k. get_or (set items place own) k e) (sym c.from-place.ensures) ∙ get_or-set_same items place own e there in
    subst (IsRight c.args.tableau.now.yield_units.0 c.args.book.now c.args.tableau.now.priced.leaf (get_or c.args.book.now.lines c.args.line d)) (sym same)
    (returns-clause-value c d
    ∙ ap (λ (z : ℤ). least_by c.args.tableau.now.yield_units.0 c.args.book.now c.args.tableau.now.priced.leaf (get_or c.args.book.now.lines c.args.line d) z c.args.interval)
    (sym (to_z-of_z w128 c.args.unit_load c.ranges.unit_load)))
