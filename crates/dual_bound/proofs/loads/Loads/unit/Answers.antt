use Rattle.std.proofs.Common.{◌≡◌, ◌∙◌, ◌*◌, ◌≤◌, List, [], ◌∷◌, ◌*ℤ◌, get_or, length, pos, refl, sym, ap, arith, unsigned_abs}
use Rattle.std.proofs.lemmas.List.{get_or-map, length-map}
use Rattle.node_ranges.proofs.SumFacts.{depths-within}
use Rattle.std.specs.Vec.{vec_len}
use Rattle.std.proofs.lemmas.Bool.Decides.{nat_tests}
use Rattle.std.proofs.lemmas.Int.{ints}
use Rattle.proof_tree.specs.declared.weights.SumWeight.{SumWeight}
use Rattle.offer_book.specs.Sums.{coarse_step, line_depth}
use Rattle.offer_book.specs.declared.coefficients.TheConstants.{COEFFICIENT_SCALE}
use Rattle.offer_book.specs.declared.line.Line.{Line}
use Rattle.dual_bound.specs.LeafBound.{load, unit_load}
use Rattle.dual_bound.proofs.LoadFacts.{load-is}
use Rattle.dual_bound.proofs.Signed.{read-again}
use Rattle.dual_bound.proofs.Soundness.{all-lines}
use Rattle.dual_bound.proofs.TableauFacts.{some-line}
use Rattle.dual_bound.proofs.loads.Loads.unit.Goals as goal

-- the depth that is read is that of the line
depth-is : (c : goal.After-from-2) (d : Line) → c.from-2.result ≡ line_depth c.args.book.now (get_or c.args.book.now.lines c.args.line d)
depth-is c d =
    c.from-2.ensures ∙ c.index.ensures ∙ (λ i. get_or (c.requires.loads.depths i) (c.from.ensures i) c.index.result.now)
    ∙ get_or-map (line_depth c.args.book.now) c.args.book.now.lines c.args.line d c.index.result.now c.requires.line

there : (c : goal.After-from-2) → c.from-2.result ≤ length c.args.book.now.needs
there c =
    let lines = c.args.book.now.lines in
    let within = depths-within c.args.book.now lines c.args.line c.index.result.now (omega (arith, c.requires.line, length-map lines (line_depth c.args.book.now))) in
    let read = c.from-2.ensures ∙ c.index.ensures ∙ (λ i. get_or (c.requires.loads.depths i) (c.from.ensures i) c.index.result.now) in
    omega (arith, within, read)

pub index-requires-2 : goal.index-requires-2
index-requires-2 c = omega (arith, there c, c.requires.loads.every)

pub returns-clause-value : goal.returns-clause-value
returns-clause-value c =
    λ d.
    let book = c.args.book.now in
    let weights = c.args.self.now.weights.items in
    let at = c.index-2.ensures ∙ c.requires.loads.by_depth c.from-2.result c.index-2.result.now (omega (arith, there c.before.before, c.requires.loads.every)) in
    let same : pos (COEFFICIENT_SCALE * c.args.self.now.coarse) *ℤ load weights c.from-2.result ≡ unit_load book weights (get_or book.lines c.args.line d) =
    (λ i. pos (COEFFICIENT_SCALE * c.requires.loads.coarse i) *ℤ load weights (depth-is c.before.before d i)) in
    read-again c.index-2.result.now (omega (arith, ap unsigned_abs (at ∙ same), (load-is book weights (get_or book.lines c.args.line d) c.requires.loads.weights (all-lines book.days book.lines c.requires.limits.lines c.args.line d c.requires.line)).unit)) ∙ at ∙ same

pub returns-clause-small : goal.returns-clause-small
returns-clause-small c =
    let book = c.args.book.now in
    omega (
      arith,
      ap unsigned_abs (returns-clause-value c some-line),
      (load-is book c.args.self.now.weights.items (get_or book.lines c.args.line some-line) c.requires.loads.weights
          (all-lines book.days book.lines c.requires.limits.lines c.args.line some-line c.requires.line)).unit,
    )

pub returns-then-is_empty-clause-value : goal.returns-then-is_empty-clause-value
returns-then-is_empty-clause-value c =
    λ d.
    let book = c.args.book.now in
    let count : vec_len c.args.self.now.weights ≡ 0 = grind (arith, nat_tests, c.is_empty.ensures, c.if-is_empty.true) in
    let none = empty c.args.self.now.weights.items (omega (arith, count, c.args.self.now.weights.ok.0)) in
    let nothing : pos 0 ≡ pos (COEFFICIENT_SCALE * coarse_step book) *ℤ pos 0 = omega (arith, ints) in
    nothing ∙ ap (λ (weights : List SumWeight). unit_load book weights (get_or book.lines c.args.line d)) (sym none)
  where
    empty : (weights : List SumWeight) → length weights ≡ 0 → weights ≡ []
    empty [] none = refl
    empty (own ∷ weights) none = absurd (omega arith)
