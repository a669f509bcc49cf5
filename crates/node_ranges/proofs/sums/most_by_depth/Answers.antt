use Rattle.std.proofs.Common.{◌≡◌, ◌∙◌, ◌∷◌, ℕ, zero, suc, ◌+◌, ◌-◌, ◌<◌, ◌≤◌, List, [], Vec, Global, drop, get_or, length, set, refl, sym, ap, subst, arith}
use Rattle.std.proofs.lemmas.List.{drop_more, get_or_default}
use Rattle.escrow_units.specs.declared.limits.TheConstants.{AMOUNT_LIMIT}
use Rattle.offer_book.specs.declared.line.Line.{Line}
use Rattle.node_ranges.proofs.SumFacts.{AreCounted, IsLineAt, counted-none, counted-one}
use Rattle.node_ranges.proofs.sums.most_by_depth.Goals.{then-depth-gt0, else-depth-gt0}
use Rattle.node_ranges.proofs.sums.most_by_depth.Goals as goal

-- the place before one
below-is : (place : ℕ) → 0 < place → suc (place - 1) ≡ place
below-is place some = omega arith

-- the line at a place of both lists
line-at : (dates place depth : ℕ) (line : Line) (depths : List ℕ) (lines : List Line) → length depths ≡ length lines → place < length lines → depth ≡ get_or depths place 0
    → line ≡ get_or lines place line → depth ≤ dates → line.most ≤ AMOUNT_LIMIT → IsLineAt dates place depth line depths lines
line-at dates place depth line depths lines same few depth_is line_is deep small = record {
  depths_left = drop_more depths place 0 (omega (arith, same, few)) ∙ ap (λ (n : ℕ). n ∷ drop (place + 1) depths) (sym depth_is);
  lines_left = drop_more lines place line few ∙ ap (λ (l : Line). l ∷ drop (place + 1) lines) (sym line_is);
  deep = deep;
  small = small;
}

-- there is a line at a place
line-there : (lines : List Line) (place : ℕ) → place < length lines → (line : Line) × (line ≡ get_or lines place line)
line-there [] place few = absurd (omega arith)
line-there (line ∷ lines) zero few = (line, refl)
line-there (line ∷ lines) (suc place) few = line-there lines place (omega arith)

pub loop-place-preserved : goal.loop-place-preserved
loop-place-preserved c =
    let few = c.loop-place-test.true in
    let deep : get_or c.args.depths.now c.loop-place.place 0 ≤ c.args.dates = c.requires.deep c.loop-place.place 0 (omega (arith, c.requires.same, few)) in
    elim c.if-depth-gt0.branch [
      | then-depth-gt0 w ↦ (
          let some = below-is c.from-depth.result w.if-depth-gt0.true in
          let small : w.index-lines-place.result.most ≤ AMOUNT_LIMIT =
          subst (λ (line : Line). line.most ≤ AMOUNT_LIMIT) (sym w.index-lines-place.is) (c.requires.small c.loop-place.place w.index-lines-place.result few) in
          let at = line-at c.args.dates c.loop-place.place (suc (c.from-depth.result - 1)) w.index-lines-place.result c.args.depths.now c.args.lines.now c.requires.same few (some ∙ c.from-depth.ensures)
          w.index-lines-place.is (omega (arith, some, c.from-depth.ensures, deep)) small in
          let counted = counted-one c.args.dates c.loop-place.place (c.from-depth.result - 1) w.index-lines-place.result c.args.depths.now c.args.lines.now c.loop-place.counts.items at c.loop-place.invariant in
          let now = w.index_mut.ensures.value ∙ get_or_default c.loop-place.counts.items (c.from-depth.result - 1) w.index_mut.result.now 0
          (omega (arith, some, c.loop-place.invariant.same, c.from-depth.ensures, deep)) in
          let items = ap (λ (v : Vec ℕ Global). v.items) w.counts-is
          ∙ (λ i. set c.loop-place.counts.items (c.from-depth.result - 1) (now i + (sym w.index-lines-place.is i).most)) in
          subst (λ (counts : List ℕ). AreCounted c.args.dates (c.loop-place.place + 1) c.args.depths.now c.args.lines.now counts) (sym items) counted)
      | else-depth-gt0 w ↦ (
          let zero : c.from-depth.result ≡ 0 = omega (arith, w.if-depth-gt0.false) in
          let some = line-there c.args.lines.now c.loop-place.place few in
          let at = line-at c.args.dates c.loop-place.place c.from-depth.result some.0 c.args.depths.now c.args.lines.now c.requires.same few c.from-depth.ensures some.1 (omega (arith, zero))
          (subst (λ (line : Line). line.most ≤ AMOUNT_LIMIT) (sym some.1) (c.requires.small c.loop-place.place some.0 few)) in
          let counted = counted-none c.args.dates c.loop-place.place c.from-depth.result some.0 c.args.depths.now c.args.lines.now c.loop-place.counts.items at zero c.loop-place.invariant in
          subst (λ (v : Vec ℕ Global). AreCounted c.args.dates (c.loop-place.place + 1) c.args.depths.now c.args.lines.now v.items) (sym w.counts-is) counted)
    ]
