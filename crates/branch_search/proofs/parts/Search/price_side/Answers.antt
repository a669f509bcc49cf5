use Rattle.std.proofs.Common.{◌≡◌, ◌∙◌, ◌<◌, length, sym, ap, subst, arith}
use Rattle.node_ranges.proofs.RangeFacts.{tight-length}
use Rattle.node_ranges.specs.Ranges.{AreTight}
use Rattle.branch_search.proofs.PartFacts.{restored}
use Rattle.branch_search.specs.Parts.{SearchContents}
use Rattle.branch_search.proofs.parts.Search.price_side.Goals as goal

pub interval-whole-requires : goal.interval-whole-requires
interval-whole-requires c =
    let few : c.args.split.line < length c.self.inside.book.now.lines = subst (λ (s : SearchContents). c.args.split.line < length s.case.book.lines) (sym c.self.view_is) c.requires.line in
    omega (arith, few, tight-length c.self.inside.book.now.lines c.self.inside.ranges.lines c.self.invariant.tight.lines)

pub restore-requires-clause-part : goal.restore-requires-clause-part
restore-requires-clause-part c =
    let few : c.args.split.line < length c.self.inside.book.now.lines = subst (λ (s : SearchContents). c.args.split.line < length s.case.book.lines) (sym c.self.view_is) c.requires.line in
    omega (
      arith,
      few,
      ap (λ (s : SearchContents). length s.case.book.lines) (c.self-2.view_is ∙ c.in_ok-priced.ensures.search),
      tight-length c.self-2.inside.book.now.lines c.self-2.inside.ranges.lines c.self-2.invariant.tight.lines,
    )

pub invariant_of-self-2 : goal.invariant_of-self-2
invariant_of-self-2 c =
    let kept = c.self-2.view_is ∙ c.in_ok-priced.ensures.search in
    let few : c.args.split.line < length c.self.inside.book.now.lines = subst (λ (s : SearchContents). c.args.split.line < length s.case.book.lines) (sym c.self.view_is) c.requires.line in
    let back : c.restore.new.self ≡ c.self.inside.ranges =
    restored c.self.inside.book.now c.self.inside.ranges c.self-2.inside.ranges c.restore.new.self c.args.split.line c.args.split.at c.args.right c.interval-whole.result c.self.invariant.tight few
    (ap (λ (s : SearchContents). s.ranges) kept ∙ c.narrow.ensures.value) c.interval-whole.ensures.value c.restore.ensures in
    record {
      limits = c.self-2.invariant.limits;
      tuned = c.self-2.invariant.tuned;
      based = c.self-2.invariant.based;
      base_is = c.self-2.invariant.base_is;
      reaches = c.self-2.invariant.reaches;
      lined = c.self-2.invariant.lined;
      rooted = c.self-2.invariant.rooted;
      tight = subst (AreTight c.self-2.inside.book.now) (sym back) (subst (λ (s : SearchContents). AreTight s.case.book c.self.inside.ranges) (sym kept) c.self.invariant.tight);
      bought = c.self-2.invariant.bought;
      finds = c.self-2.invariant.finds;
    }

pub returns-clause-search : goal.returns-clause-search
returns-clause-search c =
    let kept = c.self-2.view_is ∙ c.in_ok-priced.ensures.search in
    let few : c.args.split.line < length c.self.inside.book.now.lines = subst (λ (s : SearchContents). c.args.split.line < length s.case.book.lines) (sym c.self.view_is) c.requires.line in
    let back : c.restore.new.self ≡ c.self.inside.ranges =
    restored c.self.inside.book.now c.self.inside.ranges c.self-2.inside.ranges c.restore.new.self c.args.split.line c.args.split.at c.args.right c.interval-whole.result c.self.invariant.tight few
    (ap (λ (s : SearchContents). s.ranges) kept ∙ c.narrow.ensures.value) c.interval-whole.ensures.value c.restore.ensures in
    (λ i. record { case = (kept i).case; ranges = back i; best = (kept i).best }) ∙ c.self.view_is
