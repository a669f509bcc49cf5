use Rattle.std.proofs.Common.{◌≢◌, ◌∙◌, arith, subst, sym}
use Rattle.node_ranges.specs.Ranges.{AreTight, RangesContents, root_of}
use Rattle.node_pool.specs.Queue.{states_of}
use Rattle.node_pool.specs.Way.{ranges_at}
use Rattle.node_pool.proofs.WayFacts.{Left, StepsUp, left-end, left-start, next-left, no-parent, parent-there, parent-lower, steps-up}
use Rattle.node_pool.proofs.way.narrow_up.Goals as goal

pub loop-child-init : goal.loop-child-init
loop-child-init c =
    let P : RangesContents → Type 0 = λ is. AreTight c.args.book.now is in
    let root : AreTight c.args.book.now (root_of c.args.book.now) = subst P c.go_to_root.ensures.value c.go_to_root.ensures.tight in
    record {
      left = λ way is proper.
          (let Q : RangesContents → Type 0 = λ now. Left c.args.book.now (states_of c.args.nodes.now) c.args.node.0 now (ranges_at c.args.book.now way) in
          subst Q (sym c.go_to_root.ensures.value)
          (left-start c.range_laws.ensures.tight c.args.book.now (states_of c.args.nodes.now) c.args.node.0 way root is proper));
      tight = c.go_to_root.ensures.tight;
    }

pub parent_of-requires : goal.parent_of-requires
parent_of-requires c =
    let P : RangesContents → Type 0 = λ is. AreTight c.args.book.now is in
    let root : AreTight c.args.book.now (root_of c.args.book.now) = subst P c.go_to_root.ensures.value c.go_to_root.ensures.tight in
    let way = c.requires.way in
    let some : c.loop-child.child.0 ≢ 0 = omega (arith, c.loop-child-test.true) in
    (steps-up c.range_laws.ensures.tight c.args.book.now c.args.nodes.now c.loop-child.child.0 c.loop-child.into way.0 some c.requires.whole c.requires.parents root way.2
    c.loop-child.invariant.tight (c.loop-child.invariant.left way.0 way.1 way.2)).inside

pub returns-in_default-clause-value : goal.returns-in_default-clause-value
returns-in_default-clause-value c = λ way is proper.
    (let P : RangesContents → Type 0 = λ is. AreTight c.args.book.now is in
    let root : AreTight c.args.book.now (root_of c.args.book.now) = subst P c.go_to_root.ensures.value c.go_to_root.ensures.tight in
    let some : c.loop-child.child.0 ≢ 0 = omega (arith, c.loop-child-test.true) in
    let up : StepsUp c.args.book.now c.args.nodes.now c.loop-child.child.0 c.loop-child.into (ranges_at c.args.book.now way) =
    steps-up c.range_laws.ensures.tight c.args.book.now c.args.nodes.now c.loop-child.child.0 c.loop-child.into way some c.requires.whole c.requires.parents root proper
    c.loop-child.invariant.tight (c.loop-child.invariant.left way is proper) in
    absurd (no-parent (record { 0 = up.parent }) (sym c.in_default.is ∙ c.parent_of.ensures ∙ up.told)))

pub state_of-requires : goal.state_of-requires
state_of-requires c =
    let P : RangesContents → Type 0 = λ is. AreTight c.args.book.now is in
    let root : AreTight c.args.book.now (root_of c.args.book.now) = subst P c.go_to_root.ensures.value c.go_to_root.ensures.tight in
    let way = c.requires.way in
    let some : c.loop-child.child.0 ≢ 0 = omega (arith, c.loop-child-test.true) in
    parent-there c.args.book.now c.args.nodes.now c.loop-child.child.0 c.loop-child.into (ranges_at c.args.book.now way.0) c.in-Some.parent
    (steps-up c.range_laws.ensures.tight c.args.book.now c.args.nodes.now c.loop-child.child.0 c.loop-child.into way.0 some c.requires.whole c.requires.parents root way.2
    c.loop-child.invariant.tight (c.loop-child.invariant.left way.0 way.1 way.2)) (sym c.parent_of.ensures ∙ c.in-Some.is)

pub loop-child-smaller : goal.loop-child-smaller
loop-child-smaller c =
    let P : RangesContents → Type 0 = λ is. AreTight c.args.book.now is in
    let root : AreTight c.args.book.now (root_of c.args.book.now) = subst P c.go_to_root.ensures.value c.go_to_root.ensures.tight in
    let way = c.requires.way in
    let some : c.loop-child.child.0 ≢ 0 = omega (arith, c.loop-child-test.true) in
    parent-lower c.args.book.now c.args.nodes.now c.loop-child.child.0 c.loop-child.into (ranges_at c.args.book.now way.0) c.in-Some.parent
    (steps-up c.range_laws.ensures.tight c.args.book.now c.args.nodes.now c.loop-child.child.0 c.loop-child.into way.0 some c.requires.whole c.requires.parents root way.2
    c.loop-child.invariant.tight (c.loop-child.invariant.left way.0 way.1 way.2)) (sym c.parent_of.ensures ∙ c.in-Some.is)

pub loop-child-preserved : goal.loop-child-preserved
loop-child-preserved c =
    let P : RangesContents → Type 0 = λ is. AreTight c.args.book.now is in
    let root : AreTight c.args.book.now (root_of c.args.book.now) = subst P c.go_to_root.ensures.value c.go_to_root.ensures.tight in
    let some : c.loop-child.child.0 ≢ 0 = omega (arith, c.loop-child-test.true) in
    record {
      left = λ way is proper.
          next-left c.args.book.now c.args.nodes.now c.loop-child.child.0 c.loop-child.into c.narrow_by.new.into (ranges_at c.args.book.now way) c.in-Some.parent c.state_of.result
          (steps-up c.range_laws.ensures.tight c.args.book.now c.args.nodes.now c.loop-child.child.0 c.loop-child.into way some c.requires.whole c.requires.parents root proper
          c.loop-child.invariant.tight (c.loop-child.invariant.left way is proper)) (sym c.parent_of.ensures ∙ c.in-Some.is) c.state_of.ensures c.narrow_by.ensures.value;
      tight = c.narrow_by.ensures.tight;
    }

pub returns-clause-value : goal.returns-clause-value
returns-clause-value c = λ way is proper.
    left-end c.args.book.now (states_of c.args.nodes.now) c.loop-child.child.0 c.loop-child.into (ranges_at c.args.book.now way) (omega (arith, c.loop-child-test.false)) c.requires.whole
    (c.loop-child.invariant.left way is proper)
