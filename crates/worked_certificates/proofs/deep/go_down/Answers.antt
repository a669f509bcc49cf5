use Rattle.std.proofs.Common.{◌≡◌, ◌∙◌, ◌+◌, List, ap, sym, length, arith, if◌then◌else◌}
use Rattle.node_pool.specs.declared.node.NodeId.{NodeId}
use Rattle.node_pool.specs.declared.node.State.{State}
use Rattle.node_pool.specs.Pool.{PoolContents}
use Rattle.worked_certificates.proofs.DownFacts.{way-down}
use Rattle.worked_certificates.proofs.deep.go_down.Goals.{then-right, else-right}
use Rattle.worked_certificates.proofs.deep.go_down.Goals as goal

pub returns-then-eq-clause-way : goal.returns-then-eq-clause-way
returns-then-eq-clause-way c =
    let old : List State = c.args.pool.now.states in
    let next : c.in_ok-next.next.0 ≡ c.if-right.child.0 = grind (arith, c.if-eq.true, c.eq.ensures) in
    let child : c.if-right.child.0 ≡ (if c.args.right then length old + 1 else length old) =
    elim c.if-right.branch [
      | then-right w ↦ rw (w.if-right.true) (ap (λ (n : NodeId). n.0) w.child-is ∙ c.in-Ok.ensures.children.1)
      | else-right w ↦ rw (w.if-right.false) (ap (λ (n : NodeId). n.0) w.child-is ∙ c.in-Ok.ensures.children.0)
    ] in
    way-down c.args.book.now old c.split.new.self.states c.pop_least.new.self.states c.args.node.0 0 c.args.at _ _ c.args.right c.args.ranges.now c.narrow.new.self c.in_ok-next.next.0
    c.in_ok-next.next.0 c.requires.hand c.requires.way (ap (λ (p : PoolContents). p.states) c.in-Ok.ensures.split) c.in_ok-next.ensures.some.0
    (ap (λ (p : PoolContents). p.states) c.in_ok-next.ensures.some.1) (sym c.proper.ensures ∙ c.if-not-proper.false) c.narrow.ensures.value (next ∙ child)
