use mir.Syntax.{w128}
use mir.Val.{of_z, to_z}
use Rattle.std.proofs.Common.{◌≡◌, ◌≤◌, ◌∙◌, ◌∷◌, ◌++◌, [], ℤ, List, None, Some, ap, arith, subst, sym}
use Rattle.node_pool.specs.declared.node.Node.{Node}
use Rattle.node_pool.specs.declared.node.State.TheVariants as state
use Rattle.node_pool.specs.Heap.{lone_links}
use Rattle.node_pool.specs.Queue.{IsPool}
use Rattle.node_pool.proofs.PoolFacts.{root-pool}
use Rattle.node_pool.proofs.pool.Pool.make.Goals as goal

pub invariant_of-result : goal.invariant_of-result
invariant_of-result c =
    let key : ℤ = to_z w128 (of_z w128 c.args.key) in
    let items : c.push.new.self.items ≡ record { parent = None; state = state.Waiting key; links = lone_links } ∷ [] =
    c.in_ok-push.ensures.items ∙ ap (λ (ns : List Node). ns ++ c.waiting_root.result ∷ []) c.in_ok-nodes.ensures.items ∙ ap (λ (n : Node). n ∷ []) c.waiting_root.ensures in
    let P : List Node → Type 0 = λ ns. IsPool ns (Some (record { 0 = 0 })) 1 c.args.capacity in
    let bounded : c.args.capacity ≤ 4_294_967_295 = omega (arith, c.ranges.capacity.fits) in (
      subst P (sym items) (root-pool c.args.capacity key None c.requires bounded),
      (let more = c.in_ok-push.ensures.capacity in let room = c.in_ok-nodes.ensures.capacity in omega (arith, more, room)),
    )
