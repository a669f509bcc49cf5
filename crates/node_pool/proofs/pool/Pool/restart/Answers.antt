use mir.Syntax.{w128}
use mir.Val.{of_z, to_z}
use Rattle.std.proofs.Common.{◌≡◌, ◌∙◌, ◌∷◌, ◌++◌, [], ℤ, List, None, Some, ap, arith, refl, subst, sym, if◌then◌else◌}
use Rattle.std.specs.Result.{is_ok}
use Rattle.node_pool.specs.declared.node.Node.{Node}
use Rattle.node_pool.specs.declared.node.State.TheVariants as state
use Rattle.node_pool.specs.Heap.{lone_links}
use Rattle.node_pool.specs.Queue.{IsPool}
use Rattle.node_pool.proofs.PoolFacts.{pushed, root-pool}
use Rattle.node_pool.proofs.pool.Pool.restart.Goals as goal

pub invariant_of-self : goal.invariant_of-self
invariant_of-self c =
    let key : ℤ = to_z w128 (of_z w128 c.args.key) in
    let root : Node = record { parent = None; state = state.Waiting key; links = lone_links } in
    let pool = c.self.invariant in
    let room = c.clear.ensures.capacity in
    let items : c.push-pushed.new.self.items ≡ root ∷ [] =
    pushed c.push-pushed.result [] c.push-pushed.new.self.items c.push-pushed.new.self.items c.waiting_root.result root
    (c.push-pushed.ensures.items ∙ ap (λ (old : List Node). if is_ok c.push-pushed.result then old ++ c.waiting_root.result ∷ [] else old) c.clear.ensures.items)
    (c.push-pushed.ensures.succeeds (omega (arith, c.clear.ensures.len, room, pool.1, pool.0.some, pool.0.few))) refl c.waiting_root.ensures in
    let P : List Node → Type 0 = λ ns. IsPool ns (Some (record { 0 = 0 })) 1 c.self.inside.capacity in (
      subst P (sym items) (root-pool c.self.inside.capacity key None (omega (arith, pool.0.some, pool.0.few)) pool.0.bounded),
      omega (arith, c.push-pushed.ensures.capacity, room, pool.1),
    )
