use mir.Syntax.{w128}
use Rattle.std.proofs.Common.{rules, ◌≡◌, ◌∙◌, ◌≤◌, ◌∷◌, ◌++◌, [], List, length, ap, arith, sym, to_z, of_z, if◌then◌else◌, Bool, true}
use Rattle.std.specs.Result.{is_ok}
use Rattle.std.proofs.lemmas.Int.{to_z-of_z}
use Rattle.node_pool.specs.Pool.{PoolContents, new_pool}
use Rattle.search_tree.specs.Tree.{TreeContents}
use Rattle.search_tree.specs.declared.node.SearchNode.{SearchNode}
use Rattle.search_tree.proofs.tree.SearchTree.restart.Goals as goal

-- the list of the nodes is cleared, and then the root is put
one-more : (old new : List SearchNode) (ok : Bool) (root : SearchNode) → new ≡ (if ok then old ++ root ∷ [] else old) → ok ≡ true → old ≡ [] → new ≡ root ∷ []
one-more old new ok root is went empty = is ∙ ap (λ (b : Bool). if b then old ++ root ∷ [] else old) went ∙ ap (λ (ns : List SearchNode). ns ++ root ∷ []) empty

pub invariant_of-self : goal.invariant_of-self
invariant_of-self c =
    let room = c.clear.ensures.capacity in
    let some : 1 ≤ c.restart.new.self.capacity = omega (arith, c.count.ensures.few, c.count.ensures.value, ap (λ (p : PoolContents). length p.states) c.restart.ensures) in
    let fits = ap (λ (p : PoolContents). p.capacity) c.restart.ensures in
    let pushed = c.push-pushed.ensures.succeeds (omega (arith, c.clear.ensures.len, room, c.self.invariant.1, some, fits)) in (
      ap length (one-more c.clear.new.self.items c.push-pushed.new.self.items (is_ok c.push-pushed.result) c.open_node.result c.push-pushed.ensures.items pushed c.clear.ensures.items)
          ∙ sym (ap (λ (p : PoolContents). length p.states) c.restart.ensures),
      omega (arith, c.push-pushed.ensures.capacity, room, c.self.invariant.1, fits),
    )

pub returns : goal.returns
returns c =
    let room = c.clear.ensures.capacity in
    let some : 1 ≤ c.restart.new.self.capacity = omega (arith, c.count.ensures.few, c.count.ensures.value, ap (λ (p : PoolContents). length p.states) c.restart.ensures) in
    let fits = ap (λ (p : PoolContents). p.capacity) c.restart.ensures in
    let pushed = c.push-pushed.ensures.succeeds (omega (arith, c.clear.ensures.len, room, c.self.invariant.1, some, fits)) in
    let nodes = one-more c.clear.new.self.items c.push-pushed.new.self.items (is_ok c.push-pushed.result) c.open_node.result c.push-pushed.ensures.items pushed c.clear.ensures.items
    ∙ ap (λ (n : SearchNode). n ∷ []) c.open_node.ensures in
    let capacity = ap (λ (t : TreeContents). t.pool.capacity) c.self.view_is in
    let bound : to_z w128 (of_z w128 c.args.root.bound) ≡ c.args.root.bound = to_z-of_z w128 c.args.root.bound (search rules) in
    let pool = c.restart.ensures ∙ (λ i. new_pool (capacity i) (bound i)) in
    λ i. record { pool = pool i; nodes = nodes i }
