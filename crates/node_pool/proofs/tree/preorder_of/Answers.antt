use Rattle.std.proofs.Common.{◌∙◌, ◌++◌, ◌∷◌, [], List, ap}
use Rattle.node_pool.specs.declared.node.NodeId.{NodeId}
use Rattle.node_pool.specs.Queue.{states_of}
use Rattle.node_pool.proofs.TreeFacts.{SomeTree, open-there, root-tree, walk-at-start, walk-lighter, walk-on}
use Rattle.node_pool.proofs.tree.preorder_of.Goals as goal

pub loop-node-init : goal.loop-node-init
loop-node-init c =
    let root : SomeTree (states_of c.args.nodes.now) 0 = root-tree c.args.nodes.now c.requires.some c.requires.ended c.requires.whole in
    record {
      whole = root.0;
      is = root.1;
      walk = walk-at-start (states_of c.args.nodes.now) c.push.new.self.items c.in_ok-links.links.items root.0
          (c.in_ok-push.ensures.items ∙ ap (λ (ns : List NodeId). ns ++ record { 0 = 0 } ∷ []) c.new-open.ensures.items) c.in_ok-links.ensures.items root.1;
    }

pub open_node-requires : goal.open_node-requires
open_node-requires c =
    open-there c.args.nodes.now c.loop-node.«open».items c.pop.new.self.items c.in-Some.node c.loop-node.links.items c.loop-node.invariant.whole c.in-Some.ensures.items c.loop-node.invariant.walk

pub loop-node-smaller : goal.loop-node-smaller
loop-node-smaller c =
    walk-lighter c.args.nodes.now c.loop-node.«open».items c.pop.new.self.items c.open_node.new.«open».items c.in-Some.node c.in-Some.ensures.items c.in_ok-open_node.ensures.«open»
    (open-there c.args.nodes.now c.loop-node.«open».items c.pop.new.self.items c.in-Some.node c.loop-node.links.items c.loop-node.invariant.whole c.in-Some.ensures.items c.loop-node.invariant.walk)
    c.requires.whole

pub loop-node-preserved : goal.loop-node-preserved
loop-node-preserved c = record {
  whole = c.loop-node.invariant.whole;
  is = c.loop-node.invariant.is;
  walk = walk-on c.args.nodes.now c.loop-node.«open».items c.pop.new.self.items c.open_node.new.«open».items c.in-Some.node c.loop-node.links.items c.push-in-Some.new.self.items
      c.in_ok-open_node.field-0 c.loop-node.invariant.whole c.in-Some.ensures.items c.in_ok-open_node.ensures.«open» c.in_ok-push-2.ensures.items c.in_ok-open_node.ensures.value
      c.loop-node.invariant.walk;
}
