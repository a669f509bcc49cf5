use Rattle.std.proofs.Common.{◌<◌, ℕ, get_or}
use Rattle.proof_tree.specs.declared.tree.TreeNode.{TreeNode}
use Rattle.bound_certificate.specs.Certificate.{IsPlainNode}
use Rattle.certificate_packing.proofs.packing.are_plain.Given as goal

abbrev pub invariant-loop-node : goal.invariant-loop-node
invariant-loop-node l = (k : ℕ) (d : TreeNode) → k < l.node-index → IsPlainNode (get_or l.nodes k d)
