use Rattle.proof_tree.specs.Tree.{IsLeaf}
use Rattle.measure.proofs.random.solve_all.Given as goal

abbrev pub invariant-loop-program : goal.invariant-loop-program
invariant-loop-program l = IsLeaf l.simplex.dates l.leaf
