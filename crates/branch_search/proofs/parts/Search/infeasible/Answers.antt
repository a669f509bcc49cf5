use Rattle.std.proofs.Common.{sym, subst, arith}
use Rattle.std.proofs.lemmas.Int.{ints}
use Rattle.case_file.specs.Case.{CaseContents}
use Rattle.node_ranges.proofs.RangeFacts.{tight-of}
use Rattle.proof_tree.specs.declared.tree.Leaf.{Leaf}
use Rattle.search_tree.specs.Growing.{ShowsNone}
use Rattle.branch_search.proofs.PartFacts.{shows-none}
use Rattle.branch_search.specs.Parts.{SearchContents}
use Rattle.branch_search.specs.Search.{searched}
use Rattle.branch_search.proofs.parts.Search.infeasible.Goals as goal

pub tune_without_cost-bound-requires-clause-ranges : goal.tune_without_cost-bound-requires-clause-ranges
tune_without_cost-bound-requires-clause-ranges c = rw c.self.invariant.tuned (tight-of c.self.inside.book.now c.self.inside.ranges c.self.invariant.tight)

pub returns-clause-shown : goal.returns-clause-shown
returns-clause-shown c =
    let own : CaseContents = searched c.self.inside.book.now c.self.inside.limit c.self.inside.allowance.0 c.self.inside.budget in
    let found = c.tune_without_cost-bound in
    subst (λ (s : SearchContents). ShowsNone s.case s.ranges c.in_ok-leaf.leaf) c.self.view_is
    (subst (λ (l : Leaf). ShowsNone own c.self.inside.ranges l) (sym c.in_ok-leaf.ensures)
    (shows-none own c.self.inside.tuner found.new.into c.self.inside.ranges found.result c.self.invariant.tuned found.ensures.leaf found.ensures.without_cost found.ensures.bound (omega (arith, ints))))
