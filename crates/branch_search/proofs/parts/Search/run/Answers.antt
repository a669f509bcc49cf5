use mir.Syntax.{w128}
use Rattle.std.proofs.Common.{◌≡◌, ◌∙◌, ◌^◌, ◌<◌, ℤ, List, sym, ap, subst, arith, to_z, of_z, unsigned_abs}
use Rattle.std.proofs.lemmas.Int.{ints, to_z-of_z}
use Rattle.case_file.specs.Case.{CaseContents}
use Rattle.node_ranges.specs.Ranges.{AreTight, RangesContents, root_of}
use Rattle.halving_tree.specs.declared.rule.SplitRule.TheVariants as rules
use Rattle.offer_book.specs.Book.{IsBook}
use Rattle.search_tree.specs.Growing.{IsPriced}
use Rattle.search_tree.specs.Tree.{new_tree}
use Rattle.branch_search.proofs.EndFacts.{priced-small}
use Rattle.branch_search.proofs.PartFacts.{dearer-kept}
use Rattle.branch_search.specs.Parts.{SearchContents, best_cents}
use Rattle.branch_search.specs.Runs.{IsRunEnd}
use Rattle.branch_search.specs.Search.{IsNoDearerThanBackward}
use Rattle.branch_search.specs.declared.growing.RunEnd.{RunEnd}
use Rattle.branch_search.proofs.parts.Search.run.Goals as goal

pub find_plan-requires-clause-bound : goal.find_plan-requires-clause-bound
find_plan-requires-clause-bound g c =
    let now = c.args.self.now in
    let root = c.in_ok-root.root in
    let limits : IsBook now.case.book = subst (λ (s : SearchContents). IsBook s.case.book) c.self.view_is c.line_count.ensures.limits in
    let tight : AreTight now.case.book now.ranges = subst (λ (s : SearchContents). AreTight s.case.book s.ranges) c.self.view_is c.self.invariant.tight in
    let small : unsigned_abs root.bound < 10 ^ 28 = priced-small now.case now.ranges root limits tight c.in_ok-root.ensures.priced in
    let same : to_z w128 (of_z w128 root.bound) ≡ root.bound = to_z-of_z w128 root.bound (record { sfits = omega (arith, ints, small) }) in
    subst (λ (b : ℤ). unsigned_abs b < 10 ^ 28) (sym same) small

pub grow_by-requires-clause-tree : goal.grow_by-requires-clause-tree
grow_by-requires-clause-tree g c =
    let now = c.args.self.now in
    let next = c.find_plan.new.self in
    let root = c.in_ok-root.root in
    let same : next.case ≡ now.case = c.in_ok-find_plan.ensures.kept.case ∙ ap (λ (s : SearchContents). s.case) c.in_ok-root.ensures.search in
    record {
      root = root;
      priced = subst (λ (k : CaseContents). IsPriced k (root_of k.book) root) (sym same)
          (subst (λ (r : RangesContents). IsPriced now.case r root) c.requires.ranges c.in_ok-root.ensures.priced);
      alone = c.in_ok-tree.ensures ∙ ap (λ (s : SearchContents). new_tree s.case.budget root) c.self-2.view_is;
    }

pub grow_by-requires-clause-backward : goal.grow_by-requires-clause-backward
grow_by-requires-clause-backward g c =
    let next = c.find_plan.new.self in
    subst (λ (k : CaseContents). IsNoDearerThanBackward k.limit k.book (best_cents next.best)) (sym c.in_ok-find_plan.ensures.kept.case) c.in_ok-find_plan.ensures.backward

pub run_again-requires-clause-backward : goal.run_again-requires-clause-backward
run_again-requires-clause-backward g c =
    let next = c.find_plan.new.self in
    let last = c.grow_by.new.self in
    let started : IsNoDearerThanBackward next.case.limit next.case.book (best_cents next.best) =
    subst (λ (k : CaseContents). IsNoDearerThanBackward k.limit k.book (best_cents next.best)) (sym c.in_ok-find_plan.ensures.kept.case) c.in_ok-find_plan.ensures.backward in
    let spent = subst (λ (e : RunEnd). IsRunEnd next.case rules.Relaxation (best_cents next.best) (best_cents last.best) e) c.in-Spent.is c.in_ok-found.ensures.ended in
    subst (λ (k : CaseContents). IsNoDearerThanBackward k.limit k.book (best_cents last.best)) (sym c.in_ok-found.ensures.case)
    (dearer-kept next.case.limit next.case.book (best_cents next.best) (best_cents last.best) spent.0 started)
