use Rattle.std.proofs.Common.{◌≡◌, ◌∙◌, sym, ap, subst, Option}
use Rattle.case_file.specs.Case.{CaseContents}
use Rattle.halving_tree.specs.declared.rule.SplitRule.TheVariants as rules
use Rattle.branch_search.proofs.PartFacts.{dearer-kept}
use Rattle.branch_search.specs.Growth.{IsBegun}
use Rattle.branch_search.specs.Parts.{best_cents}
use Rattle.branch_search.specs.Runs.{IsRunEnd}
use Rattle.branch_search.specs.Search.{IsNoDearerThanBackward}
use Rattle.branch_search.specs.declared.found.Best.{Best}
use Rattle.branch_search.specs.declared.growing.RunEnd.{RunEnd}
use Rattle.branch_search.proofs.parts.Search.run_again.Goals as goal

pub start_again-requires : goal.start_again-requires
start_again-requires g c = c.requires.capacity ∙ ap (λ (k : CaseContents). k.budget) (sym c.in_ok-find_cheaper.ensures.kept.case)

pub grow_by-requires-clause-tree : goal.grow_by-requires-clause-tree
grow_by-requires-clause-tree g c =
    subst (λ (k : CaseContents). IsBegun k c.start_again.new.tree) (sym c.in_ok-start_again.ensures.case) c.in_ok-start_again.ensures.tree

pub grow_by-requires-clause-backward : goal.grow_by-requires-clause-backward
grow_by-requires-clause-backward g c =
    let now = c.args.self.now in
    let cheaper = c.find_cheaper.new.self in
    let next = c.start_again.new.self in
    subst (λ (k : CaseContents). IsNoDearerThanBackward k.limit k.book (best_cents next.best)) (sym (c.in_ok-start_again.ensures.case ∙ c.in_ok-find_cheaper.ensures.kept.case))
    (subst (λ (b : Option Best). IsNoDearerThanBackward now.case.limit now.case.book (best_cents b)) (sym c.in_ok-start_again.ensures.best)
    (dearer-kept now.case.limit now.case.book (best_cents now.best) (best_cents cheaper.best) c.in_ok-find_cheaper.ensures.no_dearer c.requires.backward))

pub settle-requires-clause-backward : goal.settle-requires-clause-backward
settle-requires-clause-backward g c =
    let now = c.args.self.now in
    let cheaper = c.find_cheaper.new.self in
    let next = c.start_again.new.self in
    let last = c.grow_by.new.self in
    let same : next.case ≡ now.case = c.in_ok-start_again.ensures.case ∙ c.in_ok-find_cheaper.ensures.kept.case in
    let started : IsNoDearerThanBackward next.case.limit next.case.book (best_cents next.best) =
    subst (λ (k : CaseContents). IsNoDearerThanBackward k.limit k.book (best_cents next.best)) (sym same)
    (subst (λ (b : Option Best). IsNoDearerThanBackward now.case.limit now.case.book (best_cents b)) (sym c.in_ok-start_again.ensures.best)
    (dearer-kept now.case.limit now.case.book (best_cents now.best) (best_cents cheaper.best) c.in_ok-find_cheaper.ensures.no_dearer c.requires.backward)) in
    let spent = subst (λ (e : RunEnd). IsRunEnd next.case rules.Halving (best_cents next.best) (best_cents last.best) e) c.in-Spent.is c.in_ok-found.ensures.ended in
    subst (λ (k : CaseContents). IsNoDearerThanBackward k.limit k.book (best_cents last.best)) (sym c.in_ok-found.ensures.case)
    (dearer-kept next.case.limit next.case.book (best_cents next.best) (best_cents last.best) spent.0 started)
