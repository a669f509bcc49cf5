use Rattle.std.proofs.Common.{◌≡◌, ◌∙◌, ◌+◌, ◌<◌, ◌≤◌, ℕ, refl, sym, ap, subst, arith, Option, Some, None}
use Rattle.std.specs.Prelude.{IfSome}
use Rattle.escrow_units.specs.declared.limits.TheConstants.{AMOUNT_LIMIT}
use Rattle.bound_certificate.specs.declared.limits.TheConstants.{MOST_NODES}
use Rattle.offer_book.specs.Book.{IsBook}
use Rattle.search_tree.specs.Growing.{IsBought}
use Rattle.branch_search.proofs.EndFacts.{none-by}
use Rattle.branch_search.proofs.SpentFacts.{one-shown, shown-by, shown-found, spent-is}
use Rattle.branch_search.specs.Parts.{SearchContents, best_cents}
use Rattle.branch_search.specs.Search.{IsNoDearerThanBackward, IsShown}
use Rattle.branch_search.specs.declared.found.Best.{Best}
use Rattle.branch_search.proofs.parts.Search.settle.Goals as goal

pub returns-in_default-clause-outcome : goal.returns-in_default-clause-outcome
returns-in_default-clause-outcome c =
    let now = c.args.self.now in
    let taken = c.greater-tree.result in
    let shown : IsShown now.case taken.tree taken.bound.0 = one-shown now.case c.args.first c.args.second taken c.greater-tree.ensures.one c.requires.first c.requires.second.shown in
    let none : now.best ≡ None = sym (ap (λ (s : SearchContents). s.best) c.self.view_is) ∙ sym c.take.ensures.value ∙ none-by c.take.result c.in_default.not-Some in
    spent-is now.case taken.bound.0 taken.tree (best_cents now.best) None c.requires.reach shown (c.requires.second.larger refl) (ap best_cents none) tt tt c.requires.backward

pub returns-then-gap-self-clause-outcome : goal.returns-then-gap-self-clause-outcome
returns-then-gap-self-clause-outcome c =
    let now = c.args.self.now in
    let taken = c.greater-tree.result in
    let best = c.in-Some.best in
    let shown : IsShown now.case taken.tree taken.bound.0 = one-shown now.case c.args.first c.args.second taken c.greater-tree.ensures.one c.requires.first c.requires.second.shown in
    let some : c.self.inside.best ≡ Some best = sym c.take.ensures.value ∙ c.in-Some.is in
    let inside : IsBought c.self.inside.limit c.self.inside.book.now best.plan best.cost.0 =
    subst (λ (b : Option Best). IfSome b (λ own. IsBought c.self.inside.limit c.self.inside.book.now own.plan own.cost.0)) some c.self.invariant.bought in
    let own : IsBought now.case.limit now.case.book best.plan best.cost.0 = subst (λ (s : SearchContents). IsBought s.case.limit s.case.book best.plan best.cost.0) c.self.view_is inside in
    let allowed : c.self.inside.allowance.0 ≡ now.case.allowance = ap (λ (s : SearchContents). s.case.allowance) c.self.view_is in
    let limits : IsBook now.case.book = subst (λ (s : SearchContents). IsBook s.case.book) c.self.view_is c.line_count.ensures.limits in (
      shown-found now.case taken.bound.0 c.saturating_sub-gap.result taken.tree best.plan best.cost.0 shown (subst (λ (s : SearchContents). s.case.budget ≤ MOST_NODES) c.self.view_is c.self.invariant.limits.budget_to)
          (subst (λ (s : SearchContents). s.case.allowance ≤ AMOUNT_LIMIT) c.self.view_is c.self.invariant.limits.allowed) limits own (omega (arith, c.saturating_sub-gap.ensures))
          (omega (arith, allowed, c.if-gap-self.true)),
      shown-by now.case taken.bound.0 taken.tree best.plan best.cost.0 shown c.requires.reach own
          (subst (IsNoDearerThanBackward now.case.limit now.case.book) (ap best_cents (sym (ap (λ (s : SearchContents). s.best) c.self.view_is) ∙ some)) c.requires.backward),
    )

pub returns-clause-outcome : goal.returns-clause-outcome
returns-clause-outcome c =
    let now = c.args.self.now in
    let taken = c.greater-tree.result in
    let best = c.in-Some.best in
    let shown : IsShown now.case taken.tree taken.bound.0 = one-shown now.case c.args.first c.args.second taken c.greater-tree.ensures.one c.requires.first c.requires.second.shown in
    let some : c.self.inside.best ≡ Some best = sym c.take.ensures.value ∙ c.in-Some.is in
    let inside : IsBought c.self.inside.limit c.self.inside.book.now best.plan best.cost.0 =
    subst (λ (b : Option Best). IfSome b (λ own. IsBought c.self.inside.limit c.self.inside.book.now own.plan own.cost.0)) some c.self.invariant.bought in
    let own : IsBought now.case.limit now.case.book best.plan best.cost.0 = subst (λ (s : SearchContents). IsBought s.case.limit s.case.book best.plan best.cost.0) c.self.view_is inside in
    let allowed : c.self.inside.allowance.0 ≡ now.case.allowance = ap (λ (s : SearchContents). s.case.allowance) c.self.view_is in
    let over : taken.bound.0 + now.case.allowance < best.cost.0 = omega (arith, allowed, c.if-gap-self.false, c.saturating_sub-gap.ensures) in
    spent-is now.case taken.bound.0 taken.tree (best_cents now.best) (Some best.plan) c.requires.reach shown (c.requires.second.larger refl)
    (ap best_cents (sym (ap (λ (s : SearchContents). s.best) c.self.view_is) ∙ some) ∙ ap (λ n. Some n) own.priced)
    (record { permitted = own.permitted; meets = own.meets; within = own.within; priced = refl }) (subst (λ (n : ℕ). taken.bound.0 + now.case.allowance < n) own.priced over) c.requires.backward
