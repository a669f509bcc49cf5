use Rattle.std.proofs.Common.{◌∙◌, ◌-◌, ◌||◌, ℕ, suc, Bool, List, drop, drop-cons, ap, sym}
use Rattle.std.proofs.lemmas.List.{drop_all}
use Rattle.bound_certificate.specs.declared.packed.Change.{Change}
use Rattle.bound_certificate.proofs.NearFacts.{at_place, near, near-rises}
use Rattle.bound_certificate.proofs.near.rises_near.Goals as goal

pub returns-then-rises_at : goal.returns-then-rises_at
returns-then-rises_at c = λ dates vector base is.
    let changes : List Change = c.args.changes.now in
    let prices : List ℕ = c.args.prices.now in
    let index : ℕ = c.loop-change.change-index in
    let rest : List Change = drop (suc index) changes in
    sym
    (sym c.loop-change.invariant ∙ ap (near prices) (drop-cons changes index (record { place = 0; price = 0 }) c.loop-change-test.true)
    ∙ ap (λ (b : Bool). b || near prices rest) (ap (λ (place : ℕ). at_place prices (place - 1)) (sym c.from.ensures) ∙ sym c.rises_at.ensures ∙ c.if-rises_at.true))
    ∙ near-rises dates vector prices changes base is c.requires

pub returns : goal.returns
returns c = λ dates vector base is.
    sym (sym c.loop-change.invariant ∙ ap (near c.args.prices.now) (drop_all c.loop-change.change-index c.args.changes.now c.loop-change-test.false))
    ∙ near-rises dates vector c.args.prices.now c.args.changes.now base is c.requires
