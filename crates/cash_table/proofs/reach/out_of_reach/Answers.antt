use Rattle.std.proofs.Common.{◌∙◌, ap, map, subst, sym}
use Rattle.offer_book.specs.declared.line.Line.{Line}
use Rattle.offer_book.specs.Portfolio.{IsPermitted}
use Rattle.cash_table.proofs.ReachFacts.{most_is_permitted, reach_tells, short_tells}
use Rattle.cash_table.proofs.reach.out_of_reach.Goals as goal

pub first_short_of_units-requires : goal.first_short_of_units-requires
first_short_of_units-requires c =
    let units = c.put_most.ensures.units ∙ ap (map (λ (line : Line). line.most)) c.lines-lines.ensures.value in
    subst (IsPermitted c.args.book.now) (sym units) (most_is_permitted c.args.book.now c.lines-lines.ensures.limits)

pub returns-clause-none : goal.returns-clause-none
returns-clause-none c =
    let units = c.put_most.ensures.units ∙ ap (map (λ (line : Line). line.most)) c.lines-lines.ensures.value in
    reach_tells c.args.book.now c.first_short_of_units.result c.lines-lines.ensures.limits (rw units at c.first_short_of_units.ensures.first)

pub returns-clause-all_short : goal.returns-clause-all_short
returns-clause-all_short c =
    let units = c.put_most.ensures.units ∙ ap (map (λ (line : Line). line.most)) c.lines-lines.ensures.value in
    (short_tells c.args.book.now c.first_short_of_units.result (rw units at c.first_short_of_units.ensures.first)).1
