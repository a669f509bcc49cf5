use Rattle.std.proofs.Common.{◌≡◌, ◌∙◌, drop, length, map, ap, arith}
use Rattle.dual_bound.specs.Columns.{worth_on}
use Rattle.dual_bound.proofs.SumFacts.{written}
use Rattle.dual_bound.proofs.TableauFacts.{worths-light}
use Rattle.dual_bound.proofs.tableau.Tableau.price_anew.Goals as goal

pub sum_up-requires-clause-light : goal.sum_up-requires-clause-light
sum_up-requires-clause-light c =
    let self = c.args.self.now in
    let new = c.price_days.new.worths in
    let len : self.priced.worths.len ≡ length new = omega (arith, self.priced.worths.ok.0, c.price_days.auto.worths, ap length c.as_mut_slice.ensures.value) in
    worths-light (length c.args.book.now.needs) c.args.leaf.now self.days.items c.as_slice-3.result.now c.requires.leaf c.requires.tableau.powers
    (c.as_slice-3.ensures.value ∙ written new (drop (length new) self.priced.worths.items) self.priced.worths.len len ∙ c.price_days.ensures ∙ ap (map (worth_on c.args.leaf.now)) c.as_slice.ensures.value)
