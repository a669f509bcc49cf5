use Rattle.std.proofs.Common.{◌≡◌, ◌∙◌, ◌++◌, ◌∷◌, [], ap, sym, arith, get_or, ℕ, ℤ}
use Rattle.day_sums.specs.Summed.{on}
use Rattle.issue_schedule.specs.Needs.{half_coupon}
use Rattle.issue_schedule.proofs.BondFacts.{later-base, later-near}
use Rattle.savings_table.proofs.ServiceFacts.{held-dates, held-end, held-more}
use Rattle.savings_table.proofs.old_bonds.held_payments.Goals as goal

pub series_around-dates-requires-clause-near : goal.series_around-dates-requires-clause-near
series_around-dates-requires-clause-near c =
    later-near c.year_laws.ensures.pass c.year_laws.ensures.none c.args.settle c.args.bond.now.maturity c.requires.settle c.requires.bond.maturity

pub loop-date-preserved : goal.loop-date-preserved
loop-date-preserved c =
    let bond = c.args.bond.now in
    let dates = c.as_slice-date-items.result.now in
    let before = c.loop-date.flows.items in
    let cents : c.half_coupon-cents.result.0 ≡ half_coupon bond = c.half_coupon-cents.ensures.value in
    let item : c.date-item.result ≡ get_or dates c.loop-date.date-index c.date-item.result = c.date-item.is in
    record {
      room = omega (arith, c.loop-date.invariant.room, c.push-in-loop-date.ensures.len);
      paid = held-more bond dates c.loop-date.date-index c.date-item.result before c.push-in-loop-date.new.self.items c.loop-date-test.true c.loop-date.invariant.paid
          (c.push-in-loop-date.ensures.items
          ∙ (ap (λ (n : ℕ). before ++ on c.date-item.result n ∷ []) cents ∙ ap (λ (day : ℤ). before ++ on day (half_coupon bond) ∷ []) item));
    }

pub returns : goal.returns
returns c =
    let bond = c.args.bond.now in
    let base = later-base c.year_laws.ensures.base c.args.settle bond.maturity c.requires.settle c.requires.bond.maturity in
    held-end c.args.settle bond c.as_slice-date-items.result.now c.loop-date.date-index c.loop-date.flows.items c.loop-date-test.false c.loop-date.invariant.paid
    (c.as_slice-date-items.ensures.value
    ∙ (c.series_around-dates.ensures.after ∙ sym (held-dates c.series_laws.ensures.after c.series_laws.ensures.start c.series_laws.ensures.fall c.args.settle bond.maturity base)))
