use Rattle.std.proofs.Common.{◌≡◌, ◌∙◌, ◌*◌, ◌^◌, ◌≤◌, List, ap, sym, subst, rules, map}
use Rattle.std.specs.List.{All, sum_by, zip}
use Rattle.escrow_units.specs.declared.security.Flow.{Flow}
use Rattle.offer_book.specs.Portfolio.{line_payments, par}
use Rattle.offer_book.specs.Schedule.{kind_rate}
use Rattle.payment_schedule.specs.Schedule.{flow_by}
use Rattle.offer_book.proofs.LineFacts.{line_par-at_most, rate-low}
use Rattle.dual_bound.specs.Columns.{kind_power}
use Rattle.payment_schedule.specs.declared.schedule.ScheduledPayment.{ScheduledPayment}
use Rattle.plan_finder.specs.Ledger.{flows_worth}
use Rattle.plan_finder.proofs.LedgerFacts.{flows-little, pair_worth, worth-zip}
use Rattle.payment_schedule.proofs.ScheduleFacts.{flows_by}
use Rattle.plan_finder.proofs.terms.LineTerms.purchase.Goals as goal

pub worth_of-worth-requires-clause-flows : goal.worth_of-worth-requires-clause-flows
worth_of-worth-requires-clause-flows c =
    let line = c.args.line.now in
    let days = c.requires.line.0 in
    let is = c.requires.line.1 in
    let flows : c.as_slice-3.result.now ≡ map (flow_by (kind_rate line.kind) (par line c.args.units)) c.args.self.now.schedule.items = search rules in
    subst (All (λ flow. flow.cents.0 ≤ 2 * 10 ^ 13)) (sym flows)
    (flows-little (kind_rate line.kind) (par line c.args.units) c.args.self.now.schedule.items (rate-low days line is) (line_par-at_most days line c.args.units is c.requires.units) c.requires.terms.2.short)

pub returns : goal.returns
returns c = λ days n is terms.
    let line = c.args.line.now in
    let flows : c.scheduled_flows-payments.result.items ≡ map (flow_by (kind_rate line.kind) (par line c.args.units)) c.args.self.now.schedule.items = search rules in
    let pays : c.scheduled_flows-payments.result.items ≡ line_payments days line c.args.units = flows ∙ ap (flows_by (kind_rate line.kind) (par line c.args.units)) terms.schedule in
    let worth : c.worth_of-worth.result ≡ sum_by pair_worth (zip c.args.self.now.powers.items c.scheduled_flows-payments.result.items) =
    c.worth_of-worth.ensures ∙ (λ i. sum_by pair_worth (zip (c.as_slice-2.ensures.value i) (c.as_slice-3.ensures.value i))) in
    record {
      cost = c.cost_by.ensures;
      payments = pays;
      worth = worth ∙ ap (λ powers. sum_by pair_worth (zip powers c.scheduled_flows-payments.result.items)) terms.powers
          ∙ ap (λ (items : List Flow). sum_by pair_worth (zip (map (λ (payment : ScheduledPayment). kind_power n days.settle line.kind payment.day) c.args.self.now.schedule.items) items)) flows
          ∙ worth-zip n days.settle line.kind (kind_rate line.kind) (par line c.args.units) c.args.self.now.schedule.items
          ∙ ap (λ (schedule : List ScheduledPayment). flows_worth n days.settle line.kind (flows_by (kind_rate line.kind) (par line c.args.units) schedule)) terms.schedule;
    }
