use Rattle.std.proofs.Common.{arith, subst, sym, ◌≡◌, ◌∙◌, ◌+ℤ◌, ap, length, pos, List, ℤ}
use Rattle.std.proofs.lemmas.Int.{ints}
use Rattle.jiff_core.proofs.SignedLemmas.{signed_arith}
use Rattle.escrow_units.specs.Calendar.{half_back_of}
use Rattle.escrow_units.specs.declared.security.StepRule.TheVariants as rule
use Rattle.escrow_units.proofs.LastDates.{half_back_of-reach}
use Rattle.std.specs.Prelude.{All}
use Rattle.escrow_units.specs.OpenDays.{IsBy2190}
use Rattle.slgs_interest.proofs.PaymentFacts.{dates-by}
use Rattle.slgs_interest.proofs.Series.{paid, dates-from-first}
use Rattle.slgs_interest.proofs.flows.dates_of.Goals as goal

pub new-day_before-requires : goal.new-day_before-requires
new-day_before-requires c =
    let p = paid c.args.slgs.now c.requires.settlement c.requires.terms in
    (omega (arith, ints, p.late, c.number.ensures.value, c.requires.settlement.0), omega (arith, ints, c.number.ensures.value, c.number.ensures.bound.1))

day-before : (c : goal.After-series_around) → c.new-day_before.result +ℤ pos 1 ≡ c.args.slgs.now.first
day-before c = omega (arith, ints, c.new-day_before.ensures, c.number.ensures.value, c.number.ensures.bound.0, c.number.ensures.bound.1)

pub series_around-requires : goal.series_around-requires
series_around-requires c =
    let p = paid c.args.slgs.now c.requires.settlement c.requires.terms in
    let reach = half_back_of-reach c.args.slgs.now.maturity rule.SameDay p.steps p.base (omega (arith, p.few)) in
    let day : c.new-day_before.result +ℤ pos 1 ≡ c.args.slgs.now.first = omega (arith, ints, c.new-day_before.ensures, c.number.ensures.value, c.number.ensures.bound.0, c.number.ensures.bound.1) in
    record {
      base = p.base;
      before = omega (arith, signed_arith, day, reach, p.first);
      near = omega (arith, signed_arith, day, p.near);
    }

pub returns-clause-dates : goal.returns-clause-dates
returns-clause-dates c = c.series_around.ensures.after ∙ dates-from-first c.args.slgs.now c.new-day_before.result (day-before c)

pub returns-clause-before : goal.returns-clause-before
returns-clause-before c =
    c.series_around.ensures.previous
    ∙ ap (λ (dates : List ℤ). half_back_of c.args.slgs.now.maturity (length dates) rule.SameDay) (dates-from-first c.args.slgs.now c.new-day_before.result (day-before c))

pub returns-clause-by : goal.returns-clause-by
returns-clause-by c =
    subst (All IsBy2190) (sym (returns-clause-dates c)) (dates-by c.args.slgs.now (paid c.args.slgs.now c.requires.settlement c.requires.terms))
