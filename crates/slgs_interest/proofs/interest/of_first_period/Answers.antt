use Rattle.std.proofs.Common.{arith, rules, ◌≡◌, ◌∙◌, ◌+◌, ap, ℤ, ◌≤ℤ◌, ◌<ℤ◌, ◌≤◌}
use Rattle.jiff_core.proofs.SignedLemmas.{signed_arith}
use Rattle.escrow_units.specs.Calendar.{half_back_of}
use Rattle.escrow_units.specs.declared.security.StepRule.TheVariants as rule
use Rattle.slgs_interest.specs.Payments.{second_before_first, accrual_to}
use Rattle.slgs_interest.proofs.Amounts.{long-period, short-period}
use Rattle.slgs_interest.proofs.Series.{paid}
use Rattle.slgs_interest.proofs.interest.of_first_period.Goals as goal

pub overflow_add-dates : goal.overflow_add-dates
overflow_add-dates c =
    let p = paid c.args.slgs.now c.requires.settlement c.requires.terms in
    record { fits = omega (arith, p.count, p.few, c.requires.dates) }

pub half_back-second_before-requires : goal.half_back-second_before-requires
half_back-second_before-requires c =
    let p = paid c.args.slgs.now c.requires.settlement c.requires.terms in
    record { few = omega (arith, p.count, p.few, c.requires.dates); base = p.base }

pub days_between-half_year-requires : goal.days_between-half_year-requires
days_between-half_year-requires c =
    let p = paid c.args.slgs.now c.requires.settlement c.requires.terms in
    let before = c.requires.before in
    let second : c.half_back-second_before.result ≡ second_before_first c.args.slgs.now =
    c.half_back-second_before.ensures ∙ ap (λ n. half_back_of c.args.slgs.now.maturity (n + 1) rule.SameDay) c.requires.dates in
    omega (arith, signed_arith, before, second, p.second_before.least)

pub days_between-half_year-requires-else-lt : goal.days_between-half_year-requires-else-lt
days_between-half_year-requires-else-lt c =
    let p = paid c.args.slgs.now c.requires.settlement c.requires.terms in
    let before = c.requires.before in
    omega (arith, signed_arith, before, p.before.least)

pub returns-then-lt : goal.returns-then-lt
returns-then-lt c =
    let before = c.requires.before in
    let second : c.half_back-second_before.result ≡ second_before_first c.args.slgs.now =
    c.half_back-second_before.ensures ∙ ap (λ n. half_back_of c.args.slgs.now.maturity (n + 1) rule.SameDay) c.requires.dates in
    let less : c.args.slgs.now.settle <ℤ c.args.before = search rules in
    long-period c.args.slgs.now.settle c.args.slgs.now.first c.args.before c.half_back-second_before.result _ _ less c.days_between-half_year.ensures c.days_between.ensures
    ∙ (λ i. accrual_to c.args.slgs.now.settle c.args.slgs.now.first (before i) (second i))

pub returns-else-lt : goal.returns-else-lt
returns-else-lt c =
    let before = c.requires.before in
    let least : c.args.before ≤ℤ c.args.slgs.now.settle = search rules in
    short-period c.args.slgs.now.settle c.args.slgs.now.first c.args.before (second_before_first c.args.slgs.now) _ _ least c.days_between-half_year-else-lt.ensures c.days_between-else-lt.ensures
    ∙ ap (λ (b : ℤ). accrual_to c.args.slgs.now.settle c.args.slgs.now.first b (second_before_first c.args.slgs.now)) before

pub overflow_mul-result-else-lt : goal.overflow_mul-result-else-lt
overflow_mul-result-else-lt c =
    let before = c.requires.before in
    let p = paid c.args.slgs.now c.requires.settlement c.requires.terms in
    let few : c.days_between-half_year-else-lt.result ≤ 184 = omega (arith, signed_arith, before, p.before.most, c.days_between-half_year-else-lt.ensures) in
    record { fits = omega arith }
