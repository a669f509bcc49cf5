use Rattle.std.proofs.Common.{◌≡◌, ◌∙◌, ap, subst, arith}
use Rattle.issue_schedule.specs.declared.issue.Issue.{Issue}
use Rattle.offer_book.specs.declared.payment_days.PaymentDays.{PaymentDays}
use Rattle.case_file.specs.Limit.{RestsOn}
use Rattle.savings_table.proofs.FileBonds.{bonds-few}
use Rattle.savings_table.proofs.laws.one_set.Goals as goal

pub returns-clause-bonds : goal.returns-clause-bonds
returns-clause-bonds c = bonds-few

pub returns-clause-set : goal.returns-clause-set
returns-clause-set c text rate_rows price_rows issue case short is read kept =
    let same : kept.issue ≡ issue = cc (kept.is_issue, is) in
    record {
      read = read;
      bonds = omega (arith, bonds-few text issue is);
      settle = ap (λ (days : PaymentDays). days.settle) kept.rows.days ∙ ap (λ (i : Issue). i.settle) same;
      limit = subst (λ (i : Issue). RestsOn i case.limit) same kept.limit;
    }
