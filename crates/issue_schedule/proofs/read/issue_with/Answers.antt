use Rattle.std.proofs.Common.{sym, subst, arith}
use Rattle.std.specs.Prelude.{All}
use Rattle.std.proofs.lemmas.List.Elements.{All-weaker}
use Rattle.jiff_core.proofs.SignedLemmas.{signed_arith}
use Rattle.escrow_units.specs.OpenDays.{IsBy2190}
use Rattle.escrow_units.proofs.YearFacts.{settlement-base}
use Rattle.issue_schedule.specs.IssueTerms.{IsLater}
use Rattle.issue_schedule.proofs.read.issue_with.Goals as goal

pub new-requires : goal.new-requires
new-requires c =
    let settle = c.args.read.settle in
    subst (All IsBy2190) (sym c.into_vec.ensures)
    (All-weaker (IsLater settle) IsBy2190
    (λ day later. (settlement-base settle day c.requires.settle (omega (arith, signed_arith, later.after)) later.by).1) c.args.read.closed c.requires.closed)
