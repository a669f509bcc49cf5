use Rattle.std.proofs.Common.{◌+◌, ◌-◌, ◌≡◌, length}
use Rattle.case_file.specs.Case.{case_view}
use Rattle.certificate_answers.proofs.HearingFacts.{HasRead}
use Rattle.certificate_answers.proofs.hearing.hear.Given as goal

abbrev pub invariant-pieces : goal.invariant-pieces
invariant-pieces g l = record {
  so_far : HasRead (g.D.Desk.told l.fn.desk) l.name (case_view l.fn.case) l.checker l.read;
  told : g.D.Desk.told l.desk ≡ g.D.Desk.told l.fn.desk;
  room : length l.piece ≡ 16384;
  counts : g.D.Desk.counts l.desk ≡ g.D.Desk.counts l.fn.desk;
}

abbrev pub decreases-pieces : goal.decreases-pieces
decreases-pieces g l = 67108864 + 1 - l.read
