use Rattle.rate_cap.proofs.CaseFacts.{cases-are_one}
use Rattle.certificate_answers.specs.Reading.{names_view}
use Rattle.escrow_top.specs.Capping.{cap_draft_outcome}
use Rattle.escrow_top.proofs.CappingLaws.{cap_means, cap_outcome}
use Rattle.escrow_top.proofs.program.run_cap.Goals as goal

pub returns-in-Ok-clause-means : goal.returns-in-Ok-clause-means
returns-in-Ok-clause-means g c = λ reached.
    cap_means cases-are_one (g.D.Desk.told c.args.desk.now) (g.D.Desk.told c.put_out_cap.new.desk) (names_view c.args.names.now) c.in-Ok.draft c.put_out_cap.result
    (c.put_out_cap.ensures.structured reached) c.in-Ok.ensures.status c.in-Ok.ensures.capped c.in-Ok.ensures.draft
    (rw c.cap.ensures.told at (c.put_out_cap.ensures.whole reached))

pub returns-in-Ok-clause-answers : goal.returns-in-Ok-clause-answers
returns-in-Ok-clause-answers g c = λ reached.
    let names = names_view c.args.names.now in
    record {
      outcome = cap_draft_outcome names.cert c.in-Ok.draft;
      is = cap_outcome (g.D.Desk.told c.args.desk.now) names c.in-Ok.draft c.in-Ok.ensures.draft;
      done = rw c.cap.ensures.told at (c.put_out_cap.ensures.whole reached);
    }

pub returns-in-Ok-clause-part : goal.returns-in-Ok-clause-part
returns-in-Ok-clause-part g c = λ failed.
    let names = names_view c.args.names.now in
    record {
      outcome = cap_draft_outcome names.cert c.in-Ok.draft;
      is = cap_outcome (g.D.Desk.told c.args.desk.now) names c.in-Ok.draft c.in-Ok.ensures.draft;
      failed = rw c.cap.ensures.told at (c.put_out_cap.ensures.part failed);
    }
