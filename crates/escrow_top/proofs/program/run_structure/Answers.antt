use Rattle.certificate_answers.specs.Reading.{names_view}
use Rattle.escrow_top.specs.Structure.{draft_outcome}
use Rattle.escrow_top.proofs.StructureLaws.{structure_means, structure_outcome}
use Rattle.escrow_top.proofs.program.run_structure.Goals as goal

pub returns-in-Ok-clause-means : goal.returns-in-Ok-clause-means
returns-in-Ok-clause-means g c = λ reached.
    structure_means (g.D.Desk.told c.args.desk.now) (g.D.Desk.told c.put_out.new.desk) (names_view c.args.names.now) c.in-Ok.draft c.put_out.result
    (c.put_out.ensures.structured reached) c.in-Ok.ensures.status c.in-Ok.ensures.accepted c.in-Ok.ensures.plain c.in-Ok.ensures.draft
    (rw c.structure.ensures.told at (c.put_out.ensures.whole reached))

pub returns-in-Ok-clause-answers : goal.returns-in-Ok-clause-answers
returns-in-Ok-clause-answers g c = λ reached.
    let names = names_view c.args.names.now in
    record {
      outcome = draft_outcome names.cert c.in-Ok.draft;
      is = structure_outcome (g.D.Desk.told c.args.desk.now) names c.in-Ok.draft c.in-Ok.ensures.draft;
      done = rw c.structure.ensures.told at (c.put_out.ensures.whole reached);
    }

pub returns-in-Ok-clause-part : goal.returns-in-Ok-clause-part
returns-in-Ok-clause-part g c = λ failed.
    let names = names_view c.args.names.now in
    record {
      outcome = draft_outcome names.cert c.in-Ok.draft;
      is = structure_outcome (g.D.Desk.told c.args.desk.now) names c.in-Ok.draft c.in-Ok.ensures.draft;
      failed = rw c.structure.ensures.told at (c.put_out.ensures.part failed);
    }
