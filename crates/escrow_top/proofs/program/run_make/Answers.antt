use Rattle.std.proofs.Common.{refl, subst}
use Rattle.certificate_answers.specs.InputFiles.{InputFiles}
use Rattle.escrow_top.specs.Effects.{FailedIn, IsDone}
use Rattle.escrow_top.specs.Making.{making_view, made_files, made_outcome}
use Rattle.escrow_top.proofs.MakingLaws.{make_means}
use Rattle.escrow_top.proofs.program.run_make.Goals as goal

pub returns-in-Ok-clause-means : goal.returns-in-Ok-clause-means
returns-in-Ok-clause-means g c = λ reached.
    make_means (making_view c.args.making.now) c.in-Ok.draft.answer c.put_out_made.result c.in-Ok.ensures.status c.in-Ok.ensures.accepted c.in-Ok.ensures.accepted_none
    c.in-Ok.ensures.plain c.in-Ok.ensures.answer (c.put_out_made.ensures.whole reached).0

pub returns-in-Ok-clause-answers : goal.returns-in-Ok-clause-answers
returns-in-Ok-clause-answers g c = λ reached.
    let making = making_view c.args.making.now in
    let answer = c.in-Ok.draft.answer in
    record {
      outcome = made_outcome making.names (made_files making.number) answer;
      is = (answer, c.in-Ok.ensures.answer, refl);
      done =
          subst (λ (files : InputFiles). IsDone (g.D.Desk.told c.args.desk.now) (made_outcome making.names files answer) c.put_out_made.result (g.D.Desk.told c.put_out_made.new.desk))
          c.in-Ok.ensures.files (c.put_out_made.ensures.whole reached);
    }

pub returns-in-Ok-clause-part : goal.returns-in-Ok-clause-part
returns-in-Ok-clause-part g c = λ failed.
    let making = making_view c.args.making.now in
    let answer = c.in-Ok.draft.answer in
    record {
      outcome = made_outcome making.names (made_files making.number) answer;
      is = (answer, c.in-Ok.ensures.answer, refl);
      failed =
          subst (λ (files : InputFiles). FailedIn (g.D.Desk.told c.args.desk.now) (made_outcome making.names files answer).effects (g.D.Desk.told c.put_out_made.new.desk))
          c.in-Ok.ensures.files (c.put_out_made.ensures.part failed);
    }
