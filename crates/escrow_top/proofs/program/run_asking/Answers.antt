use Rattle.std.proofs.Common.{◌≡◌, ◌∙◌, refl, sym, subst}
use Rattle.std.specs.Prelude.{IsTrue}
use Rattle.escrow_desk.specs.Content.{SaidAll}
use Rattle.certificate_answers.specs.Accepted.{YesExactly}
use Rattle.certificate_answers.specs.Meaning.{OfNamedFiles}
use Rattle.certificate_answers.specs.Reading.{asking_view, names_view}
use Rattle.certificate_answers.specs.Statuses.{is_checked}
use Rattle.certificate_answers.proofs.ExactLaws.{reached-where_steady}
use Rattle.escrow_top.specs.Effects.{saying}
use Rattle.escrow_top.proofs.AskedLaws.{all-said, bytes-answered}
use Rattle.escrow_top.proofs.program.run_asking.Goals as goal

pub returns-in-Ok-clause-means : goal.returns-in-Ok-clause-means
returns-in-Ok-clause-means g c = λ reached.
    let told = g.D.Desk.told c.args.desk.now in
    let new = g.D.Desk.told c.say_answer.new.desk in
    let answer = c.in-Ok.answer in
    let done = rw c.in-Ok.ensures.told at (c.say_answer.ensures.whole reached) in
    let said : SaidAll told answer.text new = all-said told new answer done.1 in
    record {
      checked = subst (λ status. IsTrue (is_checked status)) (sym done.0) c.in-Ok.ensures.status;
      yes = λ is. record { text = answer.text; said = said; holds = c.in-Ok.ensures.yes (sym done.0 ∙ is) };
      no = λ is. record { text = answer.text; said = said; holds = c.in-Ok.ensures.no (sym done.0 ∙ is) };
      exactly = subst (λ status. OfNamedFiles (YesExactly status c.args.asking.now.inquiry) told (names_view c.args.asking.now.names)) (sym done.0) c.in-Ok.ensures.exactly;
    }

pub returns-in-Ok-clause-answers : goal.returns-in-Ok-clause-answers
returns-in-Ok-clause-answers g c = λ reached. record {
  outcome = saying c.in-Ok.answer;
  is = (c.in-Ok.answer, c.in-Ok.ensures.answer, refl);
  done = rw c.in-Ok.ensures.told at (c.say_answer.ensures.whole reached);
}

pub returns-in-Ok-clause-part : goal.returns-in-Ok-clause-part
returns-in-Ok-clause-part g c = λ failed. record {
  outcome = saying c.in-Ok.answer;
  is = (c.in-Ok.answer, c.in-Ok.ensures.answer, refl);
  failed = rw c.in-Ok.ensures.told at (c.say_answer.ensures.part failed);
}

pub returns-in-Ok-clause-bytes : goal.returns-in-Ok-clause-bytes
returns-in-Ok-clause-bytes g c = λ steady lasts.
    let told = g.D.Desk.told c.args.desk.now in
    let new = g.D.Desk.told c.say_answer.new.desk in
    let answer = c.in-Ok.answer in
    let ended = rw (c.in-Ok.ensures.counts, c.in-Ok.ensures.told) at c.say_answer.ensures.counts in
    let reached = reached-where_steady c.say_answer.result (g.D.Desk.counts c.args.desk.now) (g.D.Desk.counts c.say_answer.new.desk) told new ended steady lasts in
    let done = rw c.in-Ok.ensures.told at (c.say_answer.ensures.whole reached) in
    bytes-answered told new (asking_view c.args.asking.now) answer c.say_answer.result c.in-Ok.ensures.answer done.0 (all-said told new answer done.1)
