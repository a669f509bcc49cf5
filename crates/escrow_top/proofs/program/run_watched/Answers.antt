use Rattle.std.proofs.Common.{◌≡◌, ◌∙◌, None, Some, map, refl, string_bytes, subst, sym}
use Rattle.std.specs.Prelude.{IfSome, Option}
use Rattle.certificate_answers.specs.declared.status.Status.TheVariants as status
use Rattle.escrow_top.specs.Command.{Command, command_of_words, command_view}
use Rattle.escrow_top.specs.Effects.{Reaches, ReachesPart, saying}
use Rattle.escrow_top.specs.Ending.{AnswersBytes, IsOutcome, LacksFile, ReadsNoFile, usage_answer}
use Rattle.escrow_top.specs.Means.{Means}
use Rattle.escrow_top.proofs.CommandLaws.{check_no, check_yes, found_reached, never_usage, reached_by, structure_wrote, usage_apart, words_mean}
use Rattle.escrow_top.proofs.program.run_watched.Goals as goal

pub returns-in-Some-clause-means : goal.returns-in-Some-clause-means
returns-in-Some-clause-means g c = λ reached.
    words_mean (g.D.Desk.told c.args.desk.now) (g.D.Desk.told c.carry_out.new.desk) (map string_bytes c.args.words.now) (command_view c.in-Some.command) c.carry_out.result
    c.in-Some.ensures (c.carry_out.ensures.means reached)

pub returns-in-Some-clause-yes : goal.returns-in-Some-clause-yes
returns-in-Some-clause-yes g c = λ done.
    check_yes (g.D.Desk.told c.args.desk.now) (g.D.Desk.told c.carry_out.new.desk) (map string_bytes c.args.words.now) c.carry_out.result
    (returns-in-Some-clause-means g c (reached_by c.carry_out.result status.Done done refl)) done

pub returns-in-Some-clause-no : goal.returns-in-Some-clause-no
returns-in-Some-clause-no g c = λ denied.
    check_no (g.D.Desk.told c.args.desk.now) (g.D.Desk.told c.carry_out.new.desk) (map string_bytes c.args.words.now) c.carry_out.result
    (returns-in-Some-clause-means g c (reached_by c.carry_out.result status.No denied refl)) denied

pub returns-in-Some-clause-wrote : goal.returns-in-Some-clause-wrote
returns-in-Some-clause-wrote g c = λ found.
    structure_wrote (g.D.Desk.told c.args.desk.now) (g.D.Desk.told c.carry_out.new.desk) (map string_bytes c.args.words.now) c.carry_out.result
    (returns-in-Some-clause-means g c (found_reached c.carry_out.result found)) found

pub returns-in-Some-clause-usage : goal.returns-in-Some-clause-usage
returns-in-Some-clause-usage g c = λ reached.
    let is = c.in-Some.ensures in (
      (λ unused. absurd (never_usage (g.D.Desk.told c.args.desk.now) (g.D.Desk.told c.carry_out.new.desk) (command_view c.in-Some.command) c.carry_out.result (c.carry_out.ensures.means reached) unused)),
      (λ none. absurd (let clash : Some (command_view c.in-Some.command) ≡ None = is ∙ none in cc)),
    )

pub returns-in-Some-clause-answers : goal.returns-in-Some-clause-answers
returns-in-Some-clause-answers g c = λ reached.
    let told = g.D.Desk.told c.args.desk.now in
    subst (λ (found : Option Command). Reaches (IsOutcome told found) told c.carry_out.result (g.D.Desk.told c.carry_out.new.desk)) c.in-Some.ensures (c.carry_out.ensures.answers reached)

pub returns-in-Some-clause-part : goal.returns-in-Some-clause-part
returns-in-Some-clause-part g c = λ failed.
    let told = g.D.Desk.told c.args.desk.now in
    subst (λ (found : Option Command). ReachesPart (IsOutcome told found) told (g.D.Desk.told c.carry_out.new.desk)) c.in-Some.ensures (c.carry_out.ensures.part failed)

pub returns-in-Some-clause-lacks : goal.returns-in-Some-clause-lacks
returns-in-Some-clause-lacks g c = λ absent. subst (λ (found : Option Command). LacksFile (g.D.Desk.told c.args.desk.now) found) c.in-Some.ensures (c.carry_out.ensures.lacks absent)

pub returns-in-Some-clause-bytes : goal.returns-in-Some-clause-bytes
returns-in-Some-clause-bytes g c = λ steady lasts.
    let told = g.D.Desk.told c.args.desk.now in
    subst (λ (found : Option Command). IfSome found (λ command. AnswersBytes told command c.carry_out.result (g.D.Desk.told c.carry_out.new.desk))) c.in-Some.ensures (c.carry_out.ensures.bytes steady lasts)

pub returns-in-Some-clause-no_read : goal.returns-in-Some-clause-no_read
returns-in-Some-clause-no_read g c = subst (λ (found : Option Command). IfSome found (λ command. ReadsNoFile command c.carry_out.result)) c.in-Some.ensures c.carry_out.ensures.no_read

-- ---- words that are no command
pub returns-in-None-clause-means : goal.returns-in-None-clause-means
returns-in-None-clause-means g c = λ reached.
    subst (λ (found : Option Command). IfSome found (λ command. Means (g.D.Desk.told c.args.desk.now) command c.say_usage.result (g.D.Desk.told c.say_usage.new.desk))) c.in-None.ensures tt

pub returns-in-None-clause-yes : goal.returns-in-None-clause-yes
returns-in-None-clause-yes g c = λ done.
    absurd (let clash : status.Done ≡ status.Usage = sym done ∙ (c.say_usage.ensures.whole (reached_by c.say_usage.result status.Done done refl)).0 in cc)

pub returns-in-None-clause-no : goal.returns-in-None-clause-no
returns-in-None-clause-no g c = λ denied.
    absurd (let clash : status.No ≡ status.Usage = sym denied ∙ (c.say_usage.ensures.whole (reached_by c.say_usage.result status.No denied refl)).0 in cc)

pub returns-in-None-clause-wrote : goal.returns-in-None-clause-wrote
returns-in-None-clause-wrote g c = λ found.
    absurd (usage_apart c.say_usage.result found (c.say_usage.ensures.whole (found_reached c.say_usage.result found)).0)

pub returns-in-None-clause-usage : goal.returns-in-None-clause-usage
returns-in-None-clause-usage g c = λ reached. ((λ unused. sym c.in-None.ensures), (λ none. (c.say_usage.ensures.whole reached).0))

pub returns-in-None-clause-answers : goal.returns-in-None-clause-answers
returns-in-None-clause-answers g c = λ reached.
    let told = g.D.Desk.told c.args.desk.now in
    subst (λ (found : Option Command). Reaches (IsOutcome told found) told c.say_usage.result (g.D.Desk.told c.say_usage.new.desk)) c.in-None.ensures
    (record { outcome = saying usage_answer; is = refl; done = c.say_usage.ensures.whole reached })

pub returns-in-None-clause-part : goal.returns-in-None-clause-part
returns-in-None-clause-part g c = λ failed.
    let told = g.D.Desk.told c.args.desk.now in
    subst (λ (found : Option Command). ReachesPart (IsOutcome told found) told (g.D.Desk.told c.say_usage.new.desk)) c.in-None.ensures
    (record { outcome = saying usage_answer; is = refl; failed = c.say_usage.ensures.part failed })

pub returns-in-None-clause-lacks : goal.returns-in-None-clause-lacks
returns-in-None-clause-lacks g c = λ absent. absurd (c.say_usage.ensures.no_other.1 absent)

pub returns-in-None-clause-bytes : goal.returns-in-None-clause-bytes
returns-in-None-clause-bytes g c = λ steady lasts.
    subst (λ (found : Option Command). IfSome found (λ command. AnswersBytes (g.D.Desk.told c.args.desk.now) command c.say_usage.result (g.D.Desk.told c.say_usage.new.desk))) c.in-None.ensures tt

pub returns-in-None-clause-no_read : goal.returns-in-None-clause-no_read
returns-in-None-clause-no_read g c = subst (λ (found : Option Command). IfSome found (λ command. ReadsNoFile command c.say_usage.result)) c.in-None.ensures tt
