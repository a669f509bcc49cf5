-- What was said to what is asked of named files.
use Rattle.std.proofs.Common.{◌≡◌, ◌∙◌, ℕ, List, Some, None, refl, sym, subst}
use Rattle.escrow_desk.specs.Content.{Told, SaidAll, told_map}
use Rattle.certificate_answers.specs.InputFiles.{InputFiles}
use Rattle.certificate_answers.specs.Answer.{Answer, Asking, asked_answer, files_answer}
use Rattle.certificate_answers.specs.Meaning.{OfNamedFiles}
use Rattle.certificate_answers.specs.Reading.{FilesAnswer}
use Rattle.certificate_answers.specs.declared.status.Status.{Status}
use Rattle.certificate_answers.proofs.ExactLaws.{asked-there, same-content, some-same}
use Rattle.escrow_top.specs.Effects.{saying, with_effects}
use Rattle.escrow_top.specs.Ending.{IsAnswerTo}

-- an answer alone was said
pub all-said : (told new : Told) (answer : Answer) → new ≡ told_map (with_effects (saying answer).effects) told → SaidAll told answer.text new
all-said None new answer done = done
all-said (Some content) new answer done = done

-- where it is the answer of files that are there, it is the one to their bytes
pub bytes-answered : (told new : Told) (asking : Asking) (answer : Answer) (reached : Status) → FilesAnswer told asking answer → reached ≡ answer.status → SaidAll told answer.text new
    → OfNamedFiles (IsAnswerTo told reached new asking.inquiry) told asking.names
bytes-answered None new asking answer reached is ends said = λ content files cert tells there has. absurd (cc)
bytes-answered (Some found) new asking answer reached is ends said = λ content files cert tells there has.
    let same : found ≡ content = same-content found content tells in
    let is_asked : asked_answer found asking ≡ Some (files_answer asking.inquiry files cert) = rw same (asked-there content asking files cert there has) in
    let own : answer ≡ files_answer asking.inquiry files cert = some-same answer (files_answer asking.inquiry files cert) (sym is ∙ is_asked) in
    subst (λ (a : Answer). (reached ≡ a.status) × SaidAll (Some found) a.text new) own (ends, said)
