-- What an answer over the named files means.
use Rattle.std.proofs.Common.{◌≡◌, ◌∙◌, ℕ, List, [], Option, Some, None, Result, Ok, Err, refl, sym, ap, subst}
use Rattle.std.specs.Prelude.{IfOk, IfSome, IsSomeAnd, option_and_then, is_ok, if◌then◌else◌}
use Rattle.escrow_desk.specs.Content.{Content, Told, file_of, SaidAll, SaidPart}
use Rattle.escrow_desk.specs.declared.refusal.FileKind.{FileKind}
use Rattle.escrow_desk.specs.declared.refusal.RefusalKind.TheVariants as too_long
use Rattle.row_fields.specs.RowForm.{refusal_of}
use Rattle.certificate_answers.specs.InputFiles.{InputFiles, FileNames, first_too_long, inputs_of}
use Rattle.case_file.specs.Case.{CaseContents}
use Rattle.certificate_answers.specs.Answer.{Answer, Asking, answer_for, asked_answer, case_answer, judged_of, refused}
use Rattle.certificate_answers.specs.Accepted.{Accepted}
use Rattle.certificate_answers.specs.AtCap.{AcceptedAt}
use Rattle.certificate_answers.specs.Holding.{AcceptedBeside}
use Rattle.certificate_answers.specs.Judged.{IsJudged}
use Rattle.certificate_answers.specs.Rolled.{Rolled}
use Rattle.certificate_answers.specs.Saved.{Saved}
use Rattle.certificate_answers.specs.Meaning.{HoldsWhereTold, MeansNo, MeansYes}
use Rattle.certificate_answers.specs.CaseOf.{AreWithin}
use Rattle.certificate_answers.specs.Reading.{AreRead, CertificateAnswers, FilesAnswer, IsTooLong, LacksAsked, LacksCertificate, LacksInput}
use Rattle.escrow_desk.specs.declared.refusal.Refusal.{Refusal}
use Rattle.certificate_answers.specs.declared.inquiry.Inquiry.TheVariants as inquiry
use Rattle.certificate_answers.specs.declared.status.Status.{Status}
use Rattle.certificate_answers.specs.declared.status.Status.TheVariants as status
use Rattle.certificate_answers.proofs.AcceptedLaws.{means_yes}
use Rattle.certificate_answers.proofs.NotAcceptedLaws.{means_no}
use Rattle.certificate_answers.specs.declared.stop.Stop.{Stop}
use Rattle.certificate_answers.proofs.InputFacts.{read-all}

answered : (found : Option (List ℕ)) (to_bytes : List ℕ → Answer) (answer : Answer) → IsSomeAnd found (λ file. answer ≡ to_bytes file) → option_and_then (λ cert. Some (to_bytes cert)) found ≡ Some answer
answered None to_bytes answer said = absurd said
answered (Some cert) to_bytes answer said = ap Some (sym said)

-- where the input files were read, what is answered to them is what their names are answered
pub asked_by : (content : Content) (asking : Asking) (texts : InputFiles) (case : Result CaseContents Refusal) → inputs_of content asking.names ≡ Some texts → judged_of asking.inquiry texts ≡ case
    → asked_answer content asking ≡ option_and_then (λ cert. Some (case_answer asking.inquiry texts case cert)) (if is_ok case then file_of content asking.names.cert else Some [])
asked_by content asking texts case inputs is = rw (inputs, is) refl

-- the certificate was read
pub certificate_said : (told : Told) (asking : Asking) (texts : InputFiles) (case : CaseContents) (answer : Answer) → AreRead told asking.names texts → AreWithin texts → judged_of asking.inquiry texts ≡ Ok case
    → CertificateAnswers told asking.names.cert (answer_for asking.inquiry texts case) answer → FilesAnswer told asking answer
certificate_said None asking texts case answer read within is said = tt
certificate_said (Some content) asking texts case answer read within is said =
    asked_by content asking texts (Ok case) (read-all content asking.names texts read within) is
    ∙ answered (file_of content asking.names.cert) (answer_for asking.inquiry texts case) answer said

pub certificate_lacks : (told : Told) (asking : Asking) (texts : InputFiles) (case : CaseContents) → AreRead told asking.names texts → AreWithin texts → judged_of asking.inquiry texts ≡ Ok case
    → LacksCertificate told asking.names.cert → LacksAsked told asking
certificate_lacks None asking texts case read within is none = tt
certificate_lacks (Some content) asking texts case read within is none =
    asked_by content asking texts (Ok case) (read-all content asking.names texts read within) is ∙ (rw none refl)

-- the input files give no case by which to judge
pub no_case_said : (told : Told) (asking : Asking) (texts : InputFiles) (why : Refusal) (answer : Answer) → AreRead told asking.names texts → AreWithin texts → judged_of asking.inquiry texts ≡ Err why
    → answer ≡ refused why → FilesAnswer told asking answer
no_case_said None asking texts why answer read within is said = tt
no_case_said (Some content) asking texts why answer read within is said =
    asked_by content asking texts (Err why) (read-all content asking.names texts read within) is ∙ ap Some (sym said)

-- an input file has more bytes than its limit
pub long_asked : (content : Content) (asking : Asking) (kind : FileKind) (found : Option InputFiles) → inputs_of content asking.names ≡ found
    → IsSomeAnd found (λ texts. first_too_long texts ≡ Some kind) → asked_answer content asking ≡ Some (refused (refusal_of kind 0 too_long.TooLong))
long_asked content asking kind None is long = absurd long
long_asked content asking kind (Some texts) is long =
    asked_by content asking texts (Err (refusal_of kind 0 too_long.TooLong)) is (rw long refl)

pub too_long_said : (told : Told) (asking : Asking) (kind : FileKind) (answer : Answer) → IsTooLong told asking.names kind → answer ≡ refused (refusal_of kind 0 too_long.TooLong) → FilesAnswer told asking answer
too_long_said None asking kind answer long said = tt
too_long_said (Some content) asking kind answer long said =
    long_asked content asking kind (inputs_of content asking.names) refl long ∙ ap Some (sym said)

pub inputs_lack : (told : Told) (asking : Asking) → LacksInput told asking.names → LacksAsked told asking
inputs_lack None asking none = tt
inputs_lack (Some content) asking none = rw none refl

-- what a status of the answer to a certificate means, of a certificate that was read
found_means : (Holds : List ℕ → List ℕ → Type 0) (to_bytes : List ℕ → Answer) (answer : Answer) (reached : Status) (found : Option (List ℕ))
    → ((cert : List ℕ) → (to_bytes cert).status ≡ reached → Holds cert (to_bytes cert).text)
    → IsSomeAnd found (λ file. answer ≡ to_bytes file) → answer.status ≡ reached → IsSomeAnd found (λ cert. Holds cert answer.text)
found_means Holds to_bytes answer reached None means said is = said
found_means Holds to_bytes answer reached (Some cert) means said is =
    subst (λ (a : Answer). Holds cert a.text) (sym said) (means cert (sym (ap (λ (a : Answer). a.status) said) ∙ is))

certificate_means : (Holds : InputFiles → List ℕ → List ℕ → Type 0) (told : Told) (names : FileNames) (texts : InputFiles) (to_bytes : List ℕ → Answer) (answer : Answer) (reached : Status) → AreRead told names texts
    → ((cert : List ℕ) → (to_bytes cert).status ≡ reached → Holds texts cert (to_bytes cert).text) → CertificateAnswers told names.cert to_bytes answer → answer.status ≡ reached
    → HoldsWhereTold (λ files cert. Holds files cert answer.text) told names
certificate_means Holds None names texts to_bytes answer reached read means said is = tt
certificate_means Holds (Some content) names texts to_bytes answer reached read means said is =
    let issue = read.issue in
    let rates = read.rates in
    let prices = read.prices in
    let held = read.held in
    rw (issue, rates, prices, held) (found_means (Holds texts) to_bytes answer reached (file_of content names.cert) means said is)

-- the same of a reply
answer_means : (Holds : InputFiles → List ℕ → List ℕ → Type 0) (told : Told) (names : FileNames) (texts : InputFiles) (to_bytes : List ℕ → Answer) (result : Result Answer Stop) (reached : Status) → AreRead told names texts
    → ((cert : List ℕ) → (to_bytes cert).status ≡ reached → Holds texts cert (to_bytes cert).text) → IfOk result (λ reply. CertificateAnswers told names.cert to_bytes reply)
    → IfOk result (λ reply. reply.status ≡ reached → HoldsWhereTold (λ files cert. Holds files cert reply.text) told names)
answer_means Holds told names texts to_bytes (Err stop) reached read means said = said
answer_means Holds told names texts to_bytes (Ok reply) reached read means said =
    λ is. certificate_means Holds told names texts to_bytes reply reached read means said is

pub answer_accepted : (told : Told) (asking : Asking) (texts : InputFiles) (case : CaseContents) (result : Result Answer Stop) → AreRead told asking.names texts → IsJudged asking.inquiry texts case
    → IfOk result (λ reply. CertificateAnswers told asking.names.cert (answer_for asking.inquiry texts case) reply)
    → IfOk result (λ reply. reply.status ≡ status.Done → HoldsWhereTold (λ files cert. MeansYes asking.inquiry files cert reply.text) told asking.names)
answer_accepted told asking texts case result read own said =
    answer_means (MeansYes asking.inquiry) told asking.names texts (answer_for asking.inquiry texts case) result status.Done read
    (λ cert done. means_yes asking.inquiry texts cert case own done) said

pub answer_not_accepted : (told : Told) (asking : Asking) (texts : InputFiles) (case : CaseContents) (result : Result Answer Stop) → AreRead told asking.names texts → IsJudged asking.inquiry texts case
    → IfOk result (λ reply. CertificateAnswers told asking.names.cert (answer_for asking.inquiry texts case) reply)
    → IfOk result (λ reply. reply.status ≡ status.No → HoldsWhereTold (λ files cert. MeansNo asking.inquiry files cert reply.text) told asking.names)
answer_not_accepted told asking texts case result read own said =
    answer_means (MeansNo asking.inquiry) told asking.names texts (answer_for asking.inquiry texts case) result status.No read
    (λ cert denied. means_no asking.inquiry texts cert case own denied) said
