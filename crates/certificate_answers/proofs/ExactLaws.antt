-- `yes` exactly where no reason stands, and the answer of `check` said of the bytes of the files.
use Rattle.std.proofs.Common.{◌≡◌, ◌≢◌, ◌∙◌, ◌⊎◌, ℕ, Bool, true, false, List, [], length, Some, None, Result, Ok, Err, refl, sym, ap, subst, inl, inr, arith}
use Rattle.std.specs.Prelude.{IfOk, IsSomeAnd, IsTrue}
use Rattle.std.proofs.lemmas.Bool.{cases_lt}
use Rattle.escrow_desk.specs.declared.limits.TheConstants.{FILE_LIMIT}
use Rattle.escrow_desk.specs.Content.{Content, Told, file_of}
use Rattle.escrow_desk.specs.Counts.{AllSteady, Counts, Rose, IsSteady}
use Rattle.escrow_desk.specs.declared.refusal.FileKind.{FileKind}
use Rattle.escrow_desk.specs.declared.refusal.FileKind.TheVariants.{Held, Issue, Prices, Rates}
use Rattle.escrow_desk.specs.declared.refusal.RefusalKind.TheVariants as too_long
use Rattle.row_fields.specs.RowForm.{refusal_of}
use Rattle.case_file.specs.Case.{CaseContents}
use Rattle.escrow_desk.specs.declared.refusal.Refusal.{Refusal}
use Rattle.certificate_answers.specs.InputFiles.{InputFiles, FileNames, are_holdings_long, first_too_long, inputs_of, three_files}
use Rattle.certificate_answers.specs.Answer.{Answer, Asking, asked_answer, files_answer, judged_of, refused}
use Rattle.certificate_answers.specs.Accepted.{YesExactly}
use Rattle.certificate_answers.specs.Meaning.{OfNamedFiles}
use Rattle.certificate_answers.specs.Stopping.{is_reached}
use Rattle.certificate_answers.specs.CaseOf.{AreWithin}
use Rattle.certificate_answers.specs.Reading.{AreRead, AreThere, FilesAnswer, IsTooLong}
use Rattle.certificate_answers.specs.Stopping.{EndedAs}
use Rattle.certificate_answers.specs.declared.inquiry.Inquiry.{Inquiry}
use Rattle.certificate_answers.specs.declared.stop.Stop.{Stop}
use Rattle.certificate_answers.specs.declared.status.Status.{Status}
use Rattle.certificate_answers.specs.declared.status.Status.TheVariants as status
use Rattle.escrow_check.proofs.TextFacts.{KeepsLimits}
use Rattle.certificate_answers.proofs.AcceptedLaws.{yes_exactly}
use Rattle.certificate_answers.proofs.AnswerLaws.{asked_by, long_asked}
use Rattle.certificate_answers.specs.Judged.{IsJudged}
use Rattle.certificate_answers.proofs.InputFacts.{AreThreeWithin, holdings-within, over-held, over-issue, over-prices, over-rates, read-all, read-long_issue, read-long_prices, read-long_rates, read-there, within-all}
use Rattle.certificate_answers.proofs.JudgedFacts.{judged-keeps, judged_is, one-case}

-- files that are there are one and the same, however they were found
pub some-same : {A : Type 0} (a b : A) → Some a ≡ Some b → a ≡ b
some-same a b is = cc

one-files : (content : Content) (names : FileNames) (a b : InputFiles) → AreThere content names a → AreThere content names b → a ≡ b
one-files content names a b first second =
    let issue = some-same a.issue b.issue (sym first.issue ∙ second.issue) in
    let rates = some-same a.rates b.rates (sym first.rates ∙ second.rates) in
    let prices = some-same a.prices b.prices (sym first.prices ∙ second.prices) in
    let held = some-same a.held b.held (sym first.held ∙ second.held) in
    λ i. record { issue = issue i; rates = rates i; prices = prices i; held = held i }

pub same-content : (a b : Content) → Some a ≡ Some b → a ≡ b
same-content a b is = cc

-- files that are there, of which one is over its limit: the first is found where they are read
record AreLong (content : Content) (names : FileNames) (files : InputFiles) : Type 0 where
  kind : FileKind
  over : first_too_long files ≡ Some kind
  read : InputFiles
  is : inputs_of content names ≡ Some read
  long : first_too_long read ≡ Some kind

long-or_within : (content : Content) (names : FileNames) (files : InputFiles) → AreThere content names files → AreLong content names files ⊎ AreWithin files
long-or_within content names files there =
    elim (cases_lt FILE_LIMIT (length files.issue)) [
      | inl long ↦ inl (record {
        kind = Issue;
        over = over-issue files long;
        read = three_files files.issue [] [];
        is = read-long_issue content names files.issue there.issue long;
        long = over-issue (three_files files.issue [] []) long;
      })
      | inr issue ↦ elim (cases_lt FILE_LIMIT (length files.rates)) [
        | inl long ↦ inl (record {
          kind = Rates;
          over = over-rates files issue long;
          read = three_files files.issue files.rates [];
          is = read-long_rates content names files.issue files.rates there.issue there.rates issue long;
          long = over-rates (three_files files.issue files.rates []) issue long;
        })
        | inr rates ↦ elim (cases_lt FILE_LIMIT (length files.prices)) [
          | inl long ↦ inl (record {
            kind = Prices;
            over = over-prices files issue rates long;
            read = three_files files.issue files.rates files.prices;
            is = read-long_prices content names files.issue files.rates files.prices there.issue there.rates there.prices issue rates long;
            long = over-prices (three_files files.issue files.rates files.prices) issue rates long;
          })
          | inr prices ↦ by (are_holdings_long files.held) refl (record { issue = issue; rates = rates; prices = prices })
        ]
      ]
    ]
  where
    by : (long : Bool) → are_holdings_long files.held ≡ long → AreThreeWithin files → AreLong content names files ⊎ AreWithin files
    by true long within = inl (record {
      kind = Held;
      over = over-held files within.issue within.rates within.prices long;
      read = files;
      is = read-there content names files there within;
      long = over-held files within.issue within.rates within.prices long;
    })
    by false short within = inr (record { issue = within.issue; rates = within.rates; prices = within.prices; held = holdings-within files.held short })

-- what is answered to files of which the first that is over its limit is this
long-answer : (asked : Inquiry) (files : InputFiles) (cert : List ℕ) (kind : FileKind) → first_too_long files ≡ Some kind → files_answer asked files cert ≡ refused (refusal_of kind 0 too_long.TooLong)
long-answer asked files cert kind long = rw long refl

-- the answer of the names, where the files are there
short-asked : (content : Content) (asking : Asking) (files : InputFiles) (cert : List ℕ) (case : Result CaseContents Refusal) → AreThere content asking.names files → AreWithin files → file_of content asking.names.cert ≡ Some cert
    → judged_of asking.inquiry files ≡ case → asked_answer content asking ≡ Some (files_answer asking.inquiry files cert)
short-asked content asking files cert (Ok case) there within is is_case =
    asked_by content asking files (Ok case) (read-all content asking.names files there within) is_case ∙ rw (is, is_case) refl
short-asked content asking files cert (Err why) there within is is_case =
    asked_by content asking files (Err why) (read-all content asking.names files there within) is_case ∙ rw is_case refl

pub asked-there : (content : Content) (asking : Asking) (files : InputFiles) (cert : List ℕ) → AreThere content asking.names files → file_of content asking.names.cert ≡ Some cert → asked_answer content asking ≡ Some (files_answer asking.inquiry files cert)
asked-there content asking files cert there is =
    elim (long-or_within content asking.names files there) [
      | inl own ↦ long_asked content asking own.kind (Some own.read) own.is own.long ∙ ap Some (sym (long-answer asking.inquiry files cert own.kind own.over))
      | inr within ↦ short-asked content asking files cert (judged_of asking.inquiry files) there within is refl
    ]

-- `yes` exactly, by the files as they were read

exactly-of : (content : Content) (asking : Asking) (files : InputFiles) (cert : List ℕ) (reached : Status) → asked_answer content asking ≡ Some (files_answer asking.inquiry files cert) → (answer : Answer) → asked_answer content asking ≡ Some answer → answer.status ≡ reached → ((case : CaseContents) → judged_of asking.inquiry files ≡ Ok case → KeepsLimits case) → YesExactly reached asking.inquiry files cert
exactly-of content asking files cert reached there answer is status_is books =
    let same : answer ≡ files_answer asking.inquiry files cert = some-same answer (files_answer asking.inquiry files cert) (sym is ∙ there) in
    subst (λ found. YesExactly found asking.inquiry files cert) (sym (ap (λ (a : Answer). a.status) same) ∙ status_is) (yes_exactly asking.inquiry files cert books)

exactly-told : (told : Told) (asking : Asking) (reply : Answer) → FilesAnswer told asking reply → ((content : Content) (files : InputFiles) → told ≡ Some content → AreThere content asking.names files → (case : CaseContents) → judged_of asking.inquiry files ≡ Ok case → KeepsLimits case) → OfNamedFiles (YesExactly reply.status asking.inquiry) told asking.names
exactly-told None asking reply said books = λ content files cert tells there is. absurd (cc)
exactly-told (Some found) asking reply said books = λ content files cert tells there is.
    let same : found ≡ content = same-content found content tells in
    let said_of : asked_answer content asking ≡ Some reply = subst (λ (x : Content). asked_answer x asking ≡ Some reply) same said in
    exactly-of content asking files cert reply.status (asked-there content asking files cert there is) reply said_of refl (books content files tells there)

books-read : (told : Told) (asked : Inquiry) (names : FileNames) (texts : InputFiles) (case : CaseContents) → AreRead told names texts → IsJudged asked texts case → (content : Content) (files : InputFiles) → told ≡ Some content → AreThere content names files
    → (other : CaseContents) → judged_of asked files ≡ Ok other → KeepsLimits other
books-read None asked names texts case read own content files tells there other is_other = absurd (cc)
books-read (Some found) asked names texts case read own content files tells there other is_other =
    let same : found ≡ content = same-content found content tells in
    let read_of : AreThere content names texts = subst (λ (x : Content). AreThere x names texts) same read in
    let files_same : files ≡ texts = one-files content names files texts there read_of in
    let one = one-case case other (sym (judged_is asked texts case own) ∙ (ap (judged_of asked) (sym files_same) ∙ is_other)) in
    subst KeepsLimits one (judged-keeps asked texts case own)

pub answer_exactly : (told : Told) (asking : Asking) (texts : InputFiles) (case : CaseContents) (result : Result Answer Stop) → AreRead told asking.names texts → IsJudged asking.inquiry texts case → IfOk result (λ reply. FilesAnswer told asking reply)
    → IfOk result (λ reply. OfNamedFiles (YesExactly reply.status asking.inquiry) told asking.names)
answer_exactly told asking texts case (Err stop) read own said = said
answer_exactly told asking texts case (Ok reply) read own said = exactly-told told asking reply said (books-read told asking.inquiry asking.names texts case read own)

-- files that give no case

no-books : (told : Told) (asked : Inquiry) (names : FileNames) (texts : InputFiles) (why : Refusal) → AreRead told names texts → judged_of asked texts ≡ Err why → (content : Content) (files : InputFiles) → told ≡ Some content → AreThere content names files
    → (case : CaseContents) → judged_of asked files ≡ Ok case → KeepsLimits case
no-books None asked names texts why read is content files tells there case is_case = absurd (cc)
no-books (Some found) asked names texts why read is content files tells there case is_case =
    let same : found ≡ content = same-content found content tells in
    let read_of : AreThere content names texts = subst (λ (x : Content). AreThere x names texts) same read in
    let files_same : files ≡ texts = one-files content names files texts there read_of in
    let both : Err why ≡ Ok case = sym is ∙ (ap (judged_of asked) (sym files_same) ∙ is_case) in
    absurd (cc)

pub no_case_exactly : (told : Told) (asking : Asking) (texts : InputFiles) (why : Refusal) (result : Result Answer Stop) → AreRead told asking.names texts → judged_of asking.inquiry texts ≡ Err why → IfOk result (λ reply. FilesAnswer told asking reply)
    → IfOk result (λ reply. OfNamedFiles (YesExactly reply.status asking.inquiry) told asking.names)
no_case_exactly told asking texts why (Err stop) read is said = said
no_case_exactly told asking texts why (Ok reply) read is said = exactly-told told asking reply said (no-books told asking.inquiry asking.names texts why read is)

-- a file over its limit gives no case: what is read up to it is the front of the files that are there

long-books : (content : Content) (asked : Inquiry) (names : FileNames) (files : InputFiles) (kind : FileKind) → IsSomeAnd (inputs_of content names) (λ texts. first_too_long texts ≡ Some kind) → AreThere content names files
    → (case : CaseContents) → judged_of asked files ≡ Ok case → KeepsLimits case
long-books content asked names files kind long there case is_case =
    elim (long-or_within content names files there) [
      | inl own ↦ absurd (never own.over)
      | inr short ↦ absurd (within short)
    ]
  where
    never : {found : FileKind} → first_too_long files ≡ Some found → ⊥
    never {found} over = let both : Err (refusal_of found 0 too_long.TooLong) ≡ Ok case = rw over at is_case in cc

    within : AreWithin files → ⊥
    within short =
        let is = read-all content names files there short in
        let long_files : first_too_long files ≡ Some kind = rw is at long in
        let none = within-all files short in
        cc

pub too_long_exactly : (told : Told) (asking : Asking) (kind : FileKind) (reply : Answer) → IsTooLong told asking.names kind → FilesAnswer told asking reply → OfNamedFiles (YesExactly reply.status asking.inquiry) told asking.names
too_long_exactly told asking kind reply long said = exactly-told told asking reply said (books told long)
  where
    books : (found : Told) → IsTooLong found asking.names kind → (content : Content) (files : InputFiles) → found ≡ Some content → AreThere content asking.names files → (case : CaseContents) → judged_of asking.inquiry files ≡ Ok case → KeepsLimits case
    books None long content files tells there case is_case = absurd (cc)
    books (Some found) long content files tells there case is_case =
        let same : found ≡ content = same-content found content tells in
        long-books content asking.inquiry asking.names files kind (subst (λ (x : Content). IsSomeAnd (inputs_of x asking.names) (λ texts. first_too_long texts ≡ Some kind)) same long) there case is_case

-- the answer said of the bytes

rose-not_steady : (old new : ℕ) → Rose old new → IsSteady old new → ⊥
rose-not_steady old new rose steady = omega (arith, rose.1, steady.0, steady.1)

pub reached-where_steady : (reached : Status) (old new : Counts) (told told_new : Told) → EndedAs reached old new told told_new → AllSteady old new → reached ≢ status.NoMemory → IsTrue (is_reached reached)
reached-where_steady status.ReadFault old new told told_new ended steady lasts = absurd (rose-not_steady old.read_faults new.read_faults ended.0.0 steady.read_faults)
reached-where_steady status.WriteFault old new told told_new ended steady lasts = absurd (rose-not_steady old.write_faults new.write_faults ended.0 steady.write_faults)
reached-where_steady status.NoFile old new told told_new ended steady lasts = absurd (rose-not_steady old.absences new.absences ended.0.0 steady.absences)
reached-where_steady status.NoMemory old new told told_new ended steady lasts = absurd (lasts refl)
reached-where_steady reached old new told told_new ended steady lasts = refl
