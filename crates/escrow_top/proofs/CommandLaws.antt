-- What the table of statuses says of the words of one command.
use Rattle.std.proofs.Common.{◌≡◌, ◌∙◌, ℕ, List, [], ◌∷◌, Option, Some, None, true, inl, inr, refl, subst, sym}
use Rattle.std.specs.Prelude.{IfSome, IsTrue, codes}
use Rattle.escrow_desk.specs.Content.{Content, Told}
use Rattle.certificate_answers.specs.Accepted.{Accepted, IsAcceptedText}
use Rattle.certificate_answers.specs.Answer.{Asking}
use Rattle.certificate_answers.specs.Holding.{IsAcceptedTextBeside}
use Rattle.certificate_answers.specs.InputFiles.{FileNames, InputFiles, holdings_in}
use Rattle.certificate_answers.specs.NotAccepted.{NotAccepted}
use Rattle.certificate_answers.specs.Statuses.{is_checked}
use Rattle.certificate_answers.specs.Stopping.{is_reached, is_structured}
use Rattle.certificate_answers.specs.declared.inquiry.Inquiry.TheVariants as inquiry
use Rattle.certificate_answers.specs.declared.status.Status.{Status}
use Rattle.certificate_answers.specs.declared.status.Status.TheVariants as status
use Rattle.certificate_answers.proofs.ExactLaws.{some-same}
use Rattle.escrow_top.specs.Command.{Command, Structure, Cap, Ask, Make, command_of_words}
use Rattle.escrow_top.specs.Ending.{OfNames, SaidOfFiles}
use Rattle.escrow_top.specs.Means.{AskedMeans, IsFoundStatus, Means, StructureMeans}
use Rattle.escrow_top.specs.Structure.{HoldsAccepted, WroteAccepted}

-- what words mean
abbrev pub MeansWords : Told → List (List ℕ) → Status → Told → Type 0
MeansWords told words reached new = IfSome (command_of_words words) (λ command. Means told command reached new)

-- ---- `check`
pub check_yes : (told new : Told) (words : List (List ℕ)) (reached : Status) → MeansWords told words reached new → reached ≡ status.Done
    → OfNames (codes "check") (λ names. SaidOfFiles Accepted told names new) words
check_yes told new (word ∷ issue ∷ rates ∷ prices ∷ cert ∷ []) reached means done = λ is.
    let own : AskedMeans told (record { inquiry = inquiry.Check; names = record { issue = issue; rates = rates; prices = prices; held = None; cert = cert } }) reached new = rw is at means in
    let said = own.yes done in
    record { text = said.text; said = said.said; holds = said.holds }
check_yes told new words reached means done = tt

pub check_no : (told new : Told) (words : List (List ℕ)) (reached : Status) → MeansWords told words reached new → reached ≡ status.No
    → OfNames (codes "check") (λ names. SaidOfFiles NotAccepted told names new) words
check_no told new (word ∷ issue ∷ rates ∷ prices ∷ cert ∷ []) reached means denied = λ is.
    let own : AskedMeans told (record { inquiry = inquiry.Check; names = record { issue = issue; rates = rates; prices = prices; held = None; cert = cert } }) reached new = rw is at means in
    let said = own.no denied in
    record { text = said.text; said = said.said; holds = said.holds }
check_no told new words reached means denied = tt

-- ---- `structure`
-- without holdings it is `check` that accepts
alone : (files : InputFiles) (cert : List ℕ) → None ≡ files.held → IsAcceptedTextBeside files.held files cert → IsAcceptedText files cert
alone files cert none is = subst (λ (held : Option (List ℕ)). IsAcceptedTextBeside held files cert) (sym none) is

holds_alone : (content after : Content) (names : FileNames) → names.held ≡ None → HoldsAccepted (λ files. IsAcceptedTextBeside files.held files) content after names → HoldsAccepted IsAcceptedText content after names
holds_alone content after names none own =
    let there : holdings_in content None ≡ Some own.files.held = rw none at own.there.held in
    record {
      files = own.files;
      cert = own.cert;
      there = own.there;
      written = own.written;
      is = alone own.files own.cert (some-same None own.files.held there) own.is;
    }

wrote_alone : (told new : Told) (names : FileNames) → names.held ≡ None → WroteAccepted (λ files. IsAcceptedTextBeside files.held files) told new names → WroteAccepted IsAcceptedText told new names
wrote_alone None new names none own = tt
wrote_alone (Some content) None names none own = absurd own
wrote_alone (Some content) (Some after) names none own = holds_alone content after names none own

pub structure_wrote : (told new : Told) (words : List (List ℕ)) (reached : Status) → MeansWords told words reached new → IsFoundStatus reached
    → OfNames (codes "structure") (WroteAccepted IsAcceptedText told new) words
structure_wrote told new (word ∷ issue ∷ rates ∷ prices ∷ cert ∷ []) reached means found = λ is.
    let own : StructureMeans told (record { issue = issue; rates = rates; prices = prices; held = None; cert = cert }) reached new = rw is at means in
    wrote_alone told new (record { issue = issue; rates = rates; prices = prices; held = None; cert = cert }) refl (own.wrote found)
structure_wrote told new words reached means found = tt

-- ---- statuses of no command
structured_unused : (s : Status) → IsTrue (is_structured s) → s ≡ status.Usage → ⊥
structured_unused s is usage = let clash : is_structured status.Usage ≡ true = subst (λ t. is_structured t ≡ true) usage is in absurd (cc)

checked_unused : (s : Status) → IsTrue (is_checked s) → s ≡ status.Usage → ⊥
checked_unused s is usage = let clash : is_checked status.Usage ≡ true = subst (λ t. is_checked t ≡ true) usage is in absurd (cc)

-- no command comes to `Usage`
pub never_usage : (told new : Told) (command : Command) (reached : Status) → Means told command reached new → reached ≡ status.Usage → ⊥
never_usage told new (Structure names) reached means usage = structured_unused reached means.structured usage
never_usage told new (Cap names) reached means usage = structured_unused reached means.structured usage
never_usage told new (Ask asking) reached means usage = checked_unused reached means.checked usage
never_usage told new (Make making) reached means usage = structured_unused reached means.structured usage

-- ---- what a status says of the run
-- a status that is named is one that was reached
pub reached_by : (s named : Status) → s ≡ named → IsTrue (is_reached named) → IsTrue (is_reached s)
reached_by s named is own = subst (λ (t : Status). IsTrue (is_reached t)) (sym is) own

pub found_reached : (s : Status) → IsFoundStatus s → IsTrue (is_reached s)
found_reached s (inl done) = reached_by s status.Done done refl
found_reached s (inr none) = reached_by s status.NoneWithinYield none refl

-- with `Usage` nothing was found
pub usage_apart : (s : Status) → IsFoundStatus s → s ≡ status.Usage → ⊥
usage_apart s (inl done) is = let clash : status.Done ≡ status.Usage = sym done ∙ is in cc
usage_apart s (inr none) is = let clash : status.NoneWithinYield ≡ status.Usage = sym none ∙ is in cc

-- what a command means, its words mean
pub words_mean : (told new : Told) (words : List (List ℕ)) (command : Command) (reached : Status) → Some command ≡ command_of_words words → Means told command reached new → MeansWords told words reached new
words_mean told new words command reached is means = subst (λ (found : Option Command). IfSome found (λ own. Means told own reached new)) is means
