-- What the answers to four files mean, by what is asked.
use Rattle.std.specs.Prelude.{◌≡◌, ℕ, List, Some, IfSome, IsSomeAnd, MatchOption}
use Rattle.escrow_desk.specs.Content.{Content, Told, file_of}
use Rattle.certificate_answers.specs.AtCap.{AcceptedAt, NotAcceptedAt}
use Rattle.certificate_answers.specs.Holding.{AcceptedBeside, NotAcceptedBeside}
use Rattle.certificate_answers.specs.InputFiles.{InputFiles, FileNames, holdings_in}
use Rattle.certificate_answers.specs.NotAccepted.{NotAccepted}
use Rattle.certificate_answers.specs.Reading.{AreThere}
use Rattle.certificate_answers.specs.Rolled.{Rolled}
use Rattle.certificate_answers.specs.Saved.{Saved}
use Rattle.certificate_answers.specs.declared.inquiry.Inquiry.{Inquiry}
use Rattle.certificate_answers.specs.declared.inquiry.Inquiry.TheVariants as inquiry

-- the four files of these names are there, and this holds of their bytes
abbrev pub HoldsOfFiles : (InputFiles → List ℕ → Type 0) → Content → FileNames → Type 0
HoldsOfFiles Holds content names =
    IsSomeAnd (file_of content names.issue) (λ issue. IsSomeAnd (file_of content names.rates) (λ rates.
    IsSomeAnd (file_of content names.prices) (λ prices. IsSomeAnd (holdings_in content names.held) (λ held.
    IsSomeAnd (file_of content names.cert) (λ cert. Holds (record { issue = issue; rates = rates; prices = prices; held = held }) cert)))))

-- the same where the desk tells
abbrev pub HoldsWhereTold : (InputFiles → List ℕ → Type 0) → Told → FileNames → Type 0
HoldsWhereTold Holds told names = MatchOption told (Unit {0}) (λ content. HoldsOfFiles Holds content names)

-- where the desk tells and the four files of these names are there: what then holds of their bytes
abbrev pub OfNamedFiles : (InputFiles → List ℕ → Type 0) → Told → FileNames → Type 0
OfNamedFiles Holds told names =
    (content : Content) (files : InputFiles) (cert : List ℕ)
    → told ≡ Some content → AreThere content names files → file_of content names.cert ≡ Some cert → Holds files cert

-- what an answer of `Done` means, of the bytes of four files and what was said
abbrev pub MeansYes : Inquiry → InputFiles → List ℕ → List ℕ → Type 0
MeansYes inquiry.Check = λ files. AcceptedBeside files.held files
MeansYes inquiry.Savings = Saved
MeansYes inquiry.Roll = Rolled
MeansYes (inquiry.AtCap cap) = AcceptedAt cap

-- what an answer of `No` means
abbrev pub MeansNo : Inquiry → InputFiles → List ℕ → List ℕ → Type 0
MeansNo inquiry.Check = λ files. NotAcceptedBeside files.held files
MeansNo inquiry.Savings = NotAccepted
MeansNo inquiry.Roll = NotAccepted
MeansNo (inquiry.AtCap cap) = NotAcceptedAt cap
