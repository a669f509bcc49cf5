-- The input files, and how they are read.
use Rattle.std.specs.Prelude.{ℕ, Bool, false, nat_lt, if◌then◌else◌, List, [], length, Option, Some, None, option_and_then, option_map}
use Rattle.escrow_desk.specs.Content.{Content, file_of}
use Rattle.escrow_desk.specs.declared.limits.TheConstants.{FILE_LIMIT}
use Rattle.escrow_desk.specs.declared.refusal.FileKind.{FileKind}
use Rattle.escrow_desk.specs.declared.refusal.FileKind.TheVariants as file

-- what follows where something is there
infixl 10 ◌>>=◌
abbrev pub ◌>>=◌ : {A B : Type 0} → Option A → (A → Option B) → Option B
o >>= f = option_and_then f o

-- the names of the files: that of the holdings where they are given
pub record FileNames : Type 0 where
  pub issue : List ℕ
  pub rates : List ℕ
  pub prices : List ℕ
  pub held : Option (List ℕ)
  pub cert : List ℕ

-- the bytes of the input files: those of the holdings where they are given
pub record InputFiles : Type 0 where
  pub issue : List ℕ
  pub rates : List ℕ
  pub prices : List ℕ
  pub held : Option (List ℕ)

-- the bytes of the three files that give a case
abbrev pub three_files : List ℕ → List ℕ → List ℕ → InputFiles
three_files issue rates prices = record { issue = issue; rates = rates; prices = prices; held = None }

-- the holdings have more bytes than their limit
abbrev pub are_holdings_long : Option (List ℕ) → Bool
are_holdings_long None = false
are_holdings_long (Some bytes) = nat_lt FILE_LIMIT (length bytes)

-- the first of the input files that has more bytes than its limit
abbrev pub first_too_long : InputFiles → Option FileKind
first_too_long texts =
    if nat_lt FILE_LIMIT (length texts.issue) then Some file.Issue else
    (if nat_lt FILE_LIMIT (length texts.rates) then Some file.Rates else
    (if nat_lt FILE_LIMIT (length texts.prices) then Some file.Prices else
    (if are_holdings_long texts.held then Some file.Held else None)))

-- the bytes of a file, where the files before it keep to their limit: after one that doesn't, none is read
abbrev pub next_file : Content → List ℕ → Option FileKind → Option (List ℕ)
next_file content name None = file_of content name
next_file content name (Some kind) = Some []

-- the bytes of the holdings, where they are given; None where their file isn't there
abbrev pub holdings_in : Content → Option (List ℕ) → Option (Option (List ℕ))
holdings_in content None = Some None
holdings_in content (Some name) = option_map Some (file_of content name)

-- the same where the files before it keep to their limit
abbrev pub next_holdings : Content → Option (List ℕ) → Option FileKind → Option (Option (List ℕ))
next_holdings content held None = holdings_in content held
next_holdings content held (Some kind) = Some None

-- what is read of the input files, in their order; None where one that is read isn't there
abbrev pub inputs_of : Content → FileNames → Option InputFiles
inputs_of content names = do
  issue ← file_of content names.issue
  rates ← next_file content names.rates (first_too_long (three_files issue [] []))
  prices ← next_file content names.prices (first_too_long (three_files issue rates []))
  held ← next_holdings content names.held (first_too_long (three_files issue rates prices))
  Some (record { issue = issue; rates = rates; prices = prices; held = held })
