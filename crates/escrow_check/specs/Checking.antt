-- A checker of a certificate that comes in pieces.
use Rattle.std.specs.Prelude.{◌≡◌, ℕ, Bool, false, List}
use Rattle.case_file.specs.Case.{CaseContents}
use Rattle.offer_book.specs.Book.{IsBook}
use Rattle.escrow_check.specs.Heard.{HasHeard}
use Rattle.escrow_check.specs.declared.hearing.Hearing.{Hearing}

-- the case, what was heard of the certificate, and whether memory ran out
pub record Checking : Type 0 where
  pub case : CaseContents
  pub hearing : Hearing
  pub failed : Bool

-- a checker has heard these bytes, unless memory ran out
abbrev pub Heard : Checking → List ℕ → Type 0
Heard checking bytes = checking.failed ≡ false → HasHeard checking.case checking.hearing bytes

-- each checker has heard some bytes
pub record IsChecking (checking : Checking) : Type 0 where
  pub book : IsBook checking.case.book
  pub heard : (bytes : List ℕ) × Heard checking bytes
