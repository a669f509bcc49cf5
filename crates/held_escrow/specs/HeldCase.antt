-- The case in which holdings are kept. This project's own.
use Rattle.std.specs.Prelude.{◌≡◌, ◌↔◌, ℕ, List, [], ℤ}
use Rattle.escrow_units.specs.declared.security.Flow.{Flow}
use Rattle.offer_book.specs.Book.{BookContents, IsBook}
use Rattle.offer_book.specs.Portfolio.{IsFirstShort, Meets}
use Rattle.offer_book.specs.Rival.{IsRival}
use Rattle.case_file.specs.Case.{CaseContents}
use Rattle.held_escrow.specs.Holdings.{IsFirstShortWithHoldings, IsHeldRival, MeetsWithHoldings}
use Rattle.held_escrow.specs.Residual.{IsResidual, residual_of}

-- a case beside holdings: its needs are the residual, and all else stays
pub record IsHeldCase (held : List Flow) (case kept : CaseContents) : Type 0 where
  pub needs : IsResidual case.book.needs held kept.book.needs
  pub days : kept.book.days ≡ case.book.days
  pub lines : kept.book.lines ≡ case.book.lines
  pub limit : kept.limit ≡ case.limit
  pub allowance : kept.allowance ≡ case.allowance
  pub budget : kept.budget ≡ case.budget

-- a book with other needs
abbrev pub with_needs : BookContents → List Flow → BookContents
with_needs book needs = record book { needs = needs }

-- the case beside holdings, as a value
abbrev pub held_case_of : CaseContents → List Flow → CaseContents
held_case_of case held = record case { book = with_needs case.book (residual_of case.book.needs held) }

-- without holdings a case is itself
abbrev pub IsItselfWithout : (held : List Flow) (case kept : CaseContents) → Type 0
IsItselfWithout held case kept = held ≡ [] → kept ≡ case

-- ---- what it is for
-- a portfolio meets the needs of the book beside holdings exactly where it meets those of the book with them
abbrev pub MeetAlike : (held : List Flow) (book kept : BookContents) → Type 0
MeetAlike held book kept = (plan : List ℕ) → Meets kept plan ↔ MeetsWithHoldings book held plan

-- and else the first day on which it is short is the same
abbrev pub AreShortAlike : (held : List Flow) (book kept : BookContents) → Type 0
AreShortAlike held book kept = (plan : List ℕ) (t : ℤ) → IsFirstShort kept plan t ↔ IsFirstShortWithHoldings book held plan t

-- the rivals beside holdings are the held rivals
abbrev pub RivalsAlike : (limit : ℕ) (held : List Flow) (book kept : BookContents) → Type 0
RivalsAlike limit held book kept = (plan : List ℕ) → IsRival limit kept plan ↔ IsHeldRival limit book held plan

-- so it is of a case beside holdings
pub record AreAlike (held : List Flow) (case kept : CaseContents) : Type 0 where
  pub meet : MeetAlike held case.book kept.book
  pub short : AreShortAlike held case.book kept.book
  pub rivals : RivalsAlike case.limit held case.book kept.book

-- ---- laws
-- of each case whose book keeps every limit
abbrev pub HeldCasesAreAlike : Type 0
HeldCasesAreAlike = (held : List Flow) (case : CaseContents) → IsBook case.book → AreAlike held case (held_case_of case held)

-- whose book beside holdings does so too
abbrev pub HeldCasesKeepLimits : Type 0
HeldCasesKeepLimits = (held : List Flow) (case : CaseContents) → IsBook case.book → IsBook (held_case_of case held).book

-- there is one case beside holdings
abbrev pub HeldCasesAreOne : Type 0
HeldCasesAreOne =
    (held : List Flow) (case kept : CaseContents) → IsBook case.book → IsHeldCase held case kept ↔ (kept ≡ held_case_of case held)
