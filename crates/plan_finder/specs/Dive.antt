-- What dives for plans are for, and lines in an order.
use Rattle.std.specs.Prelude.{ℕ, ◌<◌, List, All, length}
use Rattle.offer_book.specs.Book.{BookContents}
use Rattle.plan_finder.specs.declared.order.Ranked.{Ranked}

-- what contracts see of a finder, and of a search: the book, and the limit on the yield
pub record SearchContents : Type 0 where
  pub book : BookContents
  pub limit : ℕ

-- lines of a book, in an order
abbrev pub AreLinesOf : BookContents → List Ranked → Type 0
AreLinesOf book order = All (λ ranked. ranked.line < length book.lines) order
