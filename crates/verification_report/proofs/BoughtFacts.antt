-- The lines of a book that a permitted portfolio buys, one after another.
use Rattle.std.proofs.Common.{◌≡◌, ℕ, ◌+◌, ◌<◌, ◌≤◌, nat_lt, if◌then◌else◌, List, [], ◌∷◌, ◌++◌, ◌*◌, length, get_or, drop, refl, subst, sym, ap, ◌∙◌, arith, ℤ}
use Rattle.std.proofs.lemmas.List.{drop_more, get_or_default}
use Rattle.offer_book.specs.declared.line.Line.{Line}
use Rattle.offer_book.specs.Book.{AreLines, BookContents, IsBook, IsCashLine, IsLine}
use Rattle.offer_book.specs.Portfolio.{IsPermitted, kind_cost, line_cost, par}
use Rattle.offer_book.specs.declared.payment_days.PaymentDays.{PaymentDays}
use Rattle.cash_table.proofs.PaymentFacts.{all_lines, line_at, units_at}
use Rattle.cash_table.proofs.ZipFacts.{StandAt}
use Rattle.verification_report.specs.Report.{of_bought}

-- a line of the book, with the units of a permitted portfolio
stands : (book : BookContents) (plan : List ℕ) (i : ℕ) (line : Line) → IsPermitted book plan → i < length book.lines → line ≡ get_or book.lines i line
    → StandAt book.lines plan i line (get_or plan i 0)
stands book plan i line permitted within at = record {
  first_in = within;
  second_in = omega (arith, permitted.same_length);
  first = λ d. at ∙ get_or_default book.lines i line d within;
  second = λ d. get_or_default plan i 0 d (omega (arith, permitted.same_length));
}

pub is_line : (book : BookContents) (plan : List ℕ) (i : ℕ) (line : Line) → IsBook book → IsPermitted book plan → i < length book.lines → line ≡ get_or book.lines i line
    → IsLine book.days line
is_line book plan i line limits permitted within at =
    line_at book.days book.lines plan i line (get_or plan i 0) (all_lines book.days book.lines limits.lines) (stands book plan i line permitted within at)

pub has_room : (book : BookContents) (plan : List ℕ) (i : ℕ) (line : Line) → IsPermitted book plan → i < length book.lines → line ≡ get_or book.lines i line
    → get_or plan i 0 ≤ line.most
has_room book plan i line permitted within at =
    units_at book.lines plan i line (get_or plan i 0) permitted.units (stands book plan i line permitted within at)

-- the texts of lines from a place on: that of its line first
pub one_bought : (text : ℕ → Line → ℕ → List ℕ) (lines : List Line) (plan : List ℕ) (i : ℕ) (line : Line) → i < length lines → i < length plan → line ≡ get_or lines i line
    → of_bought text i (drop i lines) (drop i plan)
    ≡ (if nat_lt 0 (get_or plan i 0) then text i line (get_or plan i 0) else []) ++ of_bought text (i + 1) (drop (i + 1) lines) (drop (i + 1) plan)
one_bought text lines plan i line within more at =
    rw (drop_more lines i line within, drop_more plan i 0 more, ← at) refl

-- opening cash stands first, and its units are cents
some_lines : (days : PaymentDays) (lines : List Line) → AreLines days lines → 0 < length lines
some_lines days [] all = absurd all
some_lines days (cash ∷ securities) all = omega arith

pub has_lines : (book : BookContents) → IsBook book → 0 < length book.lines
has_lines book limits = some_lines book.days book.lines limits.lines

first_is_cash : (days : PaymentDays) (lines : List Line) (line : Line) → AreLines days lines → line ≡ get_or lines 0 line → IsCashLine line
first_is_cash days [] line all at = absurd all
first_is_cash days (cash ∷ securities) line all at = subst IsCashLine (sym at) all.0

pub cash_first : (book : BookContents) (line : Line) → IsBook book → line ≡ get_or book.lines 0 line → IsCashLine line
cash_first book line limits at = first_is_cash book.days book.lines line limits.lines at

pub cash_costs : (line : Line) (units : ℕ) → IsCashLine line → line_cost line units ≡ units
cash_costs line units cash = ap (λ kind. kind_cost kind (par line units)) cash.kind ∙ ap (λ step. step * units) cash.step ∙ omega arith
