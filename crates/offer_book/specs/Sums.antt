-- Sums: how many units of the coarse lines are paid last after a need date. The coarse lines are the securities with the greatest
-- step: what plans in such steps buy too much is bounded by sums over these lines. All this is this project's own.
use Rattle.std.specs.Prelude.{ℕ, suc, ◌==◌, nat_lt, max, if◌then◌else◌, List, [], ◌∷◌, drop, map, sum_by, zip, ℤ, int_le}
use Rattle.escrow_units.specs.OpenDays.{open_day}
use Rattle.escrow_units.specs.declared.security.Flow.{Flow}
use Rattle.offer_book.specs.Book.{BookContents}
use Rattle.offer_book.specs.declared.line.Line.{Line}
use Rattle.offer_book.specs.declared.line.LineKind.{LineKind}
use Rattle.offer_book.specs.declared.line.LineKind.TheVariants.{Cash, Market, Security}

-- the greatest step of some lines, in cents
abbrev pub greatest_step : List Line → ℕ
greatest_step [] = 0
greatest_step (line ∷ lines) = max line.step (greatest_step lines)

-- the step of the coarse lines: the greatest of all lines but opening cash
abbrev pub coarse_step : BookContents → ℕ
coarse_step book = greatest_step (drop 1 book.lines)

-- the place, from 1, of the first need date on or after a day; the number of need dates where there is none
abbrev pub depth_on : List Flow → ℤ → ℕ
depth_on [] day = 0
depth_on (need ∷ needs) day = if int_le day need.day then 1 else suc (depth_on needs day)

-- the depth of what is bought is that of its last payment, which falls on the open day of its maturity. Opening cash has none
abbrev pub kind_depth : BookContents → LineKind → ℕ
kind_depth book Cash = 0
kind_depth book (Security slgs) = depth_on book.needs (open_day book.days.closed slgs.maturity)
kind_depth book (Market note) = depth_on book.needs (open_day book.days.closed note.maturity)

-- the depth of a line: how many sums count it. None counts a line that isn't coarse
abbrev pub line_depth : BookContents → Line → ℕ
line_depth book line = if line.step == coarse_step book then kind_depth book line.kind else 0

-- how many sums count each line of a book
abbrev pub depths : BookContents → List ℕ
depths book = map (line_depth book) book.lines

-- a sum, counted from 0, counts the units of the lines whose depth is more: those that are paid last after the need date before
-- its own, and the first sum all that are coarse
abbrev pub counted : ℕ → List ℕ → List ℕ → ℕ
counted sum depths plan = sum_by (λ p. if nat_lt sum p.0 then p.1 else 0) (zip depths plan)

-- the sums from one on, for so many need dates
abbrev pub sums_from : ℕ → List Flow → List ℕ → List ℕ → List ℕ
sums_from sum [] depths plan = []
sums_from sum (need ∷ needs) depths plan = counted sum depths plan ∷ sums_from (suc sum) needs depths plan

-- the sums of a portfolio, one for each need date
abbrev pub sums_of : BookContents → List ℕ → List ℕ
sums_of book plan = sums_from 0 book.needs (depths book) plan
