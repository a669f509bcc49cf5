-- What the sums over the coarse lines count of the most of all lines.
use Rattle.std.proofs.Common.{◌≡◌, ◌∙◌, ℕ, zero, suc, ◌+◌, ◌-◌, ◌*◌, ◌^◌, ◌<◌, ◌≤◌, ◌==◌, Bool, true, false, nat_lt, if◌then◌else◌, List, [], ◌∷◌, drop, get_or, length, map, set, inl, inr, refl, sym, ap, subst, arith}
use Rattle.std.proofs.Math.Nat.{mul-le-mul_left, mul-le-mul_right}
use Rattle.std.proofs.lemmas.Bool.{cases_eq}
use Rattle.std.specs.List.{All, sum, zip}
use Rattle.std.proofs.lemmas.List.{drop_all, drop_more, ext_get_or, get_or-set_other, get_or-set_same, length-set}
use Rattle.std.proofs.lemmas.List.Elements.{All-cons, All-head, All-nil, All-tail, All-weaker}
use Rattle.std.proofs.lemmas.List.Sums.{sum_by-cons}
use Rattle.escrow_units.specs.OpenDays.{open_day}
use Rattle.escrow_units.specs.declared.limits.TheConstants.{AMOUNT_LIMIT, MOST_LINES}
use Rattle.escrow_units.specs.declared.security.Flow.{Flow}
use Rattle.offer_book.specs.Book.{AreLines, BookContents, IsBook, IsSecurityLine}
use Rattle.offer_book.specs.Sums.{coarse_step, counted, depths, kind_depth, line_depth, sums_from, sums_of}
use Rattle.offer_book.specs.declared.line.LineKind.{LineKind}
use Rattle.offer_book.specs.declared.line.LineKind.TheVariants.{Cash, Market, Security}
use Rattle.offer_book.specs.declared.payment_days.PaymentDays.{PaymentDays}
use Rattle.offer_book.proofs.SumFacts.{depth-within}
use Rattle.offer_book.specs.declared.line.Line.{Line}
use Rattle.node_ranges.specs.Depths.{most_at}
use Rattle.node_ranges.proofs.RangeFacts.{sums-length}

abbrev pub mosts : List Line → List ℕ
mosts lines = map (λ line. line.most) lines

-- one line more
abbrev CountsBy : ℕ → ℕ × ℕ → ℕ
CountsBy place p = if nat_lt place p.0 then p.1 else 0

counted-cons : (place depth units : ℕ) (depths plan : List ℕ) → counted place (depth ∷ depths) (units ∷ plan) ≡ (if nat_lt place depth then units else 0) + counted place depths plan
counted-cons place depth units depths plan = sum_by-cons (CountsBy place) (depth, units) (zip depths plan)

most_at-cons : (here depth : ℕ) (line : Line) (depths : List ℕ) (lines : List Line) → most_at here (depth ∷ depths) (line ∷ lines) ≡ (if depth == here then line.most else 0) + most_at here depths lines
most_at-cons here depth line depths lines = sum_by-cons (λ (p : ℕ × Line). if p.0 == here then p.1.most else 0) (depth, line) (zip depths lines)

none-more : (n : ℕ) → 0 + n ≡ n
none-more n = omega arith

-- what a sum counts is what lies at its depth, and what the next sum counts
at-once : (sum depth most : ℕ) → (if nat_lt sum depth then most else 0) ≡ (if depth == sum + 1 then most else 0) + (if nat_lt (sum + 1) depth then most else 0)
at-once sum depth most = by (nat_lt sum depth) (depth == sum + 1) (nat_lt (sum + 1) depth) refl refl refl
  where
    by : (a b c : Bool) → nat_lt sum depth ≡ a → (depth == sum + 1) ≡ b → nat_lt (sum + 1) depth ≡ c
        → (if a then most else 0) ≡ (if b then most else 0) + (if c then most else 0)
    by true true true ea eb ec = absurd (grind arith)
    by true true false ea eb ec = omega arith
    by true false true ea eb ec = omega arith
    by true false false ea eb ec = absurd (grind arith)
    by false true true ea eb ec = absurd (grind arith)
    by false true false ea eb ec = absurd (grind arith)
    by false false true ea eb ec = absurd (grind arith)
    by false false false ea eb ec = omega arith

pub counted-next : (place : ℕ) (depths : List ℕ) (lines : List Line) → counted place depths (mosts lines) ≡ most_at (place + 1) depths lines + counted (place + 1) depths (mosts lines)
counted-next place [] lines = refl
counted-next place (depth ∷ depths) [] = refl
counted-next place (depth ∷ depths) (line ∷ lines) =
    let first = at-once place depth line.most in
    let rest = counted-next place depths lines in
    let all = counted-cons place depth line.most depths (mosts lines) in
    let here = most_at-cons (place + 1) depth line depths lines in
    let next = counted-cons (place + 1) depth line.most depths (mosts lines) in
    omega (arith, first, rest, all, here, next)

-- a sum past all depths counts nothing
counted-off : (place depth units : ℕ) (depths plan : List ℕ) → depth ≤ place → counted place (depth ∷ depths) (units ∷ plan) ≡ counted place depths plan
counted-off place depth units depths plan low =
    let none : nat_lt place depth ≡ false = grind arith in
    counted-cons place depth units depths plan ∙ ap (λ (t : Bool). (if t then units else 0) + counted place depths plan) none ∙ none-more (counted place depths plan)

pub counted-past : (dates : ℕ) (depths plan : List ℕ) → All (λ depth. depth ≤ dates) depths → counted dates depths plan ≡ 0
counted-past dates [] plan deep = refl
counted-past dates (depth ∷ depths) [] deep = refl
counted-past dates (depth ∷ depths) (units ∷ plan) deep =
    counted-off dates depth units depths plan (All-head (λ (n : ℕ). n ≤ dates) depth depths deep)
    ∙ counted-past dates depths plan (All-tail (λ (n : ℕ). n ≤ dates) depth depths deep)

-- and none counts more than all lines have
pub counted-few : (place limit : ℕ) (depths : List ℕ) (lines : List Line) → All (λ line. line.most ≤ limit) lines → counted place depths (mosts lines) ≤ length lines * limit
counted-few place limit [] lines small = omega arith
counted-few place limit (depth ∷ depths) [] small = omega arith
counted-few place limit (depth ∷ depths) (line ∷ lines) small =
    let rest = counted-few place limit depths lines (All-tail (λ (l : Line). l.most ≤ limit) line lines small) in
    let all = counted-cons place depth line.most depths (mosts lines) in
    let first = by (nat_lt place depth) (All-head (λ (l : Line). l.most ≤ limit) line lines small) in
    omega (arith, rest, all, first)
  where
    by : (t : Bool) → line.most ≤ limit → (if t then line.most else 0) ≤ limit
    by true own = own
    by false own = omega arith

-- counts by depth, summed from a place on, are what the sum of that place counts
record AreByDepth (depths : List ℕ) (lines : List Line) (counts : List ℕ) : Type 0 where
  pub deep : All (λ depth. depth ≤ length counts) depths
  pub each : (k d : ℕ) → k < length counts → get_or counts k d ≡ most_at (k + 1) depths lines

one-on : (k : ℕ) → suc k ≡ k + 1
one-on k = omega arith

summed-back : (depths : List ℕ) (lines : List Line) (counts : List ℕ) → AreByDepth depths lines counts → (left k : ℕ) → k + left ≡ length counts
    → sum (drop k counts) ≡ counted k depths (mosts lines)
summed-back depths lines counts are zero k all =
    let end : length counts ≡ k = omega (arith, all) in
    ap sum (drop_all k counts (omega (arith, end))) ∙ sym (counted-past k depths (mosts lines) (subst (λ (n : ℕ). All (λ (depth : ℕ). depth ≤ n) depths) end are.deep))
summed-back depths lines counts are (suc left) k all =
    let more = drop_more counts k 0 (omega (arith, all)) in
    let here = are.each k 0 (omega (arith, all)) in
    let rest = summed-back depths lines counts are left (suc k) (omega (arith, all)) in
    let next = counted-next k depths lines in
    let added = sum_by-cons (λ (n : ℕ). n) (get_or counts k 0) (drop (k + 1) counts) in
    let all = ap sum more in
    let last : sum (drop (suc k) counts) ≡ sum (drop (k + 1) counts) = ap (λ (n : ℕ). sum (drop n counts)) (one-on k) in
    let past : counted (suc k) depths (mosts lines) ≡ counted (k + 1) depths (mosts lines) = ap (λ (n : ℕ). counted n depths (mosts lines)) (one-on k) in
    omega (arith, all, added, here, rest, last, past, next)

pub summed : (depths : List ℕ) (lines : List Line) (counts : List ℕ) → All (λ depth. depth ≤ length counts) depths
    → ((k d : ℕ) → k < length counts → get_or counts k d ≡ most_at (k + 1) depths lines) → (k : ℕ) → k ≤ length counts → sum (drop k counts) ≡ counted k depths (mosts lines)
summed depths lines counts deep each k few = summed-back depths lines counts (record { deep = deep; each = each }) (length counts - k) k (omega (arith, few))

-- the sums from one on, at a place
pub sums-at : (sum : ℕ) (needs : List Flow) (depths plan : List ℕ) (k d : ℕ) → k < length needs → get_or (sums_from sum needs depths plan) k d ≡ counted (sum + k) depths plan
sums-at sum [] depths plan k d few = absurd (omega arith)
sums-at sum (need ∷ needs) depths plan zero d few = ap (λ (n : ℕ). counted n depths plan) (omega arith)
sums-at sum (need ∷ needs) depths plan (suc k) d few =
    sums-at (suc sum) needs depths plan k d (omega arith) ∙ ap (λ (n : ℕ). counted n depths plan) (omega arith)

pub sums-same : (needs : List Flow) (depths plan numbers : List ℕ) → length numbers ≡ length needs → ((k d : ℕ) → k < length needs → get_or numbers k d ≡ counted k depths plan)
    → numbers ≡ sums_from 0 needs depths plan
sums-same needs depths plan numbers same each =
    ext_get_or 0 numbers (sums_from 0 needs depths plan) (same ∙ sym (sums-length 0 needs depths plan))
    (λ k few. each k 0 (omega (arith, same, few)) ∙ ap (λ (n : ℕ). counted n depths plan) (from-none k) ∙ sym (sums-at 0 needs depths plan k 0 (omega (arith, same, few))))
  where
    from-none : (k : ℕ) → k ≡ 0 + k
    from-none k = omega arith

-- ---- counting one line more
-- at the depth of a line it adds the line's most, and at another nothing
pub at-more : (here depth : ℕ) (line : Line) (depths : List ℕ) (lines : List Line) → depth ≡ here → most_at here (depth ∷ depths) (line ∷ lines) ≡ line.most + most_at here depths lines
at-more here depth line depths lines is =
    let yes : (depth == here) ≡ true = grind arith in
    most_at-cons here depth line depths lines ∙ ap (λ (t : Bool). (if t then line.most else 0) + most_at here depths lines) yes

pub at-other : (here depth : ℕ) (line : Line) (depths : List ℕ) (lines : List Line) → (depth ≡ here → ⊥) → most_at here (depth ∷ depths) (line ∷ lines) ≡ most_at here depths lines
at-other here depth line depths lines other =
    let no : (depth == here) ≡ false = grind (arith, other) in
    most_at-cons here depth line depths lines ∙ ap (λ (t : Bool). (if t then line.most else 0) + most_at here depths lines) no ∙ none-more (most_at here depths lines)

-- ---- a list summed from a place on
pub sum-at : (counts : List ℕ) (place : ℕ) → place < length counts → sum (drop place counts) ≡ get_or counts place 0 + sum (drop (place + 1) counts)
sum-at counts place within = ap sum (drop_more counts place 0 within) ∙ sum_by-cons (λ (n : ℕ). n) (get_or counts place 0) (drop (place + 1) counts)

pub sum-within : (counts : List ℕ) (place : ℕ) → sum (drop place counts) ≤ sum counts
sum-within counts zero = omega arith
sum-within [] (suc place) = omega arith
sum-within (count ∷ counts) (suc place) =
    let rest = sum-within counts place in
    let first = sum_by-cons (λ (n : ℕ). n) count counts in
    omega (arith, rest, first)

-- from a place on each count is a sum, and before it none has changed
pub record AreSummedFrom (old new : List ℕ) (place after : ℕ) : Type 0 where
  pub same : length new ≡ length old
  pub before : (k d : ℕ) → k < place → get_or new k d ≡ get_or old k d
  pub summed : (k d : ℕ) → place ≤ k → k < length old → get_or new k d ≡ sum (drop k old)
  pub total : after ≡ sum (drop place old)

pub sum-next : (old new : List ℕ) (below after : ℕ) → suc below ≤ length old → AreSummedFrom old new (suc below) after → after + get_or new below 0 ≡ sum (drop below old)
sum-next old new below after within are =
    let at = sum-at old below within in
    let here = are.before below 0 (omega arith) in
    let rest : after ≡ sum (drop (below + 1) old) = are.total ∙ ap (λ (n : ℕ). sum (drop n old)) (one-on below) in
    omega (arith, at, here, rest)

pub summed-more : (old new : List ℕ) (below after : ℕ) → suc below ≤ length old → AreSummedFrom old new (suc below) after
    → AreSummedFrom old (set new below (after + get_or new below 0)) below (after + get_or new below 0)
summed-more old new below after within are = record {
  same = length-set new below (after + get_or new below 0) ∙ are.same;
  before = λ k d less. get_or-set_other new below k (after + get_or new below 0) d (λ (is : k ≡ below). omega (arith, is, less)) ∙ are.before k d (omega arith);
  summed = λ k d from few. elim (cases_eq k below) [
    | inl here ↦ ap (λ (n : ℕ). get_or (set new below (after + get_or new below 0)) n d) here
        ∙ get_or-set_same new below (after + get_or new below 0) d (omega (arith, are.same)) ∙ sum-next old new below after within are ∙ ap (λ (n : ℕ). sum (drop n old)) (sym here)
    | inr other ↦ get_or-set_other new below k (after + get_or new below 0) d other ∙ are.summed k d (past k below from other) few
  ];
  total = sum-next old new below after within are;
}
  where
    past : (k below : ℕ) → below ≤ k → (k ≡ below → ⊥) → suc below ≤ k
    past k below from other = grind (arith, other)

-- ---- counts by depth, a line at a time
-- so many lines are counted at their depths: what is counted and what is left come to all
pub record AreCounted (dates place : ℕ) (depths : List ℕ) (lines : List Line) (counts : List ℕ) : Type 0 where
  pub same : length counts ≡ dates
  pub all : (k d : ℕ) → k < dates → get_or counts k d + most_at (k + 1) (drop place depths) (drop place lines) ≡ most_at (k + 1) depths lines
  pub small : (k d : ℕ) → k < dates → get_or counts k d ≤ place * AMOUNT_LIMIT

-- a line at its place, with its depth
pub record IsLineAt (dates place depth : ℕ) (line : Line) (depths : List ℕ) (lines : List Line) : Type 0 where
  pub depths_left : drop place depths ≡ depth ∷ drop (place + 1) depths
  pub lines_left : drop place lines ≡ line ∷ drop (place + 1) lines
  pub deep : depth ≤ dates
  pub small : line.most ≤ AMOUNT_LIMIT

left-is : (here dates place depth : ℕ) (line : Line) (depths : List ℕ) (lines : List Line) → IsLineAt dates place depth line depths lines
    → most_at here (drop place depths) (drop place lines) ≡ most_at here (depth ∷ drop (place + 1) depths) (line ∷ drop (place + 1) lines)
left-is here dates place depth line depths lines at = (λ i. most_at here (at.depths_left i) (at.lines_left i))

-- a line of no depth is counted nowhere
pub counted-none : (dates place depth : ℕ) (line : Line) (depths : List ℕ) (lines : List Line) (counts : List ℕ) → IsLineAt dates place depth line depths lines → depth ≡ 0
    → AreCounted dates place depths lines counts → AreCounted dates (place + 1) depths lines counts
counted-none dates place depth line depths lines counts at none are = record {
  same = are.same;
  all = λ k d few.
      let left = left-is (k + 1) dates place depth line depths lines at in
      let other = at-other (k + 1) depth line (drop (place + 1) depths) (drop (place + 1) lines) (λ is. omega (arith, is, none)) in
      let whole = are.all k d few in
      omega (arith, left, other, whole);
  small = λ k d few. let low = are.small k d few in omega (arith, low);
}

pub counted-one : (dates place below : ℕ) (line : Line) (depths : List ℕ) (lines : List Line) (counts : List ℕ) → IsLineAt dates place (suc below) line depths lines
    → AreCounted dates place depths lines counts → AreCounted dates (place + 1) depths lines (set counts below (get_or counts below 0 + line.most))
counted-one dates place below line depths lines counts at are = record {
  same = length-set counts below (get_or counts below 0 + line.most) ∙ are.same;
  all = λ k d few. elim (cases_eq k below) [
    | inl here ↦ (
        let read = ap (λ (n : ℕ). get_or (set counts below (get_or counts below 0 + line.most)) n d) here ∙ get_or-set_same counts below (get_or counts below 0 + line.most) d (omega (arith, are.same, at.deep)) in
        let more = at-more (k + 1) (suc below) line (drop (place + 1) depths) (drop (place + 1) lines) (omega (arith, here)) in
        let left = left-is (k + 1) dates place (suc below) line depths lines at in
        let whole = are.all k 0 few in
        let same = ap (λ (n : ℕ). get_or counts n 0) here in
        omega (arith, read, more, left, whole, same))
    | inr apart ↦ (
        let read = get_or-set_other counts below k (get_or counts below 0 + line.most) d apart in
        let other = at-other (k + 1) (suc below) line (drop (place + 1) depths) (drop (place + 1) lines) (λ is. apart (omega (arith, is))) in
        let left = left-is (k + 1) dates place (suc below) line depths lines at in
        let whole = are.all k d few in
        omega (arith, read, other, left, whole))
  ];
  small = λ k d few. elim (cases_eq k below) [
    | inl here ↦ (
        let read = ap (λ (n : ℕ). get_or (set counts below (get_or counts below 0 + line.most)) n d) here ∙ get_or-set_same counts below (get_or counts below 0 + line.most) d (omega (arith, are.same, at.deep)) in
        let low = are.small below 0 (omega (arith, at.deep)) in
        omega (arith, read, low, at.small))
    | inr apart ↦ (
        let read = get_or-set_other counts below k (get_or counts below 0 + line.most) d apart in
        let low = are.small k d few in
        omega (arith, read, low))
  ];
}

-- ---- the sums of a book
kind-within : (book : BookContents) (kind : LineKind) → kind_depth book kind ≤ length book.needs
kind-within book Cash = omega arith
kind-within book (Security slgs) = depth-within book.needs (open_day book.days.closed slgs.maturity)
kind-within book (Market note) = depth-within book.needs (open_day book.days.closed note.maturity)

line-within : (book : BookContents) (line : Line) → line_depth book line ≤ length book.needs
line-within book line = by (line.step == coarse_step book) (kind-within book line.kind)
  where
    by : (t : Bool) → kind_depth book line.kind ≤ length book.needs → (if t then kind_depth book line.kind else 0) ≤ length book.needs
    by true within = within
    by false within = omega arith

pub depths-within : (book : BookContents) (lines : List Line) → All (λ depth. depth ≤ length book.needs) (map (line_depth book) lines)
depths-within book [] = All-nil (λ (depth : ℕ). depth ≤ length book.needs)
depths-within book (line ∷ lines) = All-cons (λ (depth : ℕ). depth ≤ length book.needs) (line_depth book line) (map (line_depth book) lines) (line-within book line) (depths-within book lines)

-- no line has more units than the limit of amounts
security-few : (days : PaymentDays) (line : Line) → IsSecurityLine days line → line.most ≤ AMOUNT_LIMIT
security-few days line security =
    let least = mul-le-mul_left line.most security.step_at_least in
    omega (arith, security.cap, least)

pub lines-few : (days : PaymentDays) (lines : List Line) → AreLines days lines → All (λ line. line.most ≤ AMOUNT_LIMIT) lines × (length lines ≤ MOST_LINES + 1)
lines-few days [] are = absurd are
lines-few days (cash ∷ securities) are = (
  All-cons (λ (line : Line). line.most ≤ AMOUNT_LIMIT) cash securities are.0.most
      (All-weaker (IsSecurityLine days) (λ (line : Line). line.most ≤ AMOUNT_LIMIT) (security-few days) securities are.1),
  omega (arith, are.2),
)

-- counts by depth of a book
pub record AreCountsOf (book : BookContents) (counts : List ℕ) : Type 0 where
  pub same : length counts ≡ length book.needs
  pub each : (k d : ℕ) → k < length counts → get_or counts k d ≡ most_at (k + 1) (depths book) book.lines

counts-summed : (book : BookContents) (counts : List ℕ) → AreCountsOf book counts → (k : ℕ) → k ≤ length counts → sum (drop k counts) ≡ counted k (depths book) (mosts book.lines)
counts-summed book counts are k few =
    summed (depths book) book.lines counts (subst (λ (n : ℕ). All (λ (depth : ℕ). depth ≤ n) (depths book)) (sym are.same) (depths-within book book.lines)) are.each k few

pub counts-fit : (book : BookContents) (counts : List ℕ) → IsBook book → AreCountsOf book counts → sum counts < 2 ^ 64
counts-fit book counts limits are =
    let all = counts-summed book counts are 0 (omega arith) in
    let few = lines-few book.days book.lines limits.lines in
    let low = counted-few 0 AMOUNT_LIMIT (depths book) book.lines few.0 in
    let high = mul-le-mul_right AMOUNT_LIMIT few.1 in
    omega (arith, all, low, high)

pub sums-found : (book : BookContents) (counts own : List ℕ) → AreCountsOf book counts → length own ≡ length counts
    → ((k d : ℕ) → k < length counts → get_or own k d ≡ sum (drop k counts)) → own ≡ sums_of book (mosts book.lines)
sums-found book counts own are same each =
    sums-same book.needs (depths book) (mosts book.lines) own (same ∙ are.same)
    (λ k d few. let within : k < length counts = omega (arith, are.same, few) in each k d within ∙ counts-summed book counts are k (omega (arith, within)))
