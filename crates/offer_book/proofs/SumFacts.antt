-- The sums over the coarse lines.
use Rattle.std.proofs.Common.{◌≡◌, ◌∙◌, ℕ, zero, suc, ◌<◌, ◌≤◌, max, ℤ, ◌≤ℤ◌, ◌<ℤ◌, Bool, true, false, if◌then◌else◌, List, [], ◌∷◌, length, get_or, refl, sym, ap, subst, inl, inr, arith, int_le, int_lt}
use Rattle.std.proofs.lemmas.Bool.{cases_lt}
use Rattle.std.proofs.lemmas.Int.{ints}
use Rattle.std.specs.List.{All}
use Rattle.std.proofs.lemmas.List.Elements.{All-cons, All-weaker}
use Rattle.std.specs.List.Sorted.{IsPartitionedBy}
use Rattle.escrow_units.specs.Flows.{Rise}
use Rattle.escrow_units.specs.OpenDays.{IsBy2190}
use Rattle.escrow_units.specs.SlgsTerms.{IsSettlement}
use Rattle.escrow_units.specs.declared.security.Flow.{Flow}
use Rattle.offer_book.specs.Book.{AreLines, IsLine, IsSecurity, IsSecurityLine}
use Rattle.offer_book.specs.Sums.{depth_on, greatest_step}
use Rattle.offer_book.specs.declared.line.Line.{Line}
use Rattle.offer_book.specs.declared.line.LineKind.{LineKind}
use Rattle.offer_book.specs.declared.line.LineKind.TheVariants.{Cash, Market, Security}
use Rattle.offer_book.specs.declared.payment_days.PaymentDays.{PaymentDays}
use Rattle.offer_book.proofs.MarketFacts.{note-by}
use Rattle.offer_book.proofs.OfferFacts.{slgs-by}

pub lt_from_test : (a b : ℤ) → int_lt a b ≡ true → a <ℤ b
lt_from_test a b h = grind (arith, ints)

pub le_from_lt_test : (a b : ℤ) → int_lt a b ≡ false → b ≤ℤ a
le_from_lt_test a b h = grind (arith, ints)

int_lt-test : (a b : ℤ) → a <ℤ b → int_lt a b ≡ true
int_lt-test a b h = grind (arith, ints)

pub lt_trans : (a b c : ℤ) → a <ℤ b → b <ℤ c → a <ℤ c
lt_trans a b c h k = omega (arith, ints)

-- the days before a day come first
pub days_are_partitioned : (needs : List Flow) (day : ℤ) → Rise needs → IsPartitionedBy (λ need. int_lt need.day day) needs
days_are_partitioned needs day rising = λ i j d order within later.
    elim (cases_lt i j) [
      | inl less ↦ int_lt-test (get_or needs i d).day day (lt_trans (get_or needs i d).day (get_or needs j d).day day (rising i j d less within) (lt_from_test (get_or needs j d).day day later))
      | inr same ↦ (let here : i ≡ j = omega arith in ap (λ n. int_lt (get_or needs n d).day day) here ∙ later)
    ]

-- ---- the depth of a day
-- the tests of need dates before a place, and from it on
abbrev pub BeforeTo : List Flow → ℤ → ℕ → Type 0
BeforeTo needs day place = (k : ℕ) (d : Flow) → k < place → int_lt (get_or needs k d).day day ≡ true

not-by : (a b : ℤ) → int_lt b a ≡ true → int_le a b ≡ false
not-by a b h = grind (arith, ints)

by-test : (a b : ℤ) → int_lt b a ≡ false → int_le a b ≡ true
by-test a b h = grind (arith, ints)

-- past the last need date
pub depth-past : (needs : List Flow) (day : ℤ) → BeforeTo needs day (length needs) → depth_on needs day ≡ length needs
depth-past [] day before = refl
depth-past (need ∷ needs) day before =
    let first : int_le day need.day ≡ false = not-by day need.day (before 0 need (omega arith)) in
    rw first (ap suc (depth-past needs day (λ k d less. before (suc k) d (omega arith))))

-- at the place of a need date on or after the day
pub depth-at : (needs : List Flow) (day : ℤ) (place : ℕ) → place < length needs → BeforeTo needs day place → ((d : Flow) → int_lt (get_or needs place d).day day ≡ false)
    → depth_on needs day ≡ suc place
depth-at [] day place within before here = absurd (omega arith)
depth-at (need ∷ needs) day zero within before here =
    let first : int_le day need.day ≡ true = by-test day need.day (here need) in
    rw first refl
depth-at (need ∷ needs) day (suc place) within before here =
    let first : int_le day need.day ≡ false = not-by day need.day (before 0 need (omega arith)) in
    rw first (ap suc (depth-at needs day place (omega arith) (λ k d less. before (suc k) d (omega arith)) (λ d. here d)))

pub depth-within : (needs : List Flow) (day : ℤ) → depth_on needs day ≤ length needs
depth-within [] day = omega arith
depth-within (need ∷ needs) day = by (int_le day need.day) (depth-within needs day)
  where
    by : (t : Bool) → depth_on needs day ≤ length needs → (if t then 1 else suc (depth_on needs day)) ≤ suc (length needs)
    by true within = omega arith
    by false within = omega (arith, within)

-- ---- the greatest step
step-more : (a b c : ℕ) → max (max a b) c ≡ max a (max b c)
step-more a b c = omega arith

pub greatest-taken : (step : ℕ) (line : Line) (lines : List Line) → max (max step line.step) (greatest_step lines) ≡ max step (greatest_step (line ∷ lines))
greatest-taken step line lines = step-more step line.step (greatest_step lines)

-- ---- the open day of each maturity can be asked
abbrev pub MaturesBy2190 : LineKind → Type 0
MaturesBy2190 Cash = Unit {0}
MaturesBy2190 (Security slgs) = IsBy2190 slgs.maturity
MaturesBy2190 (Market note) = IsBy2190 note.maturity

kind-by : (days : PaymentDays) (kind : LineKind) → IsSettlement days.settle → IsSecurity days kind → MaturesBy2190 kind
kind-by days Cash h security = absurd security
kind-by days (Security slgs) h security = slgs-by days.settle slgs h security.0 security.1
kind-by days (Market note) h security = note-by note security.1

-- opening cash and securities alike
pub all_lines : (days : PaymentDays) (lines : List Line) → AreLines days lines → All (IsLine days) lines
all_lines days [] lines = absurd lines
all_lines days (cash ∷ securities) lines = All-cons (IsLine days) cash securities (inl lines.0) (All-weaker (IsSecurityLine days) (IsLine days) (λ line security. inr security) securities lines.1)

pub line-by : (days : PaymentDays) (line : Line) → IsSettlement days.settle → IsLine days line → MaturesBy2190 line.kind
line-by days line h is_line = elim is_line [
  | inl cash ↦ subst MaturesBy2190 (sym cash.kind) tt
  | inr security ↦ kind-by days line.kind h security.security
]

pub max-none : (n : ℕ) → max 0 n ≡ n
max-none n = omega arith

pub max-none-right : (n : ℕ) → max n 0 ≡ n
max-none-right n = omega arith

pub max-up : (a b : ℕ) → a < b → max a b ≡ b
max-up a b up = omega arith

pub max-stays : (a b : ℕ) → b ≤ a → max a b ≡ a
max-stays a b low = omega arith
