-- Columns: what each line is in the linear program whose dual the bound is. Made once for a book and the powers of a yield,
-- they hold each line's coefficients and what each payment day is priced by, so that a leaf is priced without a calendar.
use Rattle.std.specs.Prelude.{◌≡◌, ℕ, zero, suc, ◌+◌, ◌-◌, ◌*◌, ◌/◌, ◌^◌, ◌<◌, ◌≤◌, ◌==◌, Bool, false, ◌&&◌, ◌||◌, not, List, [], All, length, map, filter, slice_index, slice_index_or, sum_by, ℤ, pos, ◌+ℤ◌, ◌-ℤ◌, ◌*ℤ◌, neg_ℤ, unsigned_abs, Option, IfSome, Some, None}
use Rattle.std.specs.List.{AllZip, Contains}
use Rattle.escrow_units.specs.Flows.{index360_of}
use Rattle.escrow_units.specs.Interest.{earned_of}
use Rattle.fixed_powers.specs.DiscountPowers.{low, one}
use Rattle.offer_book.specs.Book.{BookContents, IsBook}
use Rattle.offer_book.specs.Coefficients.{cost_coefficients, pay_by}
use Rattle.offer_book.specs.Schedule.{kind_accrued, kind_rate, schedule_of}
use Rattle.offer_book.specs.declared.coefficients.PayCoefficients.{PayCoefficients}
use Rattle.offer_book.specs.declared.line.Line.{Line}
use Rattle.offer_book.specs.declared.line.LineKind.{LineKind}
use Rattle.offer_book.specs.declared.line.LineKind.TheVariants.{Cash, Market, Security}
use Rattle.offer_book.specs.declared.payment_days.PaymentDays.{PaymentDays}
use Rattle.payment_schedule.specs.declared.schedule.ScheduledPayment.{ScheduledPayment}
use Rattle.payment_schedule.specs.Schedule.{IsShort, flow_by, half_year_accrual}
use Rattle.offer_book.specs.declared.coefficients.TheConstants.{COEFFICIENT_SCALE}
use Rattle.dual_bound.specs.LeafBound.{least_side, price_on, priced_needs, signed_sum}
use Rattle.proof_tree.specs.Tree.{IsLeaf}
use Rattle.dual_bound.specs.declared.column.Column.{Column}
use Rattle.dual_bound.specs.declared.column.OtherPayment.{OtherPayment}
use Rattle.dual_bound.specs.declared.date_days.DateDays.{DateDays}
use Rattle.dual_bound.specs.declared.day_table.DayTable.{DayTable}
use Rattle.dual_bound.specs.declared.series.Run.{Run}
use Rattle.dual_bound.specs.declared.series.Series.{Series}
use Rattle.dual_bound.specs.declared.series.Stop.{Stop}
use Rattle.dual_bound.specs.declared.series.Stop.TheVariants.{Day, Start}
use Rattle.dual_bound.specs.declared.worth.PricedDay.{PricedDay}
use Rattle.dual_bound.specs.declared.form.Form.{Form}
use Rattle.proof_tree.specs.declared.prices.TheConstants.{PRICE_SCALE}
use Rattle.dual_bound.specs.declared.tableau.Tableau.{Tableau}
use Rattle.proof_tree.specs.declared.tree.Leaf.{Leaf}
use Rattle.dual_bound.specs.declared.worth.Worth.{Worth}

-- what columns are for: a book, the yield of the powers, and the leaf by which their days are priced
pub record ColumnsContents : Type 0 where
  pub book : BookContents
  pub yield_units : ℕ
  pub leaf : Leaf

-- ---- days
-- the power that the limit discounts a payment of a kind by: it doesn't bind opening cash
abbrev pub kind_power : ℕ → ℤ → LineKind → ℤ → ℕ
kind_power n settle Cash day = 0
kind_power n settle (Security slgs) day = low n (index360_of settle day)
kind_power n settle (Market note) day = low n (index360_of settle day)

-- a day is priced by the need that it serves, and by a power
pub record IsPricedDay (book : BookContents) (day : ℤ) (factor : ℕ) (priced : PricedDay) : Type 0 where
  pub need : (prices : List ℕ) → length prices ≡ length book.needs → slice_index prices priced.need ≡ price_on book.needs prices day
  pub power : priced.power ≡ factor

-- a price less what the limit takes: above nothing, or below it
abbrev pub worth_between : ℕ → ℕ → Worth
worth_between price limit = record { above = price - limit; below = limit - price }

-- what a cent that is paid on a day is worth at a leaf
abbrev pub worth_on : Leaf → PricedDay → Worth
worth_on leaf day = worth_between (slice_index leaf.prices day.need) (leaf.mu * day.power / one)

abbrev pub signed_worth : Worth → ℤ
signed_worth worth = pos worth.above -ℤ pos worth.below

-- a worth is at most 2
abbrev pub IsLightWorth : Worth → Type 0
IsLightWorth worth = worth.above + worth.below ≤ 2 * PRICE_SCALE

abbrev pub worth_at : List Worth → ℕ → Worth
worth_at worths place = slice_index_or worths place (record { above = 0; below = 0 })

-- what a cent on each of some days is worth, together
abbrev pub worth_together : List Worth → List ℕ → Worth
worth_together worths places = record {
  above = sum_by (λ place. (worth_at worths place).above) places;
  below = sum_by (λ place. (worth_at worths place).below) places;
}

-- a table of days: each day that it knows from its number after settlement is priced by the powers of a yield
pub record IsDayTable (n : ℕ) (book : BookContents) (table : DayTable) : Type 0 where
  pub powers : All (λ priced. priced.power ≤ one) table.days.items
  pub known : (after place : ℕ) (d : PricedDay) → slice_index_or table.places.items after None ≡ Some place
      → (place < length table.days.items) × IsPricedDay book (book.days.settle +ℤ pos after) (low n (index360_of book.days.settle (book.days.settle +ℤ pos after))) (slice_index_or table.days.items place d)

-- what is there stays where it is
abbrev pub Extends : {X : Type 0} → List X → List X → Type 0
Extends {X} days more = (length days ≤ length more) × ((place : ℕ) (d : X) → place < length days → slice_index_or more place d ≡ slice_index_or days place d)

-- the days that each of so many need dates prices: a list for each, of places of days, and a day that one of them prices is in its list
pub record AreDateDays (dates : ℕ) (days : List PricedDay) (lists : List DateDays) : Type 0 where
  pub every_date : length lists ≡ dates
  pub there : All (λ (list : DateDays). All (λ place. place < length days) list.places.items) lists
  pub listed : (place : ℕ) (d : PricedDay) (e : DateDays) → place < length days → (slice_index_or days place d).need < dates
      → Contains (slice_index_or lists (slice_index_or days place d).need e).places.items place

-- the day at a place is priced at a leaf
abbrev pub IsPriced : Leaf → List PricedDay → List Worth → ℕ → Type 0
IsPriced leaf days worths place = (d : PricedDay) → worth_at worths place ≡ worth_on leaf (slice_index_or days place d)

-- ---- columns
-- half a year's interest and nothing else, as most dates pay
abbrev pub is_regular : ScheduledPayment → Bool
is_regular payment = (payment.accrual.parts == 1) && ((payment.accrual.year == 2) && not payment.principal)

abbrev pub is_other : ScheduledPayment → Bool
is_other payment = not (is_regular payment)

-- whether the principal is paid with a payment
abbrev pub is_principal : ScheduledPayment → Bool
is_principal payment = payment.principal

-- whether a payment pays anything: the principal, or interest at a rate
abbrev pub pays_at : ℕ → ScheduledPayment → Bool
pays_at rate payment = payment.principal || not (rate == 0)

-- the payments of a line that pay anything: where it bears no interest, the principal alone
abbrev pub paying : PaymentDays → Line → List ScheduledPayment
paying days line = filter (pays_at (kind_rate line.kind)) (schedule_of days line)

abbrev pub regular_on : ℤ → ScheduledPayment
regular_on day = record { day = day; accrual = half_year_accrual; principal = false }

-- a payment of a kind falls on the day at a place
pub record IsPlace (n : ℕ) (book : BookContents) (kind : LineKind) (days : List PricedDay) (payment : ScheduledPayment) (place : ℕ) : Type 0 where
  pub there : place < length days
  pub priced : (d : PricedDay) → IsPricedDay book payment.day (kind_power n book.days.settle kind payment.day) (slice_index_or days place d)

-- another payment of a line, with its coefficients
pub record IsOther (n : ℕ) (book : BookContents) (line : Line) (days : List PricedDay) (payment : ScheduledPayment) (other : OtherPayment) : Type 0 where
  pub same : other.payment ≡ payment
  pub coefficients : other.coefficients ≡ pay_by (kind_rate line.kind) line.step payment
  pub place : IsPlace n book line.kind days payment other.place

-- a column is that of a line: the costs and the coefficients are the line's, and each payment of its schedule that pays anything
-- falls on the day at its place
pub record IsColumn (n : ℕ) (book : BookContents) (days : List PricedDay) (line : Line) (column : Column) : Type 0 where
  pub costs : cost_coefficients line ≡ record { low = column.cost_low; high = column.cost_high; slack = column.cost_slack }
  pub accrued : column.accrued ≡ kind_accrued line.kind
  pub regular : column.regular ≡ pay_by (kind_rate line.kind) line.step (regular_on book.days.settle)
  pub places : AllZip (IsPlace n book line.kind days) (filter is_regular (paying book.days line)) column.places.items
  pub others : AllZip (IsOther n book line days) (filter is_other (paying book.days line)) column.others.items

-- coefficients with room for their products
pub record IsSmallPay (pay : PayCoefficients) : Type 0 where
  pub low : pay.low ≤ 10 ^ 18
  pub high : pay.high ≤ 10 ^ 18
  pub slack : pay.slack ≤ 10 ^ 9

pub record IsSmallOther (other : OtherPayment) : Type 0 where
  pub coefficients : IsSmallPay other.coefficients
  pub short : IsShort other.payment.accrual

pub record IsSmallHead (column : Column) : Type 0 where
  pub cost_low : column.cost_low ≤ 10 ^ 18
  pub cost_high : column.cost_high ≤ 10 ^ 18
  pub cost_slack : column.cost_slack ≤ 10 ^ 9
  pub accrued : column.accrued.parts ≤ 184
  pub regular : IsSmallPay column.regular

pub record IsSmallColumn (column : Column) : Type 0 where
  pub head : IsSmallHead column
  pub others : All IsSmallOther column.others.items
  pub few : length column.places.items ≤ 84
  pub few_others : length column.others.items ≤ 84

-- what a line's column has before its payments
pub record HasHead (settle : ℤ) (line : Line) (column : Column) : Type 0 where
  pub costs : cost_coefficients line ≡ record { low = column.cost_low; high = column.cost_high; slack = column.cost_slack }
  pub accrued : column.accrued ≡ kind_accrued line.kind
  pub regular : column.regular ≡ pay_by (kind_rate line.kind) line.step (regular_on settle)
  pub small : IsSmallHead column

-- a payment that is put changes nothing of it
pub record KeepsHead (old new : Column) : Type 0 where
  pub cost_low : new.cost_low ≡ old.cost_low
  pub cost_high : new.cost_high ≡ old.cost_high
  pub cost_slack : new.cost_slack ≡ old.cost_slack
  pub accrued : new.accrued ≡ old.accrued
  pub regular : new.regular ≡ old.regular

-- another payment of a line at a place
abbrev pub other_by : Line → ScheduledPayment → ℕ → OtherPayment
other_by line payment place = record { place = place; payment = payment; coefficients = pay_by (kind_rate line.kind) line.step payment }

-- the form of the regular payments: what they are worth above nothing counts by the high coefficient, and below by the low one
abbrev pub regular_form : List Worth → Column → Form
regular_form worths column =
    let together = worth_together worths column.places.items in
    record {
      slope = pos (column.regular.low * together.below) -ℤ pos (column.regular.high * together.above);
      slack = column.regular.slack * (together.above + together.below);
    }

abbrev pub other_forms : List Worth → List OtherPayment → Form
other_forms worths others = record {
  slope = signed_sum (λ other. least_side (neg_ℤ (signed_worth (worth_at worths other.place))) other.coefficients.low other.coefficients.high) others;
  slack = sum_by (λ other. unsigned_abs (signed_worth (worth_at worths other.place)) * other.coefficients.slack) others;
}

abbrev pub form_plus : Form → Form → Form
form_plus first second = record { slope = first.slope +ℤ second.slope; slack = first.slack + second.slack }

-- the form of a column at worths, where a cent that it costs counts so much
abbrev pub column_form : ℤ → List Worth → Column → Form
column_form own worths column =
    form_plus (form_plus (record { slope = least_side own column.cost_low column.cost_high; slack = unsigned_abs own * column.cost_slack }) (regular_form worths column))
    (other_forms worths column.others.items)

-- what an amount pays at worths
abbrev pub others_paid : ℕ → ℕ → List Worth → List OtherPayment → ℤ
others_paid rate amount worths others = signed_sum (λ other. signed_worth (worth_at worths other.place) *ℤ pos (flow_by rate amount other.payment).cents.0) others

abbrev pub column_paid : ℕ → ℕ → List Worth → Column → ℤ
column_paid rate amount worths column =
    signed_worth (worth_together worths column.places.items) *ℤ pos (earned_of amount rate 1 2) +ℤ others_paid rate amount worths column.others.items

-- the reduced cost of an amount at worths, scaled
abbrev pub column_reduced : ℤ → ℕ → ℕ → ℕ → List Worth → Column → ℤ
column_reduced own rate cost amount worths column = pos COEFFICIENT_SCALE *ℤ (own *ℤ pos cost -ℤ column_paid rate amount worths column)

-- ---- series: days on which lines pay regularly, one behind another
-- a stop is the start of a series, or one of so many days
abbrev pub IsStopWithin : ℕ → Stop → Type 0
IsStopWithin days Start = Unit {0}
IsStopWithin days (Day place) = place < days

-- a run: days stand at the stops behind one, up to another
pub record IsRun (stops : List Stop) (places : List ℕ) (run : Run) : Type 0 where
  pub long : run.from + length places ≡ run.to
  pub there : run.to < length stops
  pub days : (k d : ℕ) (s : Stop) → k < length places → slice_index_or stops (run.from + 1 + k) s ≡ Day (slice_index_or places k d)

-- the run of a line has its regular days, where it is known
abbrev pub IsRunOf : List Stop → Column → Option Run → Type 0
IsRunOf stops column run = IfSome run (IsRun stops column.places.items)

-- what prices a stop: its day; and nothing, the start of a series
abbrev pub stop_day : ℕ → List PricedDay → Stop → PricedDay
stop_day dates days Start = record { need = dates; power = 0 }
stop_day dates days (Day place) = slice_index_or days place (record { need = dates; power = 0 })

-- the sum at a stop: a series starts at nothing, and a day adds to the sum before it what a cent on it is worth
abbrev pub sum_after : List Worth → Worth → Stop → Worth
sum_after worths before Start = record { above = 0; below = 0 }
sum_after worths before (Day place) = record { above = before.above + (worth_at worths place).above; below = before.below + (worth_at worths place).below }

-- the sum before a stop: nothing before the first
abbrev pub sum_before : List Worth → ℕ → Worth
sum_before sums zero = record { above = 0; below = 0 }
sum_before sums (suc stop) = worth_at sums stop

abbrev pub IsSummed : List Worth → List Stop → List Worth → ℕ → Type 0
IsSummed worths stops sums stop = (s : Stop) → worth_at sums stop ≡ sum_after worths (sum_before sums stop) (slice_index_or stops stop s)

-- sums are those of the worths of days, up to each stop
pub record AreSums (worths : List Worth) (stops : List Stop) (sums : List Worth) : Type 0 where
  pub every : length sums ≡ length stops
  pub summed : (stop : ℕ) → stop < length stops → IsSummed worths stops sums stop

-- sums with room for one more worth
abbrev pub AreSmallSums : List Worth → Type 0
AreSmallSums sums = (stop : ℕ) → stop < length sums → (worth_at sums stop).above + (worth_at sums stop).below ≤ (stop + 1) * (2 * PRICE_SCALE)

-- series are laid out for columns: a run of a line has its regular days, and each need date knows the stops that it prices
pub record IsLaid (dates : ℕ) (days : List PricedDay) (columns : List Column) (series : Series) : Type 0 where
  pub few : length series.stops.items ≤ 100_000
  pub there : All (IsStopWithin (length days)) series.stops.items
  pub runs : AllZip (IsRunOf series.stops.items) columns series.runs.items
  pub date_stops : AreDateDays dates (map (stop_day dates days) series.stops.items) series.date_stops.items

-- ---- the whole
-- a tableau is that of a book: it has a column for each line, its days are priced at its leaf, and their worths are summed up
-- along series
pub record IsTableau (book : BookContents) (tableau : Tableau) : Type 0 where
  pub limits : IsBook book
  pub leaf : IsLeaf (length book.needs) tableau.priced.leaf
  pub unweighted : tableau.priced.leaf.weights ≡ []
  pub powers : All (λ priced. priced.power ≤ one) tableau.days.items
  pub columns : AllZip (IsColumn tableau.yield_units.0 book tableau.days.items) book.lines tableau.columns.items
  pub small : All IsSmallColumn tableau.columns.items
  pub date_days : AreDateDays (length book.needs) tableau.days.items tableau.date_days.items
  pub worths : tableau.priced.worths.items ≡ map (worth_on tableau.priced.leaf) tableau.days.items
  pub series : IsLaid (length book.needs) tableau.days.items tableau.columns.items tableau.series
  pub sums : AreSums tableau.priced.worths.items tableau.series.stops.items tableau.priced.sums.items
  pub needs : tableau.priced.needs ≡ priced_needs book.needs tableau.priced.leaf.prices
