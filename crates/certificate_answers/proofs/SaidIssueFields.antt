-- What each row of ISSUE says, by the reader of its word.
use Rattle.std.proofs.Common.{◌≡◌, ◌∙◌, ℕ, refl, ap, subst, arith, Bool, true, false, List, length, ℤ, Some, Result, Ok}
use Rattle.std.specs.Prelude.{◌≤ℤ◌, int_lt, int_le, codes, ◌&&◌, pos}
use Rattle.std.proofs.lemmas.Int.{ints}
use Rattle.escrow_desk.specs.declared.refusal.RefusalKind.{RefusalKind}
use Rattle.escrow_desk.specs.declared.refusal.RefusalKind.TheVariants as kind
use Rattle.escrow_units.specs.Calendar.{years_after_of}
use Rattle.escrow_units.specs.DateText.{day_of}
use Rattle.escrow_units.specs.NumberText.{cents_of, count_of, rate_of, yield_of}
use Rattle.escrow_units.specs.PriceText.{price_of}
use Rattle.escrow_units.specs.SlgsTerms.{IsSettlement, is_settlement}
use Rattle.escrow_units.specs.declared.amount.Cents.{Cents}
use Rattle.escrow_units.specs.declared.amount.YieldUnits.{YieldUnits}
use Rattle.escrow_units.specs.declared.fault.NumberFault.{NumberFault}
use Rattle.escrow_units.specs.declared.security.Flow.{Flow}
use Rattle.row_fields.specs.RowForm.{Row, day_by_of, day_field_of, field_of, is_word, of_width, or_refused}
use Rattle.issue_schedule.specs.IssueForm.{bond_row_of, budget_row_of, call_row_of, cents_row_of, closed_row_of, first_settle_of, flow_row_of, settle_row_of, yield_row_of}
use Rattle.issue_schedule.specs.declared.issue.Bond.{Bond}
use Rattle.issue_schedule.specs.declared.issue.Call.{Call}
use Rattle.certificate_answers.specs.SaidIssue.{SaysBond, SaysCall, SaysClosed, SaysNeed, SaysPay, SaysSettle}
use Rattle.certificate_answers.specs.SaidRows.{SaysField, SaysLater}
use Rattle.certificate_answers.proofs.SaidRowFacts.{bound-ok, day-is, day-ok, found-ok, kept-ok, later-says, none_after, none_before, not_before, ok-is, test-ok, width-is, width-ok}

-- ---- a word and a field
field-says : {T : Type 0} (read : List ℕ → Result T NumberFault) (row : Row) (value : T) → of_width 2 row (or_refused (read (field_of row 1))) ≡ Ok value → SaysField read row value
field-says read row value e = let wide = width-ok 2 row (or_refused (read (field_of row 1))) value e in (wide.0, kept-ok (read (field_of row 1)) value wide.1)

says-field : {T : Type 0} (read : List ℕ → Result T NumberFault) (row : Row) (value : T) → SaysField read row value → of_width 2 row (or_refused (read (field_of row 1))) ≡ Ok value
says-field read row value says = width-is 2 row (or_refused (read (field_of row 1))) says.0 ∙ ap or_refused says.1

-- ---- each word
pub call-says : (settle : ℤ) (row : Row) (call : Call) → call_row_of (years_after_of settle 40) row ≡ Ok call → int_le call.day settle ≡ false → SaysCall settle row call
call-says settle row call e after =
    let wide = width-ok 3 row _ call e in
    let day = bound-ok (day_by_of (years_after_of settle 40) (field_of row 1)) _ call wide.1 in
    let price = bound-ok (or_refused (price_of (field_of row 2))) _ call day.rest in
    let made = ok-is RefusalKind (record { day = day.first; price = price.first }) call price.rest in
    let date : SaysLater settle (field_of row 1) call.day =
    later-says settle (field_of row 1) call.day (day.is ∙ ap (λ (own : Call). Ok own.day) made) after in
    (wide.0, date, kept-ok (price_of (field_of row 2)) price.first price.is ∙ ap (λ (own : Call). Ok own.price) made)

pub says-call : (settle : ℤ) (row : Row) (call : Call) → SaysCall settle row call → (call_row_of (years_after_of settle 40) row ≡ Ok call) × (int_le call.day settle ≡ false)
says-call settle row call says =
    let day = day-is (years_after_of settle 40) (field_of row 1) call.day says.1.0 says.1.1.by in
    (width-is 3 row _ says.0 ∙ rw (day, says.2) refl, none_after call.day settle says.1.1.after)

pub bond-says : (settle : ℤ) (row : Row) (bond : Bond) → bond_row_of (years_after_of settle 40) row ≡ Ok bond → int_le bond.maturity settle ≡ false → SaysBond settle row bond
bond-says settle row bond e after =
    let wide = width-ok 4 row _ bond e in
    let maturity = bound-ok (day_by_of (years_after_of settle 40) (field_of row 1)) _ bond wide.1 in
    let principal = bound-ok (or_refused (cents_of (field_of row 2))) _ bond maturity.rest in
    let coupon = bound-ok (or_refused (rate_of (field_of row 3))) _ bond principal.rest in
    let made = ok-is RefusalKind (record { maturity = maturity.first; principal = principal.first; coupon = coupon.first }) bond coupon.rest in
    let date : SaysLater settle (field_of row 1) bond.maturity =
    later-says settle (field_of row 1) bond.maturity (maturity.is ∙ ap (λ (own : Bond). Ok own.maturity) made) after in (
      wide.0,
      date,
      kept-ok (cents_of (field_of row 2)) principal.first principal.is ∙ ap (λ (own : Bond). Ok own.principal) made,
      kept-ok (rate_of (field_of row 3)) coupon.first coupon.is ∙ ap (λ (own : Bond). Ok own.coupon) made,
    )

pub says-bond : (settle : ℤ) (row : Row) (bond : Bond) → SaysBond settle row bond → (bond_row_of (years_after_of settle 40) row ≡ Ok bond) × (int_le bond.maturity settle ≡ false)
says-bond settle row bond says =
    let day = day-is (years_after_of settle 40) (field_of row 1) bond.maturity says.1.0 says.1.1.by in
    (width-is 4 row _ says.0 ∙ rw (day, says.2, says.3) refl, none_after bond.maturity settle says.1.1.after)

-- a date and an amount
record IsFlowBy (last : ℤ) (row : Row) (flow : Flow) : Type 0 where
  width : length row ≡ 3
  day : day_by_of last (field_of row 1) ≡ Ok flow.day
  cents : cents_of (field_of row 2) ≡ Ok flow.cents

flow-says : (last : ℤ) (row : Row) (flow : Flow) → flow_row_of last row ≡ Ok flow → IsFlowBy last row flow
flow-says last row flow e =
    let wide = width-ok 3 row _ flow e in
    let day = bound-ok (day_by_of last (field_of row 1)) _ flow wide.1 in
    let cents = bound-ok (or_refused (cents_of (field_of row 2))) _ flow day.rest in
    let made = ok-is RefusalKind (record { day = day.first; cents = cents.first }) flow cents.rest in
    record {
      width = wide.0;
      day = day.is ∙ ap (λ (own : Flow). Ok own.day) made;
      cents = kept-ok (cents_of (field_of row 2)) cents.first cents.is ∙ ap (λ (own : Flow). Ok own.cents) made;
    }

says-flow : (last : ℤ) (row : Row) (flow : Flow) → IsFlowBy last row flow → flow_row_of last row ≡ Ok flow
says-flow last row flow says = width-is 3 row _ says.width ∙ rw (says.day, says.cents) refl

pub need-says : (settle : ℤ) (row : Row) (need : Flow) → flow_row_of (years_after_of settle 40) row ≡ Ok need → int_lt need.day settle ≡ false → SaysNeed settle row need
need-says settle row need e from =
    let says = flow-says (years_after_of settle 40) row need e in
    let day = day-ok (years_after_of settle 40) (field_of row 1) need.day says.day in
    (says.width, day.says, not_before need.day settle from, day.by, says.cents)

pub says-need : (settle : ℤ) (row : Row) (need : Flow) → SaysNeed settle row need → (flow_row_of (years_after_of settle 40) row ≡ Ok need) × (int_lt need.day settle ≡ false)
says-need settle row need says =
    let day = day-is (years_after_of settle 40) (field_of row 1) need.day says.1 says.3 in
    (says-flow (years_after_of settle 40) row need (record { width = says.0; day = day; cents = says.4 }), none_before need.day settle says.2)

pub pay-says : (settle : ℤ) (row : Row) (pay : Flow) → flow_row_of (years_after_of settle 40) row ≡ Ok pay → int_le pay.day settle ≡ false → SaysPay settle row pay
pay-says settle row pay e after =
    let says = flow-says (years_after_of settle 40) row pay e in
    (says.width, later-says settle (field_of row 1) pay.day says.day after, says.cents)

pub says-pay : (settle : ℤ) (row : Row) (pay : Flow) → SaysPay settle row pay → (flow_row_of (years_after_of settle 40) row ≡ Ok pay) × (int_le pay.day settle ≡ false)
says-pay settle row pay says =
    let day = day-is (years_after_of settle 40) (field_of row 1) pay.day says.1.0 says.1.1.by in
    (says-flow (years_after_of settle 40) row pay (record { width = says.0; day = day; cents = says.2 }), none_after pay.day settle says.1.1.after)

pub closed-says : (settle : ℤ) (row : Row) (day : ℤ) → closed_row_of (years_after_of settle 40) row ≡ Ok day → int_le day settle ≡ false → SaysClosed settle row day
closed-says settle row day e after =
    let wide = width-ok 2 row (day_by_of (years_after_of settle 40) (field_of row 1)) day e in
    (wide.0, later-says settle (field_of row 1) day wide.1 after)

pub says-closed : (settle : ℤ) (row : Row) (day : ℤ) → SaysClosed settle row day → (closed_row_of (years_after_of settle 40) row ≡ Ok day) × (int_le day settle ≡ false)
says-closed settle row day says =
    (width-is 2 row _ says.0 ∙ day-is (years_after_of settle 40) (field_of row 1) day says.1.0 says.1.1.by, none_after day settle says.1.1.after)

pub cents-says : (row : Row) (cents : Cents) → cents_row_of row ≡ Ok cents → SaysField cents_of row cents
cents-says row cents e = field-says cents_of row cents e

pub says-cents : (row : Row) (cents : Cents) → SaysField cents_of row cents → cents_row_of row ≡ Ok cents
says-cents row cents says = says-field cents_of row cents says

pub yield-says : (row : Row) (units : YieldUnits) → yield_row_of row ≡ Ok units → SaysField yield_of row units
yield-says row units e = field-says yield_of row units e

pub says-yield : (row : Row) (units : YieldUnits) → SaysField yield_of row units → yield_row_of row ≡ Ok units
says-yield row units says = says-field yield_of row units says

pub budget-says : (row : Row) (budget : ℕ) → budget_row_of row ≡ Ok budget → SaysField count_of row budget
budget-says row budget e = field-says count_of row budget e

pub says-budget : (row : Row) (budget : ℕ) → SaysField count_of row budget → budget_row_of row ≡ Ok budget
says-budget row budget says = says-field count_of row budget says

-- ---- row 1
and-both : (a b : Bool) → (a && b) ≡ true → (a ≡ true) × (b ≡ true)
and-both true true e = (refl, refl)
and-both true false e = absurd (cc)
and-both false b e = absurd (cc)

reached : (a b : ℤ) → int_le a b ≡ true → a ≤ℤ b
reached a b h = grind (arith, ints)

tested : (a b : ℤ) → a ≤ℤ b → int_le a b ≡ true
tested a b h = grind (arith, ints)

in-range : (day : ℤ) → is_settlement day ≡ true → IsSettlement day
in-range day e =
    let both = and-both (int_le (pos 10_957) day) (int_le day (pos 65_744)) e in
    (reached (pos 10_957) day both.0, reached day (pos 65_744) both.1)

in-test : (day : ℤ) → IsSettlement day → is_settlement day ≡ true
in-test day is = rw (tested (pos 10_957) day is.0, tested day (pos 65_744) is.1) refl

pub settle-says : (row : Row) (day : ℤ) → first_settle_of row ≡ Ok day → SaysSettle row day
settle-says row day e =
    let named = test-ok (is_word (codes "settle") (field_of row 0)) (settle_row_of row) kind.Missing day e in
    let wide = width-ok 2 row _ day named.1 in
    let read = bound-ok (day_field_of (field_of row 1)) _ day wide.1 in
    let tested = test-ok (is_settlement read.first) (Ok read.first) kind.OutOfRange day read.rest in
    let same = ok-is RefusalKind read.first day tested.1 in
    (named.0, wide.0, found-ok (day_of (field_of row 1)) read.first read.is ∙ ap (λ (own : ℤ). Some own) same, subst IsSettlement same (in-range read.first tested.0))

pub says-settle : (row : Row) (day : ℤ) → SaysSettle row day → first_settle_of row ≡ Ok day
says-settle row day says = rw says.0 (width-is 2 row _ says.1 ∙ rw (says.2, in-test day says.3) refl)
