-- What rows say keeps the limits of what is read.
use Rattle.std.proofs.Common.{◌≡◌, ◌∙◌, ℕ, ◌≤◌, refl, sym, subst, arith, Bool, true, false, List, [], ◌∷◌, ℤ, Option, Some, None, Result, Ok, Err}
use Rattle.std.specs.Prelude.{◌==◌, ◌&&◌, ◌%◌, All, IfSome, IsSomeAnd, nat_le, if◌then◌else◌, codes, option_to_list}
use Rattle.std.specs.List.{AllZip, enumerate_from, filter}
use Rattle.std.proofs.lemmas.Bool.Decides.{nat_tests}
use Rattle.std.proofs.lemmas.List.Elements.{All-nil, All-cons, All-head}
use Rattle.escrow_units.specs.DateText.{IsFieldDay}
use Rattle.escrow_units.specs.Denomination.{AreTerms, IsDenomination, and_then, cap_of, denomination_of, multiple_terms, terms_of}
use Rattle.escrow_units.specs.NumberText.{cents_of, count_of, decimal_of, dollars_of, ranged, rate_of, whole_of, yield_of}
use Rattle.escrow_units.specs.PriceText.{price_of, price_units_of}
use Rattle.escrow_units.specs.SlgsTerms.{IsSettlement}
use Rattle.escrow_units.specs.declared.amount.Cents.{Cents}
use Rattle.escrow_units.specs.declared.amount.Price8.{Price8}
use Rattle.escrow_units.specs.declared.amount.Rate.{Rate}
use Rattle.escrow_units.specs.declared.amount.YieldUnits.{YieldUnits}
use Rattle.escrow_units.specs.declared.fault.NumberFault.{NumberFault}
use Rattle.escrow_units.specs.declared.fault.NumberFault.TheVariants.{OutOfRange, PriceRange}
use Rattle.escrow_units.specs.declared.limits.TheConstants.{AMOUNT_LIMIT, GREATEST_GIVEN_YIELD, GREATEST_PRICE, GREATEST_RATE, LEAST_PRICE}
use Rattle.escrow_units.specs.declared.security.AskedRate.{AskedRate}
use Rattle.escrow_units.specs.declared.security.AskedRate.TheVariants.{At, Max}
use Rattle.escrow_units.specs.declared.security.Flow.{Flow}
use Rattle.escrow_units.specs.declared.security.Terms.{Terms}
use Rattle.escrow_units.proofs.TextFacts.{text-day_of}
use Rattle.row_fields.specs.RowForm.{Row, field_of, is_word}
use Rattle.issue_schedule.specs.IssueRows.{IsBudget}
use Rattle.issue_schedule.specs.IssueTerms.{IsBond, IsCall, IsDirect, IsIssue, IsLater, IsPay, IsRestricted}
use Rattle.issue_schedule.specs.declared.issue.Issue.{Issue}
use Rattle.issue_schedule.specs.declared.issue.Restricted.{Restricted}
use Rattle.issue_schedule.specs.declared.issue.Restricted.TheVariants.{Given, Computed}
use Rattle.rate_table.specs.Table.{IsAsked, IsOffer, IsRange, IsRateFile, IsTableRate}
use Rattle.rate_table.specs.declared.table.Offer.{Offer}
use Rattle.rate_table.specs.declared.table.RateFile.{RateFile}
use Rattle.rate_table.specs.declared.table.RateRange.{RateRange}
use Rattle.market_notes.specs.NoteTerms.{IsNoteFile, IsOffered}
use Rattle.market_notes.specs.declared.note.Note.{Note}
use Rattle.market_notes.specs.declared.note.NoteFile.{NoteFile}
use Rattle.certificate_answers.specs.SaidIssue.{AreIssueRows, IsIssueOf, IsRestrictedBy, SaysBond, SaysCall, SaysClosed, SaysNeed, SaysPay}
use Rattle.certificate_answers.specs.SaidPrices.{IsNoteFileOf, SaysNote}
use Rattle.certificate_answers.specs.SaidRates.{IsRateFileOf, SaysAsked, SaysDate, SaysHundredths, SaysOffer, SaysRange}
use Rattle.certificate_answers.specs.SaidRows.{Say, SaysField, SaysOnce}
use Rattle.certificate_answers.proofs.SaidRowFacts.{ok, ok-is, test-ok}

-- ---- fields
record IsRanged {T : Type 0} (make : ℕ → T) (least most : ℕ) (value : T) : Type 0 where
  number : ℕ
  made : make number ≡ value
  low : least ≤ number
  high : number ≤ most

in-range : {T : Type 0} (make : ℕ → T) (least most : ℕ) (outside : NumberFault) (number : Option ℕ) (value : T) → ranged make least most outside number ≡ Ok value → IsRanged make least most value
in-range make least most outside None value e = absurd (cc)
in-range make least most outside (Some n) value e = by (nat_le least n) (nat_le n most) refl refl (test-ok (nat_le least n && nat_le n most) (Ok (make n)) outside value e)
  where
    by : (s t : Bool) → nat_le least n ≡ s → nat_le n most ≡ t → ((nat_le least n && nat_le n most) ≡ true) × (ok NumberFault (make n) ≡ Ok value) → IsRanged make least most value
    by true true low high own = record { number = n; made = ok-is NumberFault (make n) value own.1; low = grind (arith, nat_tests); high = grind (arith, nat_tests) }
    by true false low high own = absurd (let clash : (nat_le least n && nat_le n most) ≡ false = rw (low, high) refl in let both = sym clash ∙ own.0 in cc)
    by false t low high own = absurd (let clash : (nat_le least n && nat_le n most) ≡ false = rw low refl in let both = sym clash ∙ own.0 in cc)

cents-within : (field : List ℕ) (cents : Cents) → cents_of field ≡ Ok cents → cents.0 ≤ AMOUNT_LIMIT
unfolding cents_of
cents-within field cents e =
    let own = in-range (λ n. record { 0 = n }) 0 AMOUNT_LIMIT OutOfRange (decimal_of 15 2 field) cents e in
    subst (λ (c : Cents). c.0 ≤ AMOUNT_LIMIT) own.made own.high

rate-within : (field : List ℕ) (rate : Rate) → rate_of field ≡ Ok rate → rate.0 ≤ GREATEST_RATE
unfolding rate_of
rate-within field rate e =
    let own = in-range (λ n. record { 0 = n }) 0 GREATEST_RATE OutOfRange (decimal_of 3 3 field) rate e in
    subst (λ (c : Rate). c.0 ≤ GREATEST_RATE) own.made own.high

yield-within : (field : List ℕ) (units : YieldUnits) → yield_of field ≡ Ok units → units.0 ≤ GREATEST_GIVEN_YIELD
unfolding yield_of
yield-within field units e =
    let own = in-range (λ n. record { 0 = n }) 0 GREATEST_GIVEN_YIELD OutOfRange (decimal_of 3 8 field) units e in
    subst (λ (c : YieldUnits). c.0 ≤ GREATEST_GIVEN_YIELD) own.made own.high

price-within : (field : List ℕ) (price : Price8) → price_of field ≡ Ok price → (LEAST_PRICE ≤ price.0) × (price.0 ≤ GREATEST_PRICE)
unfolding price_of
price-within field price e =
    let own = in-range (λ n. record { 0 = n }) LEAST_PRICE GREATEST_PRICE PriceRange (price_units_of field) price e in
    subst (λ (c : Price8). (LEAST_PRICE ≤ c.0) × (c.0 ≤ GREATEST_PRICE)) own.made (own.low, own.high)

count-within : (field : List ℕ) (count : ℕ) → count_of field ≡ Ok count → IsBudget count
unfolding count_of
count-within field count e =
    let own = in-range (λ n. n) 1 10_000 OutOfRange (whole_of 6 field) count e in
    subst IsBudget own.made (record { least = own.low; most = own.high })

denomination-within : (field : List ℕ) (dollars : ℕ) → denomination_of field ≡ Ok dollars → IsDenomination dollars
unfolding denomination_of
denomination-within field dollars e =
    let own = in-range (λ n. n) 1 1_000_000 OutOfRange (whole_of 15 field) dollars e in
    subst IsDenomination own.made (own.low, own.high)

dollars-within : (field : List ℕ) (dollars : ℕ) → dollars_of field ≡ Ok dollars → dollars ≤ 1_000_000_000
unfolding dollars_of
dollars-within field dollars e =
    let own = in-range (λ n. n) 1 1_000_000_000 OutOfRange (whole_of 15 field) dollars e in
    subst (λ n. n ≤ 1_000_000_000) own.made own.high

record IsThen {T U : Type 0} (next : T → Result U NumberFault) (answer : Result T NumberFault) (value : U) : Type 0 where
  first : T
  is : answer ≡ Ok first
  rest : next first ≡ Ok value

then-ok : {T U : Type 0} (next : T → Result U NumberFault) (answer : Result T NumberFault) (value : U) → and_then next answer ≡ Ok value → IsThen next answer value
then-ok next (Ok first) value e = record { first = first; is = refl; rest = e }
then-ok next (Err fault) value e = absurd (cc)

terms-within : (minimum step : List ℕ) (terms : Terms) → terms_of minimum step ≡ Ok terms → AreTerms terms
unfolding terms_of
terms-within minimum step terms e =
    let least = then-ok (λ m. and_then (multiple_terms m) (denomination_of step)) (denomination_of minimum) terms e in
    let own = then-ok (multiple_terms least.first) (denomination_of step) terms least.rest in
    let tested = test-ok (least.first % own.first == 0) (Ok (record { minimum = least.first; step = own.first })) OutOfRange terms own.rest in
    let even : least.first % own.first ≡ 0 = grind (arith, nat_tests) in
    subst AreTerms (ok-is NumberFault (record { minimum = least.first; step = own.first }) terms tested.1)
    (record { minimum = denomination-within minimum least.first least.is; step = denomination-within step own.first own.is; multiple = even })

cap-within : (terms : Terms) (field : List ℕ) (cap : ℕ) → cap_of terms field ≡ Ok cap → (terms.minimum ≤ cap) × (cap ≤ 1_000_000_000)
unfolding cap_of
cap-within terms field cap e =
    let dollars = then-ok (λ own. if nat_le terms.minimum own then Ok own else Err OutOfRange) (dollars_of field) cap e in
    let tested = test-ok (nat_le terms.minimum dollars.first) (Ok dollars.first) OutOfRange cap dollars.rest in
    let least : terms.minimum ≤ dollars.first = grind (arith, nat_tests) in
    subst (λ n. (terms.minimum ≤ n) × (n ≤ 1_000_000_000)) (ok-is NumberFault dollars.first cap tested.1) (least, dollars-within field dollars.first dollars.is)

-- ---- what is said of each
each-said : {A T : Type 0} (Says : A → T → Type 0) (P : T → Type 0) → ((row : A) (value : T) → Says row value → P value) → (rows : List A) (values : List T) → AllZip Says rows values → All P values
each-said Says P keeps rows [] says = All-nil P
each-said Says P keeps [] (value ∷ values) says = absurd says
each-said Says P keeps (row ∷ rows) (value ∷ values) says = All-cons P value values (keeps row value says.0) (each-said Says P keeps rows values says.1)

all-keep : {T : Type 0} (word : List ℕ) (Says : ℕ → Row → T → Type 0) (P : T → Type 0) → ((number : ℕ) (row : Row) (value : T) → Says number row value → P value) → (rows : List (ℕ × Row)) (values : List T)
    → Say word Says rows values → All P values
all-keep word Says P keeps rows values says =
    each-said (λ row value. Says row.0 row.1 value) P (λ row value own. keeps row.0 row.1 value own) (filter (λ row. is_word word (field_of row.1 0)) rows) values says

if-kept : {T : Type 0} (P : T → Type 0) (found : Option T) → All P (option_to_list found) → IfSome found P
if-kept P None all = tt
if-kept P (Some value) all = All-head P value [] all

once-kept : {T : Type 0} (word : List ℕ) (Says : ℕ → Row → T → Type 0) (P : T → Type 0) → ((number : ℕ) (row : Row) (value : T) → Says number row value → P value) → (rows : List (ℕ × Row)) (otherwise value : T)
    → P otherwise → SaysOnce word Says rows otherwise value → P value
once-kept word Says P keeps rows otherwise value own (None, says, is) = subst P (sym is) own
once-kept word Says P keeps rows otherwise value own (Some found, says, is) = subst P (sym is) (if-kept P (Some found) (all-keep word Says P keeps rows (found ∷ []) says))

-- ---- the issue
restricted-kept : (rows : List (ℕ × Row)) (pays : List Flow) (restricted : Restricted) → IsRestrictedBy rows pays restricted → IsRestricted restricted
restricted-kept rows pays (Given units) by =
    if-kept (λ (u : YieldUnits). u.0 ≤ GREATEST_GIVEN_YIELD) (Some units)
    (all-keep (codes "restricted") (λ _. SaysField yield_of) (λ (u : YieldUnits). u.0 ≤ GREATEST_GIVEN_YIELD) (λ n row value own. yield-within (field_of row 1) value own.1) rows (units ∷ []) by.0)
restricted-kept rows pays (Computed number price) by = (
  by.2,
  if-kept (λ (c : Cents). c.0 ≤ AMOUNT_LIMIT) (Some price)
      (all-keep (codes "price") (λ n row cents. (n ≡ number) × SaysField cents_of row cents) (λ (c : Cents). c.0 ≤ AMOUNT_LIMIT) (λ n row value own. cents-within (field_of row 1) value own.1.1) rows (price ∷ []) by.1),
)

issue-keeps : (rows : List (ℕ × Row)) (issue : Issue) → IsSettlement issue.settle → AreIssueRows rows issue → IsIssue issue
issue-keeps rows issue settle says = record {
  needs = record {
    settle = settle;
    call =
        if-kept (IsCall issue.settle) issue.call
        (all-keep (codes "call") (λ _. SaysCall issue.settle) (IsCall issue.settle)
        (λ n row call own. let price = price-within (field_of row 2) call.price own.2 in record { day = own.1.1; least = price.0; most = price.1 }) rows (option_to_list issue.call) says.call);
    bonds =
        all-keep (codes "bond") (λ _. SaysBond issue.settle) (IsBond issue.settle)
        (λ n row bond own. record { maturity = own.1.1; principal = cents-within (field_of row 2) bond.principal own.2; coupon = rate-within (field_of row 3) bond.coupon own.3 }) rows issue.bonds says.bonds;
    direct =
        all-keep (codes "need") (λ _. SaysNeed issue.settle) (IsDirect issue.settle)
        (λ n row need own. record { from = own.2; by = own.3; cents = cents-within (field_of row 2) need.cents own.4 }) rows issue.direct says.direct;
    limit = says.small;
  };
  dates = says.few;
  cash = once-kept (codes "cash") (λ _. SaysField cents_of) (λ (c : Cents). c.0 ≤ AMOUNT_LIMIT) (λ n row value own. cents-within (field_of row 1) value own.1) rows (record { 0 = 0 }) issue.cash (omega arith) says.cash;
  restricted = restricted-kept rows issue.pays issue.restricted says.restricted;
  pays =
      all-keep (codes "pay") (λ _. SaysPay issue.settle) (IsPay issue.settle)
      (λ n row pay own. record { day = own.1.1; cents = cents-within (field_of row 2) pay.cents own.2 }) rows issue.pays says.pays;
  pays_limit = says.small_pays;
  allowance = once-kept (codes "allowance") (λ _. SaysField cents_of) (λ (c : Cents). c.0 ≤ AMOUNT_LIMIT) (λ n row value own. cents-within (field_of row 1) value own.1) rows (record { 0 = 0 }) issue.allowance (omega arith) says.allowance;
  budget = once-kept (codes "budget") (λ _. SaysField count_of) IsBudget (λ n row value own. count-within (field_of row 1) value own.1) rows 1_000 issue.budget (record { least = omega arith; most = omega arith }) says.budget;
  closed = record {
    few = says.few_closed;
    days = all-keep (codes "closed") (λ _. SaysClosed issue.settle) (IsLater issue.settle) (λ n row day own. own.1.1) rows issue.closed.days says.closed;
  };
}

pub issue_kept : (rows : List Row) (issue : Issue) → IsIssueOf rows issue → IsIssue issue
issue_kept [] issue says = absurd says
issue_kept (first ∷ rows) issue says = issue-keeps (enumerate_from 2 rows) issue says.0.3 says.1

-- ---- the rates
hundredths-kept : (field : List ℕ) (rate : Rate) → SaysHundredths field rate → IsTableRate rate
hundredths-kept field rate says = record { limit = rate-within field rate says.0; hundredths = says.1 }

asked-kept : (field : List ℕ) (asked : AskedRate) → SaysAsked field asked → IsAsked asked
asked-kept field Max says = tt
asked-kept field (At rate) says = hundredths-kept field rate says

date-kept : (field : List ℕ) (day : Option ℤ) → SaysDate field day → IfSome day IsFieldDay
date-kept field None says = tt
date-kept field (Some day) says = (text-day_of field day says).0

offer-kept : (terms : Terms) (number : ℕ) (row : Row) (offer : Offer) → SaysOffer terms number row offer → IsOffer terms offer
offer-kept terms number row offer own =
    let cap = cap-within terms (field_of row 4) offer.cap own.5 in
    record {
      maturity = (text-day_of (field_of row 1) offer.maturity own.2).0;
      rate = asked-kept (field_of row 2) offer.rate own.3;
      first = date-kept (field_of row 3) offer.first own.4;
      least = cap.0;
      most = cap.1;
    }

range-kept : (number : ℕ) (row : Row) (range : RateRange) → SaysRange row range → IsRange range
range-kept number row range own = record {
  from = (text-day_of (field_of row 1) range.from own.1).0;
  to = (text-day_of (field_of row 2) range.to own.2).0;
  order = own.3;
  rate = hundredths-kept (field_of row 3) range.most own.4;
}

pub rates_kept : (rows : List Row) (file : RateFile) → IsRateFileOf rows file → IsRateFile file
rates_kept [] file says = subst IsRateFile (sym says) (record {
  terms = tt;
  ranges = All-nil IsRange;
  apart = λ i j d less more. absurd (omega (arith, more));
  offers = All-nil (λ offer. IsSomeAnd None (λ terms. IsOffer terms offer));
})
rates_kept (first ∷ rows) file (terms, row, says) = record {
  terms = subst (λ (t : Option Terms). IfSome t AreTerms) (sym says.stated) (terms-within (field_of first 1) (field_of first 2) terms row.2);
  ranges = all-keep (codes "rate") (λ _. SaysRange) IsRange range-kept (enumerate_from 2 rows) file.ranges says.ranges;
  apart = says.apart;
  offers =
      subst (λ (t : Option Terms). All (λ offer. IsSomeAnd t (λ own. IsOffer own offer)) file.offers) (sym says.stated)
      (all-keep (codes "offer") (SaysOffer terms) (λ offer. IsSomeAnd (Some terms) (λ own. IsOffer own offer)) (λ n r offer own. offer-kept terms n r offer own) (enumerate_from 2 rows) file.offers says.offers);
}

-- ---- the notes
note-kept : (settle : ℤ) (terms : Terms) (row : Row) (note : Note) → IsSettlement settle → SaysNote settle terms row note → IsOffered settle terms note
note-kept settle terms row note good own =
    let price = price-within (field_of row 3) note.price own.6 in
    let cap = cap-within terms (field_of row 4) note.cap own.7 in
    record {
      note = record {
        settle = subst IsSettlement (sym own.2) good;
        after = rw own.2 own.3.1.after;
        index = rw own.2 own.4;
        term = rw own.2 own.3.1.by;
        coupon = rate-within (field_of row 2) note.coupon own.5;
        least_price = price.0;
        most_price = price.1;
      };
      settle = own.2;
      least = cap.0;
      most = cap.1;
    }

pub notes_kept : (settle : ℤ) (rows : List Row) (file : NoteFile) → IsSettlement settle → IsNoteFileOf settle rows file → IsNoteFile settle file
notes_kept settle [] file good says = subst (IsNoteFile settle) (sym says) (record { terms = tt; notes = All-nil (λ note. IsSomeAnd None (λ terms. IsOffered settle terms note)) })
notes_kept settle (first ∷ rows) file good (terms, row, stated, says) = record {
  terms = subst (λ (t : Option Terms). IfSome t AreTerms) (sym stated) (terms-within (field_of first 1) (field_of first 2) terms row.2);
  notes =
      subst (λ (t : Option Terms). All (λ note. IsSomeAnd t (λ own. IsOffered settle own note)) file.notes) (sym stated)
      (each-said (SaysNote settle terms) (λ note. IsSomeAnd (Some terms) (λ own. IsOffered settle own note)) (λ r note own. note-kept settle terms r note good own) rows file.notes says);
}
