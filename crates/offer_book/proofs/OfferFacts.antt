-- What the lines of a rate file's offers are, and what a refusal of them says.
use Rattle.std.proofs.Common.{◌≡◌, ◌∙◌, ℕ, zero, suc, ◌+◌, ◌*◌, ◌/◌, ◌<◌, ◌≤◌, refl, sym, ap, arith, length, drop, List, [], ◌∷◌, ◌++◌, append-nil, drop-cons, get_or, ℤ, ◌≤ℤ◌, Bool, true, false, if◌then◌else◌, inl, inr, ◌⊎◌, Option, None, Some, Result, Ok, Err}
use Rattle.std.specs.Prelude.{All, IsSomeAnd, int_le}
use Rattle.std.specs.List.{AllZip}
use Rattle.std.proofs.Math.ListN.{drop_of_length-le}
use Rattle.std.proofs.Math.Nat.{mul-le-mul_right}
use Rattle.std.proofs.lemmas.Bool.{cases_lt}
use Rattle.std.proofs.lemmas.Int.{ints}
use Rattle.std.proofs.lemmas.List.{append_assoc}
use Rattle.std.proofs.lemmas.List.Elements.{All-nil, All-cons, All-head, All-tail, All-contains, All-weaker}
use Rattle.escrow_desk.specs.declared.refusal.CaseError.{CaseError}
use Rattle.escrow_desk.specs.declared.refusal.CaseError.TheVariants.{Refused, NoMemory}
use Rattle.escrow_desk.specs.declared.refusal.FileKind.{FileKind}
use Rattle.escrow_desk.specs.declared.refusal.FileKind.TheVariants.{Rates}
use Rattle.escrow_desk.specs.declared.refusal.Refusal.{Refusal}
use Rattle.escrow_desk.specs.declared.refusal.RefusalKind.{RefusalKind}
use Rattle.escrow_desk.specs.declared.refusal.RefusalKind.TheVariants as kind
use Rattle.escrow_units.specs.Calendar.{years_after_of}
use Rattle.escrow_units.specs.Denomination.{AreTerms}
use Rattle.escrow_units.specs.OpenDays.{IsBy2190, open_day}
use Rattle.escrow_units.specs.SlgsTerms.{IsSettlement, IsSlgs}
use Rattle.escrow_units.specs.declared.amount.Rate.{Rate}
use Rattle.escrow_units.specs.declared.security.AskedRate.{AskedRate}
use Rattle.escrow_units.specs.declared.security.AskedRate.TheVariants as asked
use Rattle.escrow_units.specs.declared.security.Slgs.{Slgs}
use Rattle.escrow_units.specs.declared.security.Terms.{Terms}
use Rattle.escrow_units.proofs.YearFacts.{settlement-base}
use Rattle.row_fields.specs.RowForm.{◌>>=◌, Answers, answer_of_row, refusal_of}
use Rattle.slgs_rules.specs.Classification.{classified}
use Rattle.slgs_rules.specs.TermRules.{HasRate, IsAnswer, rate_of}
use Rattle.slgs_rules.specs.declared.fault.RuleFault.{RuleFault}
use Rattle.slgs_rules.specs.declared.fault.RuleFault.TheVariants as fault
use Rattle.slgs_rules.proofs.ClassificationFacts.{classified-answer}
use Rattle.slgs_rules.proofs.RuleFacts.{subscription-terms}
use Rattle.rate_table.specs.Table.{IsAsked, IsOffer, IsRange, IsRateFile, maximum_of}
use Rattle.rate_table.specs.declared.table.Offer.{Offer}
use Rattle.rate_table.specs.declared.table.RateFile.{RateFile}
use Rattle.rate_table.specs.declared.table.RateRange.{RateRange}
use Rattle.rate_table.proofs.LookupFacts.{look}
use Rattle.offer_book.specs.Book.{EndsInTime, IsSecurity, IsSecurityLine, OpensInTime}
use Rattle.offer_book.specs.Denominations.{IsDenominated, line_of}
use Rattle.offer_book.specs.Offers.{AreLinesOf, BreaksRule, IsFirstFaulty, IsLineOf, IsSoldAs, OpensTooLate, ending_in_time, line_or_refused, lines_of_terms, offered_line, offered_lines, request_of, rule_kind, slgs_lines_of}
use Rattle.offer_book.specs.declared.line.Line.{Line}
use Rattle.offer_book.specs.declared.line.LineKind.{LineKind}
use Rattle.offer_book.specs.declared.line.LineKind.TheVariants.{Security}
use Rattle.offer_book.specs.declared.payment_days.PaymentDays.{PaymentDays}

-- what is answered for a line whose maturity may open too late
pub record IsInTime (days : PaymentDays) (maturity : ℤ) (own line : Line) : Type 0 where
  pub in_time : OpensInTime days maturity
  pub is : line ≡ own

pub ending-ok : (days : PaymentDays) (maturity : ℤ) (file : FileKind) (row : ℕ) (own line : Line)
    → answer_of_row file row (ending_in_time days maturity own) ≡ Ok line → IsInTime days maturity own line
ending-ok days maturity file row own line e = at (int_le (open_day days.closed maturity) (years_after_of days.settle 40)) refl e
  where
    at : (t : Bool) → int_le (open_day days.closed maturity) (years_after_of days.settle 40) ≡ t
        → answer_of_row file row (if t then Ok own else Err kind.ClosedPastEnd) ≡ Ok line → IsInTime days maturity own line
    at true is e = record { in_time = grind (arith, ints); is = cc }
    at false is e = absurd (cc)

pub ending-kept : (days : PaymentDays) (maturity : ℤ) (own : Line) → OpensInTime days maturity → ending_in_time days maturity own ≡ Ok own
ending-kept days maturity own in_time =
    let test : int_le (open_day days.closed maturity) (years_after_of days.settle 40) ≡ true = grind (arith, ints) in
    ap (λ (t : Bool). if t then Ok own else Err kind.ClosedPastEnd) test

pub record IsPastEnd (days : PaymentDays) (maturity : ℤ) (file : FileKind) (row : ℕ) (refusal : Refusal) : Type 0 where
  pub late : ¬ OpensInTime days maturity
  pub says : refusal ≡ refusal_of file row kind.ClosedPastEnd

pub ending-err : (days : PaymentDays) (maturity : ℤ) (file : FileKind) (row : ℕ) (own : Line) (refusal : Refusal)
    → answer_of_row file row (ending_in_time days maturity own) ≡ Err refusal → IsPastEnd days maturity file row refusal
ending-err days maturity file row own refusal e = at (int_le (open_day days.closed maturity) (years_after_of days.settle 40)) refl e
  where
    at : (t : Bool) → int_le (open_day days.closed maturity) (years_after_of days.settle 40) ≡ t
        → answer_of_row file row (if t then Ok own else Err kind.ClosedPastEnd) ≡ Err refusal → IsPastEnd days maturity file row refusal
    at true is e = absurd (cc)
    at false is e = record { late = λ in_time. absurd (grind (arith, ints)); says = cc }

-- a security that an offer is sold as, and its line
record IsSold (days : PaymentDays) (ranges : List RateRange) (terms : Terms) (offer : Offer) (line : Line) : Type 0 where
  slgs : Slgs
  sold : IsSoldAs days ranges offer slgs
  is : line ≡ line_of terms (Security slgs) offer.cap

-- what is wrong with an offer, and its refusal
record IsBroken (days : PaymentDays) (ranges : List RateRange) (offer : Offer) (refusal : Refusal) : Type 0 where
  name : RefusalKind
  fault : BreaksRule days.settle ranges offer name ⊎ OpensTooLate days ranges offer name
  says : refusal ≡ refusal_of Rates offer.row name

sold-ok : (days : PaymentDays) (ranges : List RateRange) (terms : Terms) (offer : Offer) (line : Line) (answer : Result Slgs RuleFault)
    → IsAnswer (request_of days.settle ranges offer) answer
    → answer_of_row Rates offer.row (line_or_refused days terms offer.cap answer) ≡ Ok line → IsSold days ranges terms offer line
sold-ok days ranges terms offer line (Ok slgs) rules e =
    let ends = ending-ok days slgs.maturity Rates offer.row (line_of terms (Security slgs) offer.cap) line e in
    record { slgs = slgs; sold = record { rules = rules; in_time = ends.in_time }; is = ends.is }
sold-ok days ranges terms offer line (Err broken) fault e = absurd (cc)

sold-err : (days : PaymentDays) (ranges : List RateRange) (terms : Terms) (offer : Offer) (refusal : Refusal) (answer : Result Slgs RuleFault)
    → IsAnswer (request_of days.settle ranges offer) answer
    → answer_of_row Rates offer.row (line_or_refused days terms offer.cap answer) ≡ Err refusal → IsBroken days ranges offer refusal
sold-err days ranges terms offer refusal (Ok slgs) rules e =
    let ends = ending-err days slgs.maturity Rates offer.row (line_of terms (Security slgs) offer.cap) refusal e in
    record { name = kind.ClosedPastEnd; fault = inr (record { slgs = slgs; rules = rules; late = ends.late; is_name = refl }); says = ends.says }
sold-err days ranges terms offer refusal (Err broken) fault e =
    record { name = rule_kind broken; fault = inl (record { broken = broken; fault = fault; is_name = refl }); says = cc }

offered-ok : (days : PaymentDays) (ranges : List RateRange) (terms : Terms) (offer : Offer) (line : Line) → IsSettlement days.settle
    → offered_line days ranges terms offer ≡ Ok line → IsSold days ranges terms offer line
offered-ok days ranges terms offer line h e =
    sold-ok days ranges terms offer line (classified (request_of days.settle ranges offer)) (classified-answer (request_of days.settle ranges offer) h) e

offered-err : (days : PaymentDays) (ranges : List RateRange) (terms : Terms) (offer : Offer) (refusal : Refusal) → IsSettlement days.settle
    → offered_line days ranges terms offer ≡ Err refusal → IsBroken days ranges offer refusal
offered-err days ranges terms offer refusal h e =
    sold-err days ranges terms offer refusal (classified (request_of days.settle ranges offer)) (classified-answer (request_of days.settle ranges offer) h) e

-- the open day of a maturity can be asked
pub maturity-by : (settle maturity : ℤ) → IsSettlement settle → settle ≤ℤ maturity → maturity ≤ℤ years_after_of settle 40 → IsBy2190 maturity
maturity-by settle maturity h after within = (settlement-base settle maturity h after within).1

pub slgs-by : (settle : ℤ) (slgs : Slgs) → IsSettlement settle → slgs.settle ≡ settle → IsSlgs slgs → IsBy2190 slgs.maturity
slgs-by settle slgs h same is =
    maturity-by slgs.settle slgs.maturity (rw same h) (omega (arith, ints, is.least)) is.most

-- rates of the table are at most 30 percent
most-small : (ranges : List RateRange) (day : ℤ) (rate : Rate) → All IsRange ranges → maximum_of ranges day ≡ Some rate → rate.0 ≤ 30_000
most-small ranges day rate h e = elim (look ranges day) [
  | inl found ↦
      let limit = (All-contains IsRange ranges found.range h found.found.among).rate.limit in
      let same : found.range.most ≡ rate = cc (sym found.is ∙ e) in
      rw same at limit
  | inr none ↦ absurd (cc (sym none.is ∙ e))
]

borne-small : (asked : AskedRate) (most : Option Rate) (ranges : List RateRange) (day : ℤ) → All IsRange ranges → maximum_of ranges day ≡ most
    → IsAsked asked → HasRate asked most → (rate_of asked most).0 ≤ 30_000
borne-small (asked.At rate) most ranges day h e is has = is.limit
borne-small asked.Max (Some most) ranges day h e is has = most-small ranges day most h e
borne-small asked.Max None ranges day h e is has = absurd has

pub denominated : (terms : Terms) (bought : LineKind) (cap : ℕ) → AreTerms terms → IsDenominated terms cap (line_of terms bought cap)
denominated terms bought cap h =
    let some : 1 ≤ terms.step = h.step.0 in
    record {
      step = refl;
      least = omega (arith, h.multiple);
      most = omega arith;
      greatest = omega arith;
    }

-- a product above 0 has no factor 0
factor-positive : (n step product : ℕ) → n * step ≡ product → 1 ≤ product → 1 ≤ n
factor-positive zero step product e some = omega arith
factor-positive (suc n) step product e some = omega arith

-- the least number of steps that is at most the greatest within a cap
steps-ordered : (n most step cap : ℕ) → n * step ≤ cap → cap < (most + 1) * step → n ≤ most
steps-ordered n most step cap within above = elim (cases_lt most n) [
  | inl more ↦ absurd (omega (arith, mul-le-mul_right step more))
  | inr at_most ↦ at_most
]

pub security-line : (days : PaymentDays) (terms : Terms) (bought : LineKind) (cap : ℕ) → AreTerms terms → terms.minimum ≤ cap → cap ≤ 1_000_000_000
    → IsSecurity days bought → EndsInTime days bought → IsSecurityLine days (line_of terms bought cap)
security-line days terms bought cap h least most security ends =
    let d = denominated terms bought cap h in
    record {
      security = security;
      ends = ends;
      whole_dollars = omega arith;
      step_at_least = omega (arith, h.step.0);
      step_at_most = omega (arith, h.step.1);
      least = factor-positive (terms.minimum / terms.step) terms.step terms.minimum d.least h.minimum.0;
      least_purchase = omega (arith, d.least, h.minimum.1);
      ordered = steps-ordered (terms.minimum / terms.step) (cap / terms.step) terms.step cap (omega (arith, d.least)) d.greatest;
      cap = omega (arith, d.most);
    }

-- the lines of one offer's file: the rules and the limits of one line
record IsSoundLine (days : PaymentDays) (file : RateFile) (offer : Offer) (line : Line) : Type 0 where
  rules : IsLineOf days file offer line
  security : IsSecurityLine days line

sold-sound : (days : PaymentDays) (file : RateFile) (terms : Terms) (offer : Offer) (line : Line) → IsSettlement days.settle → file.terms ≡ Some terms → AreTerms terms
    → All IsRange file.ranges → IsOffer terms offer → IsSold days file.ranges terms offer line → IsSoundLine days file offer line
sold-sound days file terms offer line h stated good ranges is sold =
    let rules = sold.sold.rules in
    let small : sold.slgs.rate.0 ≤ 30_000 =
    rw rules.rate (borne-small offer.rate (maximum_of file.ranges offer.maturity) file.ranges offer.maturity ranges refl is.rate (rules.keeps fault.NoRate)) in
    let security : IsSecurity days (Security sold.slgs) =
    (rules.settle, subscription-terms (request_of days.settle file.ranges offer) sold.slgs h rules, small) in
    record {
      rules = record {
        slgs = sold.slgs;
        security = rw sold.is refl;
        sold = sold.sold;
        terms = terms;
        stated = stated;
        denominated = rw sold.is (denominated terms (Security sold.slgs) offer.cap good);
      };
      security = rw sold.is (security-line days terms (Security sold.slgs) offer.cap good is.least is.most security sold.sold.in_time);
    }

-- what a bind of answers came from
pub record IsBound {T U E : Type 0} (answer : Result T E) (next : T → Result U E) (value : U) : Type 0 where
  pub first : T
  pub is : answer ≡ Ok first
  pub rest : next first ≡ Ok value

pub bound-ok : {T U E : Type 0} (answer : Result T E) (next : T → Result U E) (value : U) → (answer >>= next) ≡ Ok value → IsBound answer next value
bound-ok (Ok first) next value e = record { first = first; is = refl; rest = e }
bound-ok (Err refusal) next value e = absurd (cc)

pub record IsRefusedNext {T U E : Type 0} (answer : Result T E) (next : T → Result U E) (refusal : E) : Type 0 where
  pub first : T
  pub is : answer ≡ Ok first
  pub rest : next first ≡ Err refusal

pub bound-err : {T U E : Type 0} (answer : Result T E) (next : T → Result U E) (refusal : E) → (answer >>= next) ≡ Err refusal
    → (answer ≡ Err refusal) ⊎ IsRefusedNext answer next refusal
bound-err (Ok first) next refusal e = inr (record { first = first; is = refl; rest = e })
bound-err (Err other) next refusal e = let same : other ≡ refusal = cc in inl (ap (λ name. Err name) same)

-- the lines of offers that all are sold
record AreSound (days : PaymentDays) (file : RateFile) (offers : List Offer) (lines : List Line) : Type 0 where
  rules : AllZip (IsLineOf days file) offers lines
  securities : All (IsSecurityLine days) lines

lines-sound : (days : PaymentDays) (file : RateFile) (terms : Terms) (offers : List Offer) (lines : List Line) → IsSettlement days.settle → file.terms ≡ Some terms → AreTerms terms
    → All IsRange file.ranges → All (IsOffer terms) offers → offered_lines days file.ranges terms offers ≡ Ok lines → AreSound days file offers lines
lines-sound days file terms [] lines h stated good ranges are e =
    let none : lines ≡ [] = cc in
    rw none (record { rules = tt; securities = All-nil (IsSecurityLine days) })
lines-sound days file terms (offer ∷ offers) lines h stated good ranges are e =
    let one = bound-ok (offered_line days file.ranges terms offer) (λ line. offered_lines days file.ranges terms offers >>= (λ lines. Ok (line ∷ lines))) lines e in
    let more = bound-ok (offered_lines days file.ranges terms offers) (λ lines. Ok (one.first ∷ lines)) lines one.rest in
    let sound = sold-sound days file terms offer one.first h stated good ranges (All-head (IsOffer terms) offer offers are)
    (offered-ok days file.ranges terms offer one.first h one.is) in
    let rest = lines-sound days file terms offers more.first h stated good ranges (All-tail (IsOffer terms) offer offers are) more.is in
    let all : lines ≡ one.first ∷ more.first = cc (more.rest) in
    rw all (record {
      rules = (sound.rules, rest.rules);
      securities = All-cons (IsSecurityLine days) one.first more.first sound.security rest.securities;
    })

-- the first of offers that is refused
record IsRefusedAt (days : PaymentDays) (ranges : List RateRange) (offers : List Offer) (refusal : Refusal) : Type 0 where
  before : List Offer
  offer : Offer
  after : List Offer
  place : offers ≡ before ++ offer ∷ after
  sold : All (λ earlier. (slgs : Slgs) × IsSoldAs days ranges earlier slgs) before
  is : IsBroken days ranges offer refusal

lines-refused : (days : PaymentDays) (ranges : List RateRange) (terms : Terms) (offers : List Offer) (refusal : Refusal) → IsSettlement days.settle
    → offered_lines days ranges terms offers ≡ Err refusal → IsRefusedAt days ranges offers refusal
lines-refused days ranges terms [] refusal h e = absurd (cc)
lines-refused days ranges terms (offer ∷ offers) refusal h e =
    elim (bound-err (offered_line days ranges terms offer) (λ line. offered_lines days ranges terms offers >>= (λ lines. Ok (line ∷ lines))) refusal e) [
      | inl here ↦ record {
        before = [];
        offer = offer;
        after = offers;
        place = refl;
        sold = All-nil (λ earlier. (slgs : Slgs) × IsSoldAs days ranges earlier slgs);
        is = offered-err days ranges terms offer refusal h here;
      }
      | inr next ↦ elim (bound-err (offered_lines days ranges terms offers) (λ lines. Ok (next.first ∷ lines)) refusal next.rest) [
        | inl later ↦
            let at = lines-refused days ranges terms offers refusal h later in
            let sold = offered-ok days ranges terms offer next.first h next.is in
            record {
              before = offer ∷ at.before;
              offer = at.offer;
              after = at.after;
              place = ap (λ rest. offer ∷ rest) at.place;
              sold = All-cons (λ earlier. (slgs : Slgs) × IsSoldAs days ranges earlier slgs) offer at.before (sold.slgs, sold.sold) at.sold;
              is = at.is;
            }
        | inr never ↦ absurd (cc (never.rest))
      ]
    ]

offers-of : (terms : Option Terms) (offer : Offer) (t : Terms) → terms ≡ Some t → IsSomeAnd terms (λ terms. IsOffer terms offer) → IsOffer t offer
offers-of terms offer t e is = rw e at is

-- a file without terms has no offers
none-sound : (days : PaymentDays) (file : RateFile) (offers : List Offer) → All (λ offer. IsSomeAnd {T = Terms} None (λ terms. IsOffer terms offer)) offers
    → AreSound days file offers []
none-sound days file [] are = record { rules = tt; securities = All-nil (IsSecurityLine days) }
none-sound days file (offer ∷ offers) are = absurd (All-head (λ offer. IsSomeAnd {T = Terms} None (λ terms. IsOffer terms offer)) offer offers are)

file-sound : (days : PaymentDays) (file : RateFile) (terms : Option Terms) (lines : List Line) → IsSettlement days.settle → IsRateFile file → file.terms ≡ terms
    → lines_of_terms days terms file.ranges file.offers ≡ Ok lines → AreSound days file file.offers lines
file-sound days file None lines h is stated e =
    let none : lines ≡ [] = cc in
    rw none (none-sound days file file.offers (rw stated at is.offers))
file-sound days file (Some terms) lines h is stated e =
    lines-sound days file terms file.offers lines h stated (rw stated at is.terms) is.ranges
    (All-weaker _ (IsOffer terms) (λ offer good. offers-of file.terms offer terms stated good) file.offers is.offers) e

file-refused : (days : PaymentDays) (file : RateFile) (terms : Option Terms) (refusal : Refusal) → IsSettlement days.settle
    → lines_of_terms days terms file.ranges file.offers ≡ Err refusal → IsFirstFaulty days file refusal
file-refused days file None refusal h e = absurd (cc)
file-refused days file (Some terms) refusal h e =
    let at = lines-refused days file.ranges terms file.offers refusal h e in
    record {
      before = at.before;
      offer = at.offer;
      after = at.after;
      place = at.place;
      sold = at.sold;
      name = at.is.name;
      fault = at.is.fault;
      says = at.is.says;
    }

pub lines-keep_rules : (days : PaymentDays) (file : RateFile) (lines : List Line) → IsSettlement days.settle → IsRateFile file → slgs_lines_of days file ≡ Ok lines
    → AreLinesOf days file lines × All (IsSecurityLine days) lines
unfolding slgs_lines_of
lines-keep_rules days file lines h is e =
    let sound = file-sound days file file.terms lines h is refl e in
    (sound.rules, sound.securities)

pub refusals-name_first_fault : (days : PaymentDays) (file : RateFile) (refusal : Refusal) → IsSettlement days.settle → IsRateFile file
    → slgs_lines_of days file ≡ Err refusal → IsFirstFaulty days file refusal
unfolding slgs_lines_of
refusals-name_first_fault days file refusal h is e = file-refused days file file.terms refusal h e

-- the lines of the first offers, and then those of the rest from a place on
abbrev pub IsSoldUpTo : PaymentDays → List RateRange → Terms → List Offer → ℕ → List Line → Type 0
IsSoldUpTo days ranges terms offers at lines =
    offered_lines days ranges terms offers ≡ (offered_lines days ranges terms (drop at offers) >>= (λ more. Ok (lines ++ more)))

rest-at : (days : PaymentDays) (ranges : List RateRange) (terms : Terms) (offers : List Offer) (at : ℕ) (offer : Offer) → at < length offers → offer ≡ get_or offers at offer
    → drop at offers ≡ offer ∷ drop (at + 1) offers
rest-at days ranges terms offers at offer short is =
    let e : drop at offers ≡ get_or offers at offer ∷ drop (suc at) offers = drop-cons offers at offer short in
    let next : suc at ≡ at + 1 = omega arith in
    rw (e, next, ← is) refl

refused-at : (days : PaymentDays) (ranges : List RateRange) (terms : Terms) (offers : List Offer) (at : ℕ) (lines : List Line) (offer : Offer) (refusal : Refusal)
    → at < length offers → offer ≡ get_or offers at offer → IsSoldUpTo days ranges terms offers at lines → offered_line days ranges terms offer ≡ Err refusal
    → offered_lines days ranges terms offers ≡ Err refusal
refused-at days ranges terms offers at lines offer refusal short is sold e =
    rw (rest-at days ranges terms offers at offer short is, e) at sold

-- a bind of what is put before more
pub bound-push : {T E : Type 0} (answer : Result (List T) E) (xs : List T) (x : T)
    → ((answer >>= (λ rest. Ok (x ∷ rest))) >>= (λ more. Ok (xs ++ more))) ≡ (answer >>= (λ more. Ok ((xs ++ x ∷ []) ++ more)))
bound-push (Ok rest) xs x = ap (λ all. Ok all) (sym (append_assoc xs (x ∷ []) rest))
bound-push (Err refusal) xs x = refl

-- one offer more
pub sold_more : (days : PaymentDays) (ranges : List RateRange) (terms : Terms) (offers : List Offer) (at : ℕ) (lines grown : List Line) (offer : Offer) (line : Line)
    → at < length offers → offer ≡ get_or offers at offer → IsSoldUpTo days ranges terms offers at lines → offered_line days ranges terms offer ≡ Ok line
    → grown ≡ lines ++ line ∷ [] → IsSoldUpTo days ranges terms offers (at + 1) grown
sold_more days ranges terms offers at lines grown offer line short is sold e more =
    let one = rw (rest-at days ranges terms offers at offer short is, e) at sold in
    rw more (one ∙ bound-push (offered_lines days ranges terms (drop (at + 1) offers)) lines line)

pub all-sold : (days : PaymentDays) (ranges : List RateRange) (terms : Terms) (offers : List Offer) (at : ℕ) (lines : List Line) → length offers ≤ at
    → IsSoldUpTo days ranges terms offers at lines → offered_lines days ranges terms offers ≡ Ok lines
all-sold days ranges terms offers at lines long sold =
    rw (drop_of_length-le offers long, append-nil lines) at sold

-- the lines of a file with terms are those of its offers
pub file-lines : (days : PaymentDays) (file : RateFile) (terms : Terms) (answer : Result (List Line) Refusal) → file.terms ≡ Some terms
    → offered_lines days file.ranges terms file.offers ≡ answer → slgs_lines_of days file ≡ answer
unfolding slgs_lines_of
file-lines days file terms answer stated e = rw stated e

-- and a file without terms has none
pub no-lines : (days : PaymentDays) (file : RateFile) → file.terms ≡ None → slgs_lines_of days file ≡ Ok []
unfolding slgs_lines_of
no-lines days file stated = rw stated refl

-- where an offer is refused, or memory ran out at it, so it is for the file
pub refused-answers : (days : PaymentDays) (file : RateFile) (terms : Terms) (at : ℕ) (lines : List Line) (offer : Offer) (error : CaseError) → file.terms ≡ Some terms
    → at < length file.offers → offer ≡ get_or file.offers at offer → IsSoldUpTo days file.ranges terms file.offers at lines
    → Answers {T = Line} (Err error) (offered_line days file.ranges terms offer) → Answers {T = List Line} (Err error) (slgs_lines_of days file)
refused-answers days file terms at lines offer (Refused refusal) stated short is sold e =
    file-lines days file terms (Err refusal) stated (refused-at days file.ranges terms file.offers at lines offer refusal short is sold e)
refused-answers days file terms at lines offer NoMemory stated short is sold e = tt

pub zipped-length : {A B : Type 0} (R : A → B → Type 0) (xs : List A) (ys : List B) → AllZip R xs ys → length ys ≡ length xs
zipped-length R [] [] h = refl
zipped-length R [] (y ∷ ys) h = absurd h
zipped-length R (x ∷ xs) [] h = absurd h
zipped-length R (x ∷ xs) (y ∷ ys) h = ap suc (zipped-length R xs ys h.1)

-- each offer has one line
pub lines-count : (days : PaymentDays) (file : RateFile) (lines : List Line) → AreLinesOf days file lines → length lines ≡ length file.offers
lines-count days file lines h = zipped-length (IsLineOf days file) file.offers lines h
