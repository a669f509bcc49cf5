-- What is bought at a cap can be subscribed for.
use Rattle.std.proofs.Common.{◌≡◌, ◌∙◌, ℕ, refl, sym, ap, subst, arith, ℤ, pos, ◌+ℤ◌, ◌≤ℤ◌, List, Option, Some, None}
use Rattle.escrow_units.specs.SlgsTerms.{shortest_term}
use Rattle.escrow_units.specs.declared.amount.Rate.{Rate}
use Rattle.escrow_units.specs.declared.security.AskedRate.{AskedRate}
use Rattle.escrow_units.specs.declared.security.AskedRate.TheVariants.{At, Max}
use Rattle.escrow_units.specs.declared.security.Slgs.{Slgs}
use Rattle.escrow_units.specs.declared.security.Terms.{Terms}
use Rattle.rate_table.specs.Table.{maximum_of}
use Rattle.rate_table.specs.declared.table.Offer.{Offer}
use Rattle.rate_table.specs.declared.table.RateFile.{RateFile}
use Rattle.rate_table.specs.declared.table.RateRange.{RateRange}
use Rattle.slgs_rules.specs.TermRules.{HasRate, IsSubscription, IsWithinTable, Keeps, rate_of}
use Rattle.slgs_rules.specs.declared.fault.RuleFault.{RuleFault}
use Rattle.slgs_rules.specs.declared.fault.RuleFault.TheVariants as fault
use Rattle.offer_book.specs.Denominations.{IsDenominated}
use Rattle.offer_book.specs.Offers.{IsLineOf, request_of}
use Rattle.offer_book.specs.declared.line.Line.{Line}
use Rattle.offer_book.specs.declared.line.LineKind.TheVariants.{Security}
use Rattle.offer_book.specs.declared.payment_days.PaymentDays.{PaymentDays}
use Rattle.rate_cap.proofs.CaseFacts.{shorter, sooner}
use Rattle.rate_cap.specs.CaseAt.{CapsKeepRules, asking, kind_at, lesser, line_at}

rated : (asked : AskedRate) (most : Option Rate) (own cap : Rate) → own ≡ rate_of asked most → HasRate asked most → HasRate (At (lesser own cap)) most
rated asked (Some greatest) own cap is has = tt
rated (At rate) None own cap is has =
    let none : own.0 ≡ 0 = ap (λ (other : Rate). other.0) is ∙ has in
    omega (arith, none)
rated Max None own cap is has = absurd has

within : (asked : AskedRate) (most : Option Rate) (own cap : Rate) → own ≡ rate_of asked most → IsWithinTable asked most
    → IsWithinTable (At (lesser own cap)) most
within asked None own cap is has = tt
within asked (Some greatest) own cap is has =
    let own_is : own.0 ≡ (rate_of asked (Some greatest)).0 = ap (λ (other : Rate). other.0) is in
    omega (arith, own_is, has)

longer : (settle maturity : ℤ) (given own cap : Rate) → own ≡ given → (settle +ℤ pos (shortest_term given.0)) ≤ℤ maturity
    → (settle +ℤ pos (shortest_term (lesser own cap).0)) ≤ℤ maturity
longer settle maturity given own cap is has =
    let least : (settle +ℤ pos (shortest_term own.0)) ≤ℤ maturity =
    subst (λ (other : Rate). (settle +ℤ pos (shortest_term other.0)) ≤ℤ maturity) (sym is) has in
    sooner settle maturity (shortest_term (lesser own cap).0) (shortest_term own.0) (shorter (lesser own cap).0 own.0 (omega arith)) least

subscribed : (settle : ℤ) (ranges : List RateRange) (offer : Offer) (own : Slgs) (cap : Rate) → IsSubscription (request_of settle ranges offer) own
    → IsSubscription (request_of settle ranges (asking (lesser own.rate cap) offer)) (record own { rate = lesser own.rate cap })
subscribed settle ranges offer own cap is = record {
  keeps = keeps;
  settle = is.settle;
  maturity = is.maturity;
  rate = refl;
  kind = is.kind;
  first = is.first;
}
  where
    keeps : (rule : RuleFault) → Keeps (request_of settle ranges (asking (lesser own.rate cap) offer)) rule
    keeps fault.NoRate = rated offer.rate (maximum_of ranges offer.maturity) own.rate cap is.rate (is.keeps fault.NoRate)
    keeps fault.RateAboveTable = within offer.rate (maximum_of ranges offer.maturity) own.rate cap is.rate (is.keeps fault.RateAboveTable)
    keeps fault.TooShort = longer settle offer.maturity (rate_of offer.rate (maximum_of ranges offer.maturity)) own.rate cap is.rate (is.keeps fault.TooShort)
    keeps fault.TooLong = is.keeps fault.TooLong
    keeps fault.FirstDate = is.keeps fault.FirstDate

denominated : (terms : Terms) (most : ℕ) (line : Line) (cap : Rate) → IsDenominated terms most line → IsDenominated terms most (line_at cap line)
denominated terms most line cap is = record { step = is.step; least = is.least; most = is.most; greatest = is.greatest }

own-line : (days : PaymentDays) (file : RateFile) (offer : Offer) (line : Line) (cap : Rate) (is : IsLineOf days file offer line)
    → IsLineOf days file (asking (lesser is.slgs.rate cap) offer) (line_at cap line)
own-line days file offer line cap is = record {
  slgs = record is.slgs { rate = lesser is.slgs.rate cap };
  security = ap (kind_at cap) is.security;
  sold = record { rules = subscribed days.settle file.ranges offer is.slgs cap is.sold.rules; in_time = is.sold.in_time };
  terms = is.terms;
  stated = is.stated;
  denominated = denominated is.terms offer.cap line cap is.denominated;
}

pub caps-keep_rules : CapsKeepRules
caps-keep_rules days file offer line slgs cap is kind =
    let one : Security is.slgs ≡ Security slgs = sym is.security ∙ kind in
    let same : is.slgs ≡ slgs = cc in
    subst (λ (own : Slgs). IsLineOf days file (asking (lesser own.rate cap) offer) (line_at cap line)) same (own-line days file offer line cap is)
