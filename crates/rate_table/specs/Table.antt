-- Tables of rates by ranges of days, and the offers of one file. The rows are this project's own.
use Rattle.std.specs.Prelude.{◌≡◌, ◌%◌, ◌≤◌, ◌≤ℤ◌, int_le, ⊤, Bool, false, ◌&&◌, List, All, AllPairs, Option, option_map, find, IfSome, IsSomeAnd, ℤ}
use Rattle.escrow_units.specs.DateText.{IsFieldDay}
use Rattle.escrow_units.specs.Denomination.{AreTerms}
use Rattle.escrow_units.specs.declared.amount.Rate.{Rate}
use Rattle.escrow_units.specs.declared.security.AskedRate.{AskedRate}
use Rattle.escrow_units.specs.declared.security.AskedRate.TheVariants.{Max, At}
use Rattle.escrow_units.specs.declared.security.Terms.{Terms}
use Rattle.rate_table.specs.declared.table.RateRange.{RateRange}
use Rattle.rate_table.specs.declared.table.Offer.{Offer}
use Rattle.rate_table.specs.declared.table.RateFile.{RateFile}

-- whether a range holds a day: both its ends are days of it
abbrev pub holds : ℤ → RateRange → Bool
holds day range = int_le range.from day && int_le day range.to

-- whether two ranges have a day in common
abbrev pub overlap : RateRange → RateRange → Bool
overlap a b = int_le a.from b.to && int_le b.from a.to

-- no two ranges have a day in common
abbrev pub AreApart : List RateRange → Type 0
AreApart ranges = AllPairs (λ a b. overlap a b ≡ false) ranges

-- the greatest rate for a maturity: that of the range that holds the day
abbrev pub maximum_of : List RateRange → ℤ → Option Rate
maximum_of ranges maturity = option_map (λ range. range.most) (find (holds maturity) ranges)

-- a rate of the table: whole hundredths of a percentage point, at most 30 percent
pub record IsTableRate (rate : Rate) : Type 0 where
  pub limit : rate.0 ≤ 30_000
  pub hundredths : rate.0 % 10 ≡ 0

-- a range of days in their order, and its rate
pub record IsRange (range : RateRange) : Type 0 where
  pub from : IsFieldDay range.from
  pub to : IsFieldDay range.to
  pub order : range.from ≤ℤ range.to
  pub rate : IsTableRate range.most

-- the greatest rate, or a rate of the table
abbrev pub IsAsked : AskedRate → Type 0
IsAsked Max = ⊤
IsAsked (At rate) = IsTableRate rate

-- an offer with a cap of at least the minimum
pub record IsOffer (terms : Terms) (offer : Offer) : Type 0 where
  pub maturity : IsFieldDay offer.maturity
  pub rate : IsAsked offer.rate
  pub first : IfSome offer.first IsFieldDay
  pub least : terms.minimum ≤ offer.cap
  pub most : offer.cap ≤ 1_000_000_000

-- what each file that is read keeps; a file without terms has no offers
pub record IsRateFile (file : RateFile) : Type 0 where
  pub terms : IfSome file.terms AreTerms
  pub ranges : All IsRange file.ranges
  pub apart : AreApart file.ranges
  pub offers : All (λ offer. IsSomeAnd file.terms (λ terms. IsOffer terms offer)) file.offers
