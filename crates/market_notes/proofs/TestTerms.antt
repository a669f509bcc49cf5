-- The notes of the tests keep their terms.
use Rattle.std.proofs.Common.{◌≡◌, ℕ, ◌≤◌, ◌≤ℤ◌, refl, arith, pos}
use Rattle.jiff_core.proofs.SignedLemmas.{signed_arith}
use Rattle.escrow_units.specs.Calendar.{date_of, years_after_of}
use Rattle.escrow_units.proofs.SeriesFacts.{years_after_of-none}
use Rattle.escrow_units.proofs.YearFacts.{years_after_of-passes}
use Rattle.escrow_units.specs.Flows.{index360_of}
use Rattle.market_notes.specs.NoteTerms.{IsNote}

-- a maturity up to 14,600 days after 2025-01-15
within : (n : ℕ) → n ≤ 34_703 → pos n ≤ℤ years_after_of (pos 20103) 40
within n few =
    let none = years_after_of-none (pos 20103) (omega (arith, signed_arith), omega (arith, signed_arith)) in
    let forty = years_after_of-passes (pos 20103) 0 40 (omega (arith, signed_arith), omega (arith, signed_arith)) (omega arith) in
    omega (arith, signed_arith, none, forty.least)

pub accruing : IsNote (record { settle = pos 20103; maturity = pos 22019; coupon = record { 0 = 4000 }; price = record { 0 = 9_951_562_500 }; cap = 200_000 })
unfolding date_of
accruing =
    let index : index360_of (pos 20103) (pos 22019) ≡ 1890 = refl in
    record {
      settle = (omega (arith, signed_arith), omega (arith, signed_arith));
      after = omega (arith, signed_arith);
      index = omega (arith, index);
      term = within 22019 (omega arith);
      coupon = omega arith;
      least_price = omega arith;
      most_price = omega arith;
    }

pub fresh : IsNote (record { settle = pos 20103; maturity = pos 20284; coupon = record { 0 = 4000 }; price = record { 0 = 10_000_000_000 }; cap = 200_000 })
unfolding date_of
fresh =
    let index : index360_of (pos 20103) (pos 20284) ≡ 180 = refl in
    record {
      settle = (omega (arith, signed_arith), omega (arith, signed_arith));
      after = omega (arith, signed_arith);
      index = omega (arith, index);
      term = within 20284 (omega arith);
      coupon = omega arith;
      least_price = omega arith;
      most_price = omega arith;
    }

pub of_february : IsNote (record { settle = pos 20103; maturity = pos 21973; coupon = record { 0 = 4000 }; price = record { 0 = 10_000_000_000 }; cap = 200_000 })
unfolding date_of
of_february =
    let index : index360_of (pos 20103) (pos 21973) ≡ 1843 = refl in
    record {
      settle = (omega (arith, signed_arith), omega (arith, signed_arith));
      after = omega (arith, signed_arith);
      index = omega (arith, index);
      term = within 21973 (omega arith);
      coupon = omega arith;
      least_price = omega arith;
      most_price = omega arith;
    }
