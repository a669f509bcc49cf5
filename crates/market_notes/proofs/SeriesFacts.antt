-- The dates on which a note pays.
use Rattle.std.proofs.Common.{arith, ℤ, inl, inr}
use Rattle.jiff_core.proofs.SignedLemmas.{signed_arith}
use Rattle.escrow_units.specs.Calendar.{IsBaseDay}
use Rattle.escrow_units.specs.DayNumber.{IsDayNumber}
use Rattle.escrow_units.specs.Series.{IsFirstAfter, IsLastBy}
use Rattle.escrow_units.specs.declared.security.StepRule.TheVariants as rule
use Rattle.escrow_units.proofs.FlowFacts.{cases_int_le}
use Rattle.escrow_units.proofs.SeriesAround.{IsNear}
use Rattle.escrow_units.proofs.SeriesFacts.{years_after_of-none}
use Rattle.escrow_units.proofs.YearFacts.{years_after_of-passes, settlement-base}
use Rattle.market_notes.specs.NoteLaws.{SettlesIn}
use Rattle.market_notes.specs.NoteTerms.{IsNote}
use Rattle.market_notes.specs.declared.note.Note.{Note}

-- where a note stands in its series
pub term : (note : Note) → IsNote note → IsNear note.maturity note.settle
term note h =
    let own : IsDayNumber note.settle = (omega (arith, signed_arith, h.settle.0), omega (arith, signed_arith, h.settle.1)) in
    let from : IsBaseDay note.settle = (h.settle.0, omega (arith, signed_arith, h.settle.1)) in
    let none = years_after_of-none note.settle own in
    let forty = years_after_of-passes note.settle 0 40 from (omega arith) in
    record {
      base = settlement-base note.settle note.maturity h.settle (omega (arith, signed_arith, h.after)) h.term;
      most = omega (arith, signed_arith, h.term, forty.most, none);
    }

-- settlement falls in the half-year between the dates around it
pub settles_in : (note : Note) (previous next : ℤ) → IsLastBy note.maturity rule.MonthEnd note.settle previous
    → IsFirstAfter note.maturity rule.MonthEnd note.settle next → SettlesIn note previous next
settles_in note previous next last first = record {
  first = last.series;
  last = first.series;
  begun = last.by;
  unpaid = first.after;
  between = λ day on. elim (cases_int_le day note.settle) [
    | inl by ↦ inl (last.last day on by)
    | inr late ↦ inr (first.first day on late)
  ];
}
