use Rattle.std.proofs.Common.{arith, subst, sym, ℤ, ◌≤ℤ◌}
use Rattle.std.specs.Prelude.{All}
use Rattle.std.proofs.lemmas.List.Elements.{All-weaker}
use Rattle.jiff_core.proofs.SignedLemmas.{signed_arith}
use Rattle.escrow_units.specs.OpenDays.{IsBy2190}
use Rattle.market_notes.specs.NoteFlows.{payment_dates}
use Rattle.market_notes.proofs.FlowFacts.{dates-by}
use Rattle.market_notes.proofs.SeriesFacts.{term}
use Rattle.market_notes.proofs.flows.dates_of.Goals as goal

pub series_around-requires : goal.series_around-requires
series_around-requires c =
    let t = term c.args.note.now c.requires in
    record { base = t.base; before = c.requires.after; near = t.most }

pub returns-clause-by : goal.returns-clause-by
returns-clause-by c =
    let t = term c.args.note.now c.requires in
    subst (All IsBy2190) (sym c.series_around.ensures.after)
    (All-weaker (λ (date : ℤ). date ≤ℤ c.args.note.now.maturity) IsBy2190 (λ date by. omega (arith, signed_arith, by, t.base.1)) (payment_dates c.args.note.now) (dates-by c.args.note.now t))
