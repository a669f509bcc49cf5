use Rattle.market_notes.proofs.SeriesFacts.{term, settles_in}
use Rattle.market_notes.proofs.flows.dates_at.Goals as goal

pub dates_beside-requires : goal.dates_beside-requires
dates_beside-requires c =
    let t = term c.args.note.now c.requires in
    record { base = t.base; before = c.requires.after; near = t.most }

pub returns-clause-around : goal.returns-clause-around
returns-clause-around c = settles_in c.args.note.now c.dates_beside.result.previous c.dates_beside.result.next c.dates_beside.ensures.last c.dates_beside.ensures.first
