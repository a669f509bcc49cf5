use Rattle.std.proofs.Common.{ap, arith}
use Rattle.escrow_units.specs.declared.interest.Accrual.{Accrual}
use Rattle.market_notes.proofs.AmountFacts.{accrual-some}
use Rattle.offer_book.proofs.line.note_cost_by.Goals as goal

pub earned-interest-requires-clause-year : goal.earned-interest-requires-clause-year
earned-interest-requires-clause-year c = omega (arith, ap (λ (a : Accrual). a.year) c.requires.accrued, accrual-some c.args.note.now c.requires.note)
