use Rattle.std.proofs.Common.{length, subst, sym, List, ℕ}
use Rattle.bound_certificate.specs.Row.{AreRowNumbers}
use Rattle.bound_certificate.proofs.TableFacts.{row-numbers}
use Rattle.bound_certificate.proofs.taken.take_row.Goals as goal

pub take_said-requires-clause-numbers : goal.take_said-requires-clause-numbers
take_said-requires-clause-numbers c =
    let P : List ℕ → Type 0 = λ ns. AreRowNumbers c.args.dates (length c.args.vectors.now) c.args.due.row ns in
    let Q : ℕ → Type 0 = λ k. AreRowNumbers c.args.dates k c.args.due.row c.read_row.new.numbers.items in
    subst P (sym c.as_slice.ensures.value)
    (subst Q c.count.ensures.value (row-numbers c.args.dates c.count.result c.args.due.row c.args.due.may c.args.line.now c.read_row.new.numbers.items c.in_ok-read_row.ensures))
