use Rattle.std.proofs.Common.{◌∙◌, ℕ, ap, sym, Err}
use Rattle.bound_certificate.specs.declared.fault.FaultKind.{FaultKind}
use Rattle.bound_certificate.specs.Row.{row_fits}
use Rattle.bound_certificate.proofs.ReadRowFacts.{Begins, begun-row, row-number, row-ok, row-unfit, unfit-row}
use Rattle.bound_certificate.proofs.row.read_row.Goals as goal

pub returns-in-Ok : goal.returns-in-Ok
returns-in-Ok c =
    let begins : Begins c.args.row c.args.line.now c.cut_at-first.result.front.now c.cut_at-first.result.rest =
    begun-row c.args.row c.args.line.now c.cut_at-first.result.front.now c.word.result.now c.cut_at-first.result.rest c.ne.result c.cut_at-first.ensures c.word.ensures c.ne.ensures c.if-ne.false in
    row-ok c.args.dates c.args.vectors c.args.row c.args.may c.args.line.now c.cut_at-first.result.front.now c.cut_at-first.result.rest c.read_numbers.new.numbers.items begins
    c.if-not-may.false c.in-Ok.ensures (ap (λ (k : ℕ). row_fits c.args.dates c.args.row k) (sym c.len.ensures.value) ∙ sym c.if-fits.ensures)

pub returns-in-Err : goal.returns-in-Err
returns-in-Err c =
    let begins : Begins c.args.row c.args.line.now c.cut_at-first.result.front.now c.cut_at-first.result.rest =
    begun-row c.args.row c.args.line.now c.cut_at-first.result.front.now c.word.result.now c.cut_at-first.result.rest c.ne.result c.cut_at-first.ensures c.word.ensures c.ne.ensures c.if-ne.false in
    row-number c.args.dates c.args.vectors c.args.row c.args.may c.args.line.now c.cut_at-first.result.front.now c.cut_at-first.result.rest begins c.requires
    c.if-not-may.false (ap (λ (k : ℕ). row_fits c.args.dates c.args.row k) (sym c.count_spaces.ensures) ∙ sym c.if-fits-2.ensures) c.in-Err.ensures.1
    ∙ ap (λ (found : FaultKind). Err found) (sym c.in-Err.ensures.0)

pub returns-in_default : goal.returns-in_default
returns-in_default c =
    let begins : Begins c.args.row c.args.line.now c.cut_at-first.result.front.now c.cut_at-first.result.rest =
    begun-row c.args.row c.args.line.now c.cut_at-first.result.front.now c.word.result.now c.cut_at-first.result.rest c.ne.result c.cut_at-first.ensures c.word.ensures c.ne.ensures c.if-ne.false in
    row-unfit c.args.dates c.args.vectors c.args.row c.args.may c.args.line.now c.cut_at-first.result.front.now c.cut_at-first.result.rest c.read_numbers.new.numbers.items begins
    c.in-Ok.ensures (ap (λ (k : ℕ). row_fits c.args.dates c.args.row k) (sym c.len.ensures.value) ∙ sym c.if-fits.ensures)

pub returns-in_default-2 : goal.returns-in_default-2
returns-in_default-2 c =
    let begins : Begins c.args.row c.args.line.now c.cut_at-first.result.front.now c.cut_at-first.result.rest =
    begun-row c.args.row c.args.line.now c.cut_at-first.result.front.now c.word.result.now c.cut_at-first.result.rest c.ne.result c.cut_at-first.ensures c.word.ensures c.ne.ensures c.if-ne.false in
    unfit-row c.args.dates c.args.vectors c.args.row c.args.may c.args.line.now c.cut_at-first.result.front.now c.cut_at-first.result.rest begins
    (ap (λ (k : ℕ). row_fits c.args.dates c.args.row k) (sym c.count_spaces.ensures) ∙ sym c.if-fits-2.ensures)
