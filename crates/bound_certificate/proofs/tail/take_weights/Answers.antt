use Rattle.std.proofs.Common.{◌∙◌, All, List, ℕ, ap, arith, length, subst, sym, true}
use Rattle.std.proofs.lemmas.Result.{err_from_is_err_and}
use Rattle.bound_certificate.specs.declared.row.Row.TheVariants as row
use Rattle.bound_certificate.specs.Grammar.{weights_of, weights_or}
use Rattle.bound_certificate.specs.Row.{AreRowNumbers}
use Rattle.bound_certificate.proofs.TableFacts.{row-numbers}
use Rattle.bound_certificate.proofs.TailLoops.{tail-said}
use Rattle.bound_certificate.proofs.WeightFacts.{IsSum, sums-small, tail_three}
use Rattle.bound_certificate.proofs.tail.take_weights.Goals as goal

pub returns-in_err-read_row-clause-err : goal.returns-in_err-read_row-clause-err
returns-in_err-read_row-clause-err c =
    let p = err_from_is_err_and c.from_residual.result c.from_residual.ensures.1 in
    rw (p.1, p.2) (tail-said c.args.dates c.args.tail.now ∙ ap weights_or c.in_err-read_row.ensures)

pub list_weights-requires-clause-sums : goal.list_weights-requires-clause-sums
list_weights-requires-clause-sums c =
    let P : List ℕ → Type 0 = λ ns. All IsSum (weights_of ns) in
    subst P (sym c.as_slice.ensures.value)
    (sums-small c.args.dates 0 c.read_row.new.numbers.items c.requires.dates
    (row-numbers c.args.dates 0 row.Tail true c.args.tail.now c.read_row.new.numbers.items c.in_ok-read_row.ensures))

pub list_weights-requires-clause-few : goal.list_weights-requires-clause-few
list_weights-requires-clause-few c =
    let are : AreRowNumbers c.args.dates 0 row.Tail c.read_row.new.numbers.items =
    row-numbers c.args.dates 0 row.Tail true c.args.tail.now c.read_row.new.numbers.items c.in_ok-read_row.ensures in
    omega (arith, ap length c.as_slice.ensures.value, (tail_three c.args.dates (length c.read_row.new.numbers.items) are.fits).1)
