use Rattle.std.proofs.Common.{◌∙◌, sym}
use Rattle.escrow_top.proofs.NumberFacts.{other-none, same-number, unparsed-none}
use Rattle.escrow_top.proofs.command.number_of.Goals as goal

pub returns-in_err-number : goal.returns-in_err-number
returns-in_err-number c = c.from_residual.ensures ∙ sym (unparsed-none c.args.word.now c.parse.result c.parse.ensures.value.0 c.in_err-number.ensures.value)

pub returns-then-eq : goal.returns-then-eq
returns-then-eq c = let e = rw c.format.ensures.text at c.if-eq.ensures in same-number c.args.word.now c.parse.result c.in_ok-number.number c.parse.ensures.value.0 c.in_ok-number.ensures.value e

pub returns-else-eq : goal.returns-else-eq
returns-else-eq c = let e = rw c.format.ensures.text at c.if-eq.ensures in sym (other-none c.args.word.now c.parse.result c.in_ok-number.number c.parse.ensures.value.0 c.in_ok-number.ensures.value e)
