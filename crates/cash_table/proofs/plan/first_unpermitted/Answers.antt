use Rattle.std.proofs.Common.{◌≡◌, length, true, false, sym, arith}
use Rattle.offer_book.specs.Portfolio.{permits}
use Rattle.cash_table.proofs.PermitFacts.{first_fails, none_fails, found_none, pass_more}
use Rattle.cash_table.proofs.plan.first_unpermitted.Goals as goal

pub returns-then-not-permits-clause-value : goal.returns-then-not-permits-clause-value
returns-then-not-permits-clause-value c =
    let fails : permits c.line.result.now c.get.result ≡ false = cc in
    sym (first_fails c.args.book.now.lines c.args.plan.now c.loop-line.line c.line.result.now c.requires (omega arith) c.line.ensures (rw (← c.get.ensures) fails) c.loop-line.invariant)

pub returns-then-not-permits-clause-none : goal.returns-then-not-permits-clause-none
returns-then-not-permits-clause-none c =
    found_none c.args.book.now c.args.plan.now _ c.requires (returns-then-not-permits-clause-value c)

pub loop-line-preserved : goal.loop-line-preserved
loop-line-preserved c =
    let passes : permits c.line.result.now c.get.result ≡ true = cc in
    pass_more c.args.book.now.lines c.args.plan.now c.loop-line.line c.line.result.now (omega arith) c.line.ensures (rw (← c.get.ensures) passes) c.loop-line.invariant

pub returns-clause-value : goal.returns-clause-value
returns-clause-value c =
    let all : c.loop-line.line ≡ length c.args.book.now.lines = omega arith in
    sym (none_fails c.args.book.now.lines c.args.plan.now c.requires (rw (← all) c.loop-line.invariant))

pub returns-clause-none : goal.returns-clause-none
returns-clause-none c =
    found_none c.args.book.now c.args.plan.now _ c.requires (returns-clause-value c)
