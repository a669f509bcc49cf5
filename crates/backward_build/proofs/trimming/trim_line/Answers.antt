use Rattle.std.proofs.Common.{get_or, subst, arith, rules}
use Rattle.offer_book.specs.Portfolio.{line_payments}
use Rattle.offer_book.specs.declared.line.Line.{Line}
use Rattle.cash_table.proofs.CostFacts.{permitted_few}
use Rattle.backward_build.specs.Spare.{ArePaid}
use Rattle.backward_build.proofs.UnitFacts.{no_more-set, permitted-at, permitted-set}
use Rattle.backward_build.proofs.TrimFacts.{AreDue, fewest-set, owed, paid_enough, paid_less, some_line, spare-set}
use Rattle.backward_build.proofs.trimming.trim_line.Goals as goal

pub put_paid-requires-clause-units : goal.put_paid-requires-clause-units
put_paid-requires-clause-units c = λ d.
    rw c.get-units.ensures (permitted_few (get_or c.args.book.now.lines c.args.line d) (get_or c.args.plan.now c.args.line 0) (permitted-at c.args.book.now c.args.plan.now c.args.line c.requires.line c.requires.permitted d))

pub fewest-fewest-requires-clause-permitted : goal.fewest-fewest-requires-clause-permitted
fewest-fewest-requires-clause-permitted c = λ d. rw c.get-units.ensures (permitted-at c.args.book.now c.args.plan.now c.args.line c.requires.line c.requires.permitted d)

pub pay_less-requires-clause-less : goal.pay_less-requires-clause-less
pay_less-requires-clause-less c = λ k within.
    paid_less c.args.book.now.days c.args.book.now.needs (get_or c.args.book.now.lines c.args.line some_line) c.get-units.result c.fewest-fewest.result c.put_paid.new.paid c.put_paid-2.new.paid
    c.fewest-fewest.ensures.most (c.put_paid.ensures some_line) (c.put_paid-2.ensures some_line) k (omega (arith, within, c.from-dates.ensures, c.need_count.ensures.value))

pub pay_less-requires-clause-enough : goal.pay_less-requires-clause-enough
pay_less-requires-clause-enough c = λ k within.
    paid_enough c.args.book.now.needs (line_payments c.args.book.now.days (get_or c.args.book.now.lines c.args.line some_line) c.fewest-fewest.result) c.put_paid.new.paid c.args.spare.now c.take_spare.new.paid c.put_paid-2.new.paid
    (search rules) (c.fewest-fewest.ensures.enough some_line) (c.put_paid-2.ensures some_line) c.take_spare.ensures k
    (omega (arith, within, c.from-dates.ensures, c.need_count.ensures.value))

pub returns-clause-permitted : goal.returns-clause-permitted
returns-clause-permitted c =
    rw c.put.ensures (permitted-set c.args.book.now c.args.plan.now c.args.line c.fewest-fewest.result c.requires.permitted c.fewest-fewest.ensures.permitted)

pub returns-clause-spare : goal.returns-clause-spare
returns-clause-spare c =
    let book = c.args.book.now in
    let before = subst (λ n. ArePaid book.needs (line_payments book.days (get_or book.lines c.args.line some_line) n) c.put_paid.new.paid) c.get-units.ensures (c.put_paid.ensures some_line) in
    rw c.put.ensures (spare-set book c.args.plan.now c.args.spare.now c.put_paid.new.paid c.put_paid-2.new.paid c.pay_less.new.spare c.args.line c.fewest-fewest.result some_line
    c.requires.line c.requires.permitted.same_length c.requires.spare before (c.put_paid-2.ensures some_line)
    (λ k within. c.pay_less.ensures k (omega (arith, within, c.from-dates.ensures, c.need_count.ensures.value))))

pub returns-clause-no_more : goal.returns-clause-no_more
returns-clause-no_more c =
    rw c.put.ensures (no_more-set c.args.plan.now c.args.line c.fewest-fewest.result (omega (arith, c.requires.line, c.requires.permitted.same_length)) (omega (arith, c.fewest-fewest.ensures.most, c.get-units.ensures)))

pub returns-clause-fewest : goal.returns-clause-fewest
returns-clause-fewest c =
    let book = c.args.book.now in
    let due : (line : Line) → AreDue book.needs (line_payments book.days (get_or book.lines c.args.line line) (get_or c.args.plan.now c.args.line 0)) c.args.spare.now c.take_spare.new.paid = λ line.
    let before = subst (λ n. ArePaid book.needs (line_payments book.days (get_or book.lines c.args.line line) n) c.put_paid.new.paid) c.get-units.ensures (c.put_paid.ensures line) in
    owed book.needs (line_payments book.days (get_or book.lines c.args.line line) (get_or c.args.plan.now c.args.line 0)) c.put_paid.new.paid c.args.spare.now c.take_spare.new.paid
    (search rules) before c.take_spare.ensures in
    rw c.put.ensures (fewest-set book c.args.plan.now c.args.spare.now c.take_spare.new.paid c.args.line c.fewest-fewest.result c.requires.line c.requires.permitted.same_length c.requires.spare due c.fewest-fewest.ensures.fewest)
