use Rattle.std.proofs.Common.{get_or, arith}
use Rattle.backward_build.proofs.TrimFacts.{some_need}
use Rattle.plan_finder.proofs.PutFacts.{purchase-paid}
use Rattle.plan_finder.proofs.trimming.suffices.Goals as goal

pub returns : goal.returns
returns c = λ d.
    let book = c.args.ledger.now.book in
    let n = c.args.ledger.now.yield_units in
    let count = rw c.book-book.ensures.value at c.need_count.ensures.value in
    let own = purchase-paid n book (get_or book.lines c.args.duty.now.line d) c.args.units c.purchase-bought.result c.paid.result (c.purchase-bought.ensures.value d)
    (rw c.book-book.ensures.value at c.paid.ensures) in (
      (λ yes k need within. omega (arith, c.covers.ensures.0 yes k (omega (arith, within, c.from.ensures, count)), own k need within)),
      (λ cover. c.covers.ensures.1 (λ k within.
          omega (
            arith,
            cover k some_need (omega (arith, within, c.from.ensures, count)),
            own k some_need (omega (arith, within, c.from.ensures, count)),
          ))),
    )
