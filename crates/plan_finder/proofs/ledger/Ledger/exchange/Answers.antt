use Rattle.std.proofs.Common.{◌≡◌, ◌<◌, get_or, length, refl, rules, arith, subst, sym}
use Rattle.offer_book.specs.Portfolio.{IsPermittedUnits}
use Rattle.offer_book.specs.declared.line.Line.{Line}
use Rattle.plan_finder.specs.Ledger.{IsPurchase, LedgerContents}
use Rattle.plan_finder.proofs.LedgerFacts.{held-little}
use Rattle.plan_finder.proofs.PutFacts.{cost-part, cost-room, put-ledger, received-part, received-room, worth-part, worth-room}
use Rattle.plan_finder.proofs.ledger.Ledger.exchange.Goals as goal

pub paid-requires : goal.paid-requires
paid-requires c =
    let n = c.self.inside.yield_units.0 in
    let book = c.self.inside.book.now in
    let account = c.self.inside.account in
    let within = subst (λ (l : LedgerContents). c.args.line < length l.book.lines) (sym c.self.view_is) c.requires.line in
    let at : c.index-before.result.now ≡ get_or c.self.inside.account.held.items c.args.line c.index-before.result.now = search rules in
    held-little n book account.plan account.held.items c.args.line c.index-before.result.now c.self.invariant.limits c.self.invariant.permitted c.self.invariant.held within at

pub exchange-requires-clause-part : goal.exchange-requires-clause-part
exchange-requires-clause-part c =
    let n = c.self.inside.yield_units.0 in
    let book = c.self.inside.book.now in
    let account = c.self.inside.account in
    let within = subst (λ (l : LedgerContents). c.args.line < length l.book.lines) (sym c.self.view_is) c.requires.line in
    let at : c.index-before.result.now ≡ get_or c.self.inside.account.held.items c.args.line c.index-before.result.now = search rules in
    rw c.deref_mut.ensures.value (λ k here.
    received-part n book account c.args.line c.index-before.result.now c.paid.result c.self.invariant within at c.paid.ensures k
    (omega (arith, here, c.from.ensures, c.need_count.ensures.value)))

pub exchange-requires-clause-room : goal.exchange-requires-clause-room
exchange-requires-clause-room c =
    let n = c.self.inside.yield_units.0 in
    let book = c.self.inside.book.now in
    let account = c.self.inside.account in
    let within = subst (λ (l : LedgerContents). c.args.line < length l.book.lines) (sym c.self.view_is) c.requires.line in
    let at : c.index-before.result.now ≡ get_or c.self.inside.account.held.items c.args.line c.index-before.result.now = search rules in
    let permitted = subst (λ (l : LedgerContents). (d : Line) → IsPermittedUnits (get_or l.book.lines c.args.line d) c.args.units) (sym c.self.view_is) c.requires.permitted in
    let bought = subst (λ (l : LedgerContents). (d : Line) → IsPurchase l.yield_units l.book.days (get_or l.book.lines c.args.line d) c.args.units c.purchase-after.result) (sym c.self.view_is) c.purchase-after.ensures.value in
    rw c.deref_mut.ensures.value (λ k here.
    received-room n book account c.args.line c.args.units c.index-before.result.now c.purchase-after.result c.paid.result c.paid-2.result c.self.invariant within permitted at
    bought c.paid.ensures c.paid-2.ensures k
    (omega (arith, here, c.from.ensures, c.need_count.ensures.value)))

pub overflow_sub-account : goal.overflow_sub-account
overflow_sub-account c =
    let n = c.self.inside.yield_units.0 in
    let book = c.self.inside.book.now in
    let account = c.self.inside.account in
    let within = subst (λ (l : LedgerContents). c.args.line < length l.book.lines) (sym c.self.view_is) c.requires.line in
    let at : c.index-before.result.now ≡ get_or c.self.inside.account.held.items c.args.line c.index-before.result.now = search rules in
    cost-part n book account c.args.line c.index-before.result.now c.self.invariant within at

pub overflow_add-account : goal.overflow_add-account
overflow_add-account c =
    let n = c.self.inside.yield_units.0 in
    let book = c.self.inside.book.now in
    let account = c.self.inside.account in
    let within = subst (λ (l : LedgerContents). c.args.line < length l.book.lines) (sym c.self.view_is) c.requires.line in
    let at : c.index-before.result.now ≡ get_or c.self.inside.account.held.items c.args.line c.index-before.result.now = search rules in
    let permitted = subst (λ (l : LedgerContents). (d : Line) → IsPermittedUnits (get_or l.book.lines c.args.line d) c.args.units) (sym c.self.view_is) c.requires.permitted in
    let bought = subst (λ (l : LedgerContents). (d : Line) → IsPurchase l.yield_units l.book.days (get_or l.book.lines c.args.line d) c.args.units c.purchase-after.result) (sym c.self.view_is) c.purchase-after.ensures.value in
    omega (arith, cost-room n book account c.args.line c.args.units c.index-before.result.now c.purchase-after.result c.self.invariant within permitted at bought)

pub overflow_sub-account-2 : goal.overflow_sub-account-2
overflow_sub-account-2 c =
    let n = c.self.inside.yield_units.0 in
    let book = c.self.inside.book.now in
    let account = c.self.inside.account in
    let within = subst (λ (l : LedgerContents). c.args.line < length l.book.lines) (sym c.self.view_is) c.requires.line in
    let at : c.index-before.result.now ≡ get_or c.self.inside.account.held.items c.args.line c.index-before.result.now = search rules in
    worth-part n book account c.args.line c.index-before.result.now c.self.invariant within at

pub overflow_add-account-2 : goal.overflow_add-account-2
overflow_add-account-2 c =
    let n = c.self.inside.yield_units.0 in
    let book = c.self.inside.book.now in
    let account = c.self.inside.account in
    let within = subst (λ (l : LedgerContents). c.args.line < length l.book.lines) (sym c.self.view_is) c.requires.line in
    let at : c.index-before.result.now ≡ get_or c.self.inside.account.held.items c.args.line c.index-before.result.now = search rules in
    let permitted = subst (λ (l : LedgerContents). (d : Line) → IsPermittedUnits (get_or l.book.lines c.args.line d) c.args.units) (sym c.self.view_is) c.requires.permitted in
    let bought = subst (λ (l : LedgerContents). (d : Line) → IsPurchase l.yield_units l.book.days (get_or l.book.lines c.args.line d) c.args.units c.purchase-after.result) (sym c.self.view_is) c.purchase-after.ensures.value in
    omega (arith, worth-room n book account c.args.line c.args.units c.index-before.result.now c.purchase-after.result c.self.invariant within permitted at bought)

pub invariant_of-self : goal.invariant_of-self
invariant_of-self c =
    let n = c.self.inside.yield_units.0 in
    let book = c.self.inside.book.now in
    let account = c.self.inside.account in
    let within = subst (λ (l : LedgerContents). c.args.line < length l.book.lines) (sym c.self.view_is) c.requires.line in
    let at : c.index-before.result.now ≡ get_or c.self.inside.account.held.items c.args.line c.index-before.result.now = search rules in
    let permitted = subst (λ (l : LedgerContents). (d : Line) → IsPermittedUnits (get_or l.book.lines c.args.line d) c.args.units) (sym c.self.view_is) c.requires.permitted in
    let bought = subst (λ (l : LedgerContents). (d : Line) → IsPurchase l.yield_units l.book.days (get_or l.book.lines c.args.line d) c.args.units c.purchase-after.result) (sym c.self.view_is) c.purchase-after.ensures.value in
    put-ledger n book account _ c.args.line c.args.units c.index-before.result.now c.purchase-after.result c.paid.result c.paid-2.result c.self.invariant within permitted at
    bought c.paid.ensures c.paid-2.ensures
    c.put.ensures refl (search rules) refl (λ k here. (rw c.deref_mut.ensures.value at c.exchange.ensures) k (omega (arith, here, c.from.ensures, c.need_count.ensures.value))) refl refl
