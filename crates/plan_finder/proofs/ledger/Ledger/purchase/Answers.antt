use Rattle.std.proofs.Common.{◌≡◌, ◌∙◌, ◌<◌, ◌≤◌, get_or, length, sym, subst, rules}
use Rattle.std.proofs.lemmas.List.{get_or_default}
use Rattle.offer_book.specs.declared.line.Line.{Line}
use Rattle.plan_finder.specs.Ledger.{IsPurchase, LedgerContents}
use Rattle.plan_finder.proofs.LedgerFacts.{line-is, purchase-little, terms-at}
use Rattle.plan_finder.proofs.ledger.Ledger.purchase.Goals as goal

pub purchase-requires-clause-line : goal.purchase-requires-clause-line
purchase-requires-clause-line c =
    let within = subst (λ (l : LedgerContents). c.args.line < length l.book.lines) (sym c.self.view_is) c.requires.line in
    (c.self.inside.book.now.days, line-is c.self.inside.book.now c.args.line c.line.result.now c.self.invariant.limits within c.line.ensures)

pub purchase-requires-clause-terms : goal.purchase-requires-clause-terms
purchase-requires-clause-terms c =
    let n = c.self.inside.yield_units.0 in
    let book = c.self.inside.book.now in
    let items = c.self.inside.account.terms.items in
    let within = subst (λ (l : LedgerContents). c.args.line < length l.book.lines) (sym c.self.view_is) c.requires.line in
    let at : c.index.result.now ≡ get_or items c.args.line c.index.result.now = search rules in
    (book.days, n, terms-at n book items c.args.line c.line.result.now c.index.result.now c.self.invariant.terms within c.line.ensures at)

pub returns-clause-value : goal.returns-clause-value
returns-clause-value c =
    let n = c.self.inside.yield_units.0 in
    let book = c.self.inside.book.now in
    let items = c.self.inside.account.terms.items in
    let within = subst (λ (l : LedgerContents). c.args.line < length l.book.lines) (sym c.self.view_is) c.requires.line in
    let at : c.index.result.now ≡ get_or items c.args.line c.index.result.now = search rules in
    let terms = terms-at n book items c.args.line c.line.result.now c.index.result.now c.self.invariant.terms within c.line.ensures at in
    let is = line-is book c.args.line c.line.result.now c.self.invariant.limits within c.line.ensures in
    subst (λ (l : LedgerContents). (d : Line) → IsPurchase l.yield_units l.book.days (get_or l.book.lines c.args.line d) c.args.units c.purchase.result) c.self.view_is
    (λ d. subst (λ (line : Line). IsPurchase n book.days line c.args.units c.purchase.result) (c.line.ensures ∙ get_or_default book.lines c.args.line c.line.result.now d within)
    (c.purchase.ensures book.days n is terms))

pub returns-clause-little : goal.returns-clause-little
returns-clause-little c =
    let n = c.self.inside.yield_units.0 in
    let book = c.self.inside.book.now in
    let items = c.self.inside.account.terms.items in
    let within = subst (λ (l : LedgerContents). c.args.line < length l.book.lines) (sym c.self.view_is) c.requires.line in
    let most = subst (λ (l : LedgerContents). c.args.units ≤ (get_or l.book.lines c.args.line c.line.result.now).most) (sym c.self.view_is) (c.requires.units c.line.result.now) in
    let at : c.index.result.now ≡ get_or items c.args.line c.index.result.now = search rules in
    let terms = terms-at n book items c.args.line c.line.result.now c.index.result.now c.self.invariant.terms within c.line.ensures at in
    let is = line-is book c.args.line c.line.result.now c.self.invariant.limits within c.line.ensures in
    let few : c.args.units ≤ c.line.result.now.most = subst (λ (line : Line). c.args.units ≤ line.most) (sym c.line.ensures) most in
    purchase-little n book.days c.line.result.now c.args.units c.purchase.result c.self.invariant.limits.settlement is few (c.purchase.ensures book.days n is terms)
