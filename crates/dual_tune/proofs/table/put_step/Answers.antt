use Rattle.std.proofs.Common.{◌≡◌, ◌∙◌, get_or, length, sym, ap, subst}
use Rattle.dual_bound.specs.Columns.{ColumnsContents}
use Rattle.proof_tree.specs.Tree.{IsLeaf, with_price}
use Rattle.proof_tree.specs.declared.tree.Leaf.{Leaf}
use Rattle.dual_tune.specs.Steps.{price_beside}
use Rattle.dual_tune.specs.Table.{AreFormsOf}
use Rattle.dual_tune.proofs.SweepFacts.{leaf-beside, put-back}
use Rattle.dual_tune.proofs.table.put_step.Goals as goal

pub price_date-requires-clause-leaf : goal.price_date-requires-clause-leaf
price_date-requires-clause-leaf c =
    let columns = c.args.columns.now in
    let is : c.price_beside.result ≡ price_beside c.args.leaf.now.prices c.args.place c.args.side =
    c.price_beside.ensures ∙ ap (λ prices. price_beside prices c.args.place c.args.side) c.as_slice-prices.ensures in
    subst (λ (l : Leaf). IsLeaf (length columns.book.needs) (with_price l c.args.place c.price_beside.result)) (sym c.requires.priced)
    (subst (λ price. IsLeaf (length columns.book.needs) (with_price c.args.leaf.now c.args.place price)) (sym is)
    (leaf-beside (length columns.book.needs) c.args.leaf.now c.args.place c.args.side c.requires.leaf c.requires.place))

pub price_date-requires-2-clause-leaf : goal.price_date-requires-2-clause-leaf
price_date-requires-2-clause-leaf c =
    let columns = c.args.columns.now in
    let own = get_or c.as_slice-prices.result.now c.from.result 0 in
    let own_is : own ≡ get_or columns.leaf.prices c.args.place 0 =
    (λ i. get_or (c.as_slice-prices.ensures i) (c.from.ensures i) 0) ∙ ap (λ (l : Leaf). get_or l.prices c.args.place 0) (sym c.requires.priced) in
    let back : with_price c.price_date.new.self.leaf c.args.place own ≡ c.args.leaf.now =
    ap (λ (s : ColumnsContents). with_price s.leaf c.args.place own) c.price_date.ensures ∙ put-back columns.leaf c.args.place c.price_beside.result own own_is ∙ c.requires.priced in
    subst (λ (s : ColumnsContents). IsLeaf (length s.book.needs) (with_price c.price_date.new.self.leaf c.args.place own)) (sym c.price_date.ensures)
    (subst (IsLeaf (length columns.book.needs)) (sym back) c.requires.leaf)

pub returns-clause-columns : goal.returns-clause-columns
returns-clause-columns c =
    let columns = c.args.columns.now in
    let own = get_or c.as_slice-prices.result.now c.from.result 0 in
    let own_is : own ≡ get_or columns.leaf.prices c.args.place 0 =
    (λ i. get_or (c.as_slice-prices.ensures i) (c.from.ensures i) 0) ∙ ap (λ (l : Leaf). get_or l.prices c.args.place 0) (sym c.requires.priced) in
    let back = put-back columns.leaf c.args.place c.price_beside.result own own_is in
    c.price_date-2.ensures
    ∙ (λ i. record { book = (c.price_date.ensures i).book; yield_units = (c.price_date.ensures i).yield_units; leaf = with_price (c.price_date.ensures i).leaf c.args.place own })
    ∙ (λ i. record { book = columns.book; yield_units = columns.yield_units; leaf = back i })

pub returns-clause-forms : goal.returns-clause-forms
returns-clause-forms c =
    let columns = c.args.columns.now in
    let is : c.price_beside.result ≡ price_beside c.args.leaf.now.prices c.args.place c.args.side =
    c.price_beside.ensures ∙ ap (λ prices. price_beside prices c.args.place c.args.side) c.as_slice-prices.ensures in
    let priced : c.price_date.new.self.leaf ≡ with_price c.args.leaf.now c.args.place (price_beside c.args.leaf.now.prices c.args.place c.args.side) =
    ap (λ (s : ColumnsContents). s.leaf) c.price_date.ensures ∙ (λ i. with_price (c.requires.priced i) c.args.place (is i)) in
    subst (λ (l : Leaf). AreFormsOf columns.yield_units columns.book l c.args.lines.now c.put_forms.new.forms) priced
    (subst (λ (s : ColumnsContents). AreFormsOf s.yield_units s.book c.price_date.new.self.leaf c.args.lines.now c.put_forms.new.forms) c.price_date.ensures c.put_forms.ensures)
