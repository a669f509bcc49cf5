use Rattle.std.proofs.Common.{length, ap, subst, sym}
use Rattle.offer_book.specs.Book.{BookContents}
use Rattle.dual_bound.specs.Columns.{ColumnsContents}
use Rattle.proof_tree.specs.Tree.{IsLeaf}
use Rattle.dual_tune.proofs.sweep.price_for.Goals as goal

pub price-requires : goal.price-requires
price-requires c = subst (λ (b : BookContents). IsLeaf (length b.needs) c.args.leaf.now) (sym c.requires.own.book) c.requires.leaf

pub returns-clause-there : goal.returns-clause-there
returns-clause-there c = λ k d few point. ap (λ (s : ColumnsContents). s.leaf) c.price.ensures
