use Rattle.std.proofs.Common.{length, subst}
use Rattle.dual_bound.specs.Columns.{ColumnsContents}
use Rattle.dual_tune.specs.Table.{AreLineForms}
use Rattle.dual_tune.proofs.SweepFacts.{leaf-weighed}
use Rattle.dual_tune.proofs.table.put_multiplier.Goals as goal

pub price-requires : goal.price-requires
price-requires c = leaf-weighed (length c.args.columns.now.book.needs) c.args.leaf.now c.args.mu c.requires.leaf c.requires.mu

pub returns-clause-forms : goal.returns-clause-forms
returns-clause-forms c = subst (λ (s : ColumnsContents). AreLineForms s.yield_units s.book s.leaf c.put_line_forms.new.forms) c.price.ensures c.put_line_forms.ensures
