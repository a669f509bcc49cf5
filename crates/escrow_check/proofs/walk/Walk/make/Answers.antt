use Rattle.std.proofs.Common.{◌≡◌, ◌∙◌, List, [], ap, sym, subst}
use Rattle.node_ranges.proofs.RangeLaws.{root_is_tight}
use Rattle.node_ranges.specs.Ranges.{root_of}
use Rattle.escrow_check.specs.Walk.{AreSplitsOf, within_splits}
use Rattle.escrow_check.specs.declared.walk.OpenSplit.{OpenSplit}
use Rattle.escrow_check.proofs.walk.Walk.make.Goals as goal

pub returns-clause-walk : goal.returns-clause-walk
returns-clause-walk c =
    let book = c.args.book.now in
    let none : c.in_ok-with_capacity.field-0.items ≡ [] = c.in_ok-with_capacity.ensures.items in
    record {
      at = c.in_ok-root.ensures ∙ ap (λ (s : List OpenSplit). within_splits book (root_of book) s) (sym none);
      split = (let P : List OpenSplit → Type 0 = λ s. AreSplitsOf book (root_of book) s in subst P (sym none) (root_is_tight book c.requires));
    }
