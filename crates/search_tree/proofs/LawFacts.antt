-- The laws, proved.
use Rattle.node_pool.specs.Tree.{Tree}
use Rattle.search_tree.proofs.ClosedFacts.{closed-all, closed-shown, closed-tree}
use Rattle.search_tree.proofs.EndFacts.{IsWritten, well-written, written}
use Rattle.search_tree.proofs.ClosedFacts.{ClosedFor}
use Rattle.search_tree.proofs.GrowFacts.{closed-kept, split-kept}
use Rattle.search_tree.proofs.SpentFacts.{full-shows}
use Rattle.search_tree.specs.Growing.{obeys}
use Rattle.search_tree.specs.Laws.{ClosedIsKept, ClosedTreesShow, FullTreesShow, SplitIsKept}

pub closed_is_kept : ClosedIsKept
closed_is_kept case rule best tree number ranges how held closes = closed-kept case (obeys case rule) best tree.pool.states tree.nodes number ranges how held closes

pub split_is_kept : SplitIsKept
split_is_kept case rule best tree number line at ranges left right held whole split left_priced left_up right_priced right_up =
    split-kept case (obeys case rule) best tree.pool.states tree.nodes number line at ranges left right held whole split left_priced left_up right_priced right_up

pub closed_trees_show : ClosedTreesShow
closed_trees_show case rule best popped tree nodes claim is borne point =
    let shape : Tree = is.written.1.0 in
    let made : IsWritten case tree shape nodes = written case tree is.written.0 nodes shape is.one is.whole is.written.1.1 is.written.1.2 is.written.2 in
    let ends = closed-tree case (obeys case rule) best tree popped is.one is.whole is.ended is.kept in
    record {
      well = well-written case (obeys case rule) popped (ClosedFor case best) tree shape nodes is.limits ends (closed-shown case best) made;
      count = made.count;
      closed = closed-all case (obeys case rule) best claim popped tree shape nodes is.limits ends made (λ number ranges own closed. borne number own) point;
    }

pub full_trees_show : FullTreesShow
full_trees_show case rule best bound cents before after nodes full made is_bound =
    let shape : Tree = made.1.0 in
    full-shows case (obeys case rule) best bound cents before after shape nodes full (written case after made.0 nodes shape full.one full.whole made.1.1 made.1.2 made.2) is_bound
