use Rattle.std.proofs.Common.{◌∙◌, subst, sym}
use Rattle.node_ranges.specs.Ranges.{AreOf}
use Rattle.node_ranges.proofs.RangeFacts.{root-of}
use Rattle.dual_tune.specs.Tuner.{TunerContents}
use Rattle.worked_searches.proofs.improved.tuned_leaf.Goals as goal

pub tune-requires-clause-ranges : goal.tune-requires-clause-ranges
tune-requires-clause-ranges c =
    let book = c.args.book.now in
    let room : AreOf book c.in_ok-ranges.ranges = rw c.in_ok-ranges.ensures (root-of book) in
    subst (λ (t : TunerContents). AreOf t.book c.in_ok-ranges.ranges) (sym c.in_ok-tuner.ensures) room

pub tune-requires-2-clause-ranges : goal.tune-requires-2-clause-ranges
tune-requires-2-clause-ranges c =
    let book = c.args.book.now in
    let room : AreOf book c.in_ok-ranges.ranges = rw c.in_ok-ranges.ensures (root-of book) in
    subst (λ (t : TunerContents). AreOf t.book c.in_ok-ranges.ranges) (sym (c.stand.ensures ∙ c.tune.ensures.tuner ∙ c.in_ok-tuner.ensures)) room

pub stand-requires : goal.stand-requires
stand-requires c =
    let book = c.args.book.now in
    let room : AreOf book c.in_ok-ranges.ranges = rw c.in_ok-ranges.ensures (root-of book) in
    subst (λ (t : TunerContents). AreOf t.book c.in_ok-ranges.ranges) (sym (c.tune.ensures.tuner ∙ c.in_ok-tuner.ensures)) room
