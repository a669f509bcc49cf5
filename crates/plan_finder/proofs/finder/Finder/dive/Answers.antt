use Rattle.std.proofs.Common.{◌≡◌, ◌∙◌, ap, length, sym}
use Rattle.dual_bound.proofs.BoundSizes.{room-length}
use Rattle.offer_book.specs.Book.{BookContents}
use Rattle.plan_finder.specs.Dive.{SearchContents}
use Rattle.plan_finder.proofs.finder.Finder.dive.Goals as goal

pub start_within-requires : goal.start_within-requires
start_within-requires c =
    let held : length c.self.inside.diver.lines ≡ length c.self.inside.book.now.lines = ap (λ (b : BookContents). length b.lines) c.self.invariant.1 in
    let viewed : length c.self.inside.book.now.lines ≡ length c.args.self.now.book.lines = ap (λ (s : SearchContents). length s.book.lines) c.self.view_is in
    record { ranges = sym (held ∙ viewed ∙ room-length c.args.self.now.book.lines c.args.ranges.now.lines c.requires.ranges.lines) }
