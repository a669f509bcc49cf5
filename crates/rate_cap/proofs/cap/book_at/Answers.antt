use Rattle.std.proofs.Common.{◌∙◌, ap}
use Rattle.std.specs.Prelude.{map}
use Rattle.rate_cap.specs.CaseAt.{line_at}
use Rattle.rate_cap.proofs.CaseFacts.{book-is}
use Rattle.rate_cap.proofs.cap.book_at.Goals as goal

pub make-requires : goal.make-requires
make-requires c = record {
  limits = book-is c.args.cap c.args.book.now c.settle.result c.in_ok-closed.closed c.in_ok-needs.needs.items c.in_ok-lines.lines.items c.lines.ensures.limits c.settle.ensures
      (c.in_ok-closed.ensures ∙ c.closed.ensures)
      (c.in_ok-needs.ensures ∙ c.needs.ensures.value)
      (c.in_ok-lines.ensures ∙ ap (map (line_at c.args.cap)) c.lines.ensures.value);
}
