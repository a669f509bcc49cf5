use Rattle.std.proofs.Common.{length, subst}
use Rattle.backward_build.specs.Trim.{HasNoMore, IsFewest}
use Rattle.backward_build.proofs.OrderFacts.{every_line, lines_within}
use Rattle.backward_build.proofs.UnitFacts.{costs_more}
use Rattle.backward_build.proofs.TrimFacts.{met_from_spare}
use Rattle.backward_build.proofs.trimming.trim_at.Goals as goal

pub trim_lines-requires-clause-lines : goal.trim_lines-requires-clause-lines
trim_lines-requires-clause-lines c = rw c.deref.ensures.value (lines_within (length c.args.book.now.lines) c.in_ok-order.order.items c.in_ok-order.ensures.every_line)

pub returns-clause-meets : goal.returns-clause-meets
returns-clause-meets c = met_from_spare c.args.book.now c.trim_lines.new.plan c.trim_lines.new.spare c.trim_lines.ensures.spare

pub returns-clause-cost : goal.returns-clause-cost
returns-clause-cost c =
    costs_more c.args.book.now c.trim_lines.new.plan c.args.plan.now c.trim_lines.ensures.permitted.same_length c.requires.permitted.same_length
    (subst (HasNoMore c.trim_lines.new.plan) c.in_ok-trimmed.ensures c.trim_lines.ensures.no_more)

pub returns-clause-trimmed : goal.returns-clause-trimmed
returns-clause-trimmed c =
    every_line (IsFewest c.args.book.now c.trim_lines.new.plan) (length c.args.book.now.lines) c.in_ok-order.order.items c.in_ok-order.ensures.every_line (rw c.deref.ensures.value at c.trim_lines.ensures.fewest)
