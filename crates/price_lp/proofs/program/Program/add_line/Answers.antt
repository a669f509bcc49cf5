use Rattle.std.proofs.Common.{sym, subst, arith}
use Rattle.offer_book.specs.Book.{IsLine}
use Rattle.offer_book.proofs.LineFacts.{rate-low, step-at_most}
use Rattle.cash_table.proofs.PaymentFacts.{all_lines}
use Rattle.price_lp.proofs.program.Program.add_line.Goals as goal

pub scaled_cost-requires : goal.scaled_cost-requires
scaled_cost-requires c = (c.args.book.now.days, subst (IsLine c.args.book.now.days) (sym c.line-own.ensures) (all_lines c.args.book.now.days c.args.book.now.lines c.requires.limits.lines c.args.line c.line-own.result.now c.requires.line))

pub invariant_of-scale : goal.invariant_of-scale
invariant_of-scale c =
    let days = c.args.book.now.days in
    let is : IsLine days c.line-own.result.now = subst (IsLine days) (sym c.line-own.ensures) (all_lines c.args.book.now.days c.args.book.now.lines c.requires.limits.lines c.args.line c.line-own.result.now c.requires.line) in
    record {
      low_rate = omega (arith, c.rate.ensures, rate-low days c.line-own.result.now is);
      small_step = step-at_most days c.line-own.result.now is;
      some = c.divisor_of.ensures.some;
      small = c.divisor_of.ensures.small;
    }
