use Rattle.std.proofs.Common.{◌∙◌, ◌+◌, ◌/◌, ◌%◌, ◌++◌, ◌<◌, ℕ, ap, arith, List}
use Rattle.savings_table.proofs.DollarText.{dollars-pushed}
use Rattle.savings_table.proofs.signed.push_dollars.Goals as goal

pub returns : goal.returns
returns c =
    let cents = c.args.cents in
    let tens : 48 + cents % 100 / 10 < 128 = omega arith in
    let ones : 48 + cents % 10 < 128 = omega arith in
    dollars-pushed cents c.args.text.now.bytes c.push_str.new.self.bytes c.push.new.self.bytes c.push-2.new.self.bytes c.push-3.new.self.bytes
    (c.push_str.ensures.bytes ∙ ap (λ (t : List ℕ). c.args.text.now.bytes ++ t) c.format.ensures.text)
    (c.push.ensures.ascii (omega arith))
    (c.push-2.ensures.ascii tens)
    (c.push-3.ensures.ascii ones)
