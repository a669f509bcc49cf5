use Rattle.std.proofs.Common.{◌∙◌, ap, ℕ, List}
use Rattle.day_sums.specs.Table.{sums_of}
use Rattle.day_sums.proofs.TableFacts.{summed-none, span}
use Rattle.day_sums.proofs.sums.DaySums.between.Goals as goal

pub returns : goal.returns
returns c =
    ap (span c.args.from c.args.to) (ap (λ (cents : List ℕ). sums_of c.args.from cents) c.in_ok-cents.ensures.items ∙ summed-none c.args.from)
