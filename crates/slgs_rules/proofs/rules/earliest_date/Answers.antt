use Rattle.std.proofs.Common.{arith}
use Rattle.std.proofs.lemmas.Int.{ints}
use Rattle.slgs_rules.proofs.rules.earliest_date.Goals as goal

pub returns : goal.returns
returns c =
    let first = c.dates_beside.ensures.first in
    record {
      series = first.series;
      late = omega (arith, ints, first.after, c.number.ensures.value, c.number.ensures.bound, c.requires.from.0);
      earliest = λ other on late. first.first other on (omega (arith, ints, late, c.number.ensures.value, c.requires.from.0, c.requires.from.1));
    }
