use Rattle.std.proofs.Common.{arith, ◌≡◌, ◌∙◌, ap, FitsSigned, w32}
use Rattle.std.proofs.lemmas.Int.{ints, to_z-of_z}
use Rattle.jiff_core.proofs.SignedLemmas.{signed_arith}
use Rattle.std.specs.BTreeSet.{contains}
use Rattle.std.specs.List.{list_any}
use Rattle.std.specs.Ordering.{int_cmp, int_eq}
use Rattle.issue_schedule.proofs.distinct_days.DistinctDays.contains.Goals as goal

pub returns : goal.returns
returns c =
    let fits : FitsSigned w32 c.args.day = omega (arith, signed_arith, c.number-number.ensures.value, c.number-number.ensures.bound) in
    let found : c.contains.result ≡ contains int_cmp c.self.inside.numbers c.args.day = search (arith, ints, to_z-of_z, c.contains.ensures, c.number-number.ensures.value) in
    found ∙ (c.self.invariant c.args.day ∙ ap (list_any (int_eq c.args.day)) c.self.view_is)
