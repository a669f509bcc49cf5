use Rattle.backward_build.proofs.PlanFacts.{HaveOffers}
use Rattle.backward_build.proofs.backward.latest_without_offer.Given as goal

abbrev pub invariant-loop-later : goal.invariant-loop-later
invariant-loop-later l = HaveOffers l.book l.later
