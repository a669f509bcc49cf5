use Rattle.std.proofs.Common.{◌≡◌, ◌++◌, ◌∷◌, All, Err, IfOk, List, Ok, OnOk, Result, length, map, sym, subst, ℕ, ◌+◌}
use Rattle.dual_bound.specs.Columns.{IsRun, IsStopWithin}
use Rattle.dual_bound.specs.declared.series.Run.{Run}
use Rattle.dual_bound.specs.declared.series.Stop.{Stop}
use Rattle.dual_bound.specs.declared.series.Stop.TheVariants.{Day, Start}
use Rattle.dual_bound.proofs.SumFacts.{added-run, within-more}
use Rattle.dual_bound.proofs.TableFacts.{on-ok}
use Rattle.dual_bound.proofs.series.Stops.run.Goals as goal

run-of : {E : Type 0} (r : Result Run E) (old new : List Stop) (places : List ℕ) → OnOk r (new ≡ old ++ Start ∷ map Day places)
    → IfOk r (λ (run : Run). run ≡ record { from = length old; to = length old + length places }) → IfOk r (IsRun new places)
run-of (Ok run) old new places is at = subst (λ stops. IsRun stops places run) (sym is) (subst (IsRun (old ++ Start ∷ map Day places) places) (sym at) (added-run old places))
run-of (Err e) old new places is at = at

pub returns-in-None-clause-run : goal.returns-in-None-clause-run
returns-in-None-clause-run c = run-of c.add.result c.args.self.now.stops.items c.add.new.self.stops.items c.args.places.now c.add.ensures.stops c.add.ensures.run

pub returns-in-None-clause-within : goal.returns-in-None-clause-within
returns-in-None-clause-within c =
    on-ok c.add.result c.add.ensures.stops
    (λ is days there was. subst (All (IsStopWithin days)) (sym is) (within-more days c.args.self.now.stops.items c.args.places.now there was))
