use Rattle.std.proofs.Common.{◌≡◌, drop, map}
use Rattle.escrow_top.specs.Effects.{effect_view}
use Rattle.escrow_top.proofs.EffectLaws.{AreCarried}
use Rattle.escrow_top.proofs.effects.carry_all.Given as goal

abbrev pub invariant-loop-effect : goal.invariant-loop-effect
invariant-loop-effect g l = record {
  carried : AreCarried (g.D.Desk.told l.fn.desk) (map effect_view l.effects) (g.D.Desk.told l.desk) (map effect_view (drop l.effect-index l.effects));
  counts : g.D.Desk.counts l.desk ≡ g.D.Desk.counts l.fn.desk;
}
