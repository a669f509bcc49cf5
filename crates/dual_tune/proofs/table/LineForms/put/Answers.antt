use Rattle.std.proofs.Common.{◌∙◌, length, ap, sym}
use Rattle.std.specs.Vec.{with_items}
use Rattle.dual_tune.specs.declared.steps.Multiplier.TheVariants as multiplier
use Rattle.dual_tune.proofs.TableFacts.{each-multiplier}
use Rattle.dual_tune.proofs.table.LineForms.put.Goals as goal

pub put_multiplier-requires-clause-room : goal.put_multiplier-requires-clause-room
put_multiplier-requires-clause-room c = ap length c.deref_mut.ensures.value ∙ c.requires.room.multipliers multiplier.Nothing

pub put_multiplier-requires-2-clause-room : goal.put_multiplier-requires-2-clause-room
put_multiplier-requires-2-clause-room c = ap length c.deref_mut-2.ensures.value ∙ c.requires.room.multipliers multiplier.Half

pub put_multiplier-requires-3-clause-room : goal.put_multiplier-requires-3-clause-room
put_multiplier-requires-3-clause-room c = ap length c.deref_mut-3.ensures.value ∙ c.requires.room.multipliers multiplier.Whole

pub returns-clause-room : goal.returns-clause-room
returns-clause-room c =
    let forms = c.args.self.now in
    let kept = c.requires.room in
    record {
      given = sym (with_items forms.given c.put_multiplier-4.new.forms).ok.0 ∙ forms.given.ok.0 ∙ kept.given;
      multipliers = each-multiplier _ (sym (with_items forms.free c.put_multiplier.new.forms).ok.0 ∙ forms.free.ok.0 ∙ kept.multipliers multiplier.Nothing)
          (sym (with_items forms.half c.put_multiplier-2.new.forms).ok.0 ∙ forms.half.ok.0 ∙ kept.multipliers multiplier.Half)
          (sym (with_items forms.whole c.put_multiplier-3.new.forms).ok.0 ∙ forms.whole.ok.0 ∙ kept.multipliers multiplier.Whole);
    }
