use Rattle.std.proofs.Common.{◌∙◌, length, ap, sym}
use Rattle.std.specs.Vec.{with_items}
use Rattle.dual_tune.specs.declared.steps.Side.TheVariants as side
use Rattle.dual_tune.proofs.TableFacts.{each-side}
use Rattle.dual_tune.proofs.table.put_date.Goals as goal

pub put_step-requires-clause-room : goal.put_step-requires-clause-room
put_step-requires-clause-room c = ap length c.deref_mut.ensures.value ∙ c.requires.room side.Before

pub put_step-requires-2-clause-room : goal.put_step-requires-2-clause-room
put_step-requires-2-clause-room c = ap length c.deref_mut-2.ensures.value ∙ c.requires.room side.After

pub returns-clause-room : goal.returns-clause-room
returns-clause-room c =
    let date = c.args.date.now in
    each-side _ (sym (with_items date.before c.put_step.new.forms).ok.0 ∙ date.before.ok.0 ∙ c.requires.room side.Before)
    (sym (with_items date.after c.put_step-2.new.forms).ok.0 ∙ date.after.ok.0 ∙ c.requires.room side.After)
