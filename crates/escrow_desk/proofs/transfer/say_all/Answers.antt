use Rattle.std.proofs.Common.{rules, ◌∙◌}
use Rattle.escrow_desk.proofs.ContentFacts.{said_rest}
use Rattle.escrow_desk.proofs.transfer.say_all.Goals as goal

pub loop-said-preserved : goal.loop-said-preserved
loop-said-preserved g c =
    let before = c.loop-said.invariant in
    record {
      within = search rules;
      said = said_rest (g.D.Desk.told c.args.desk.now) (g.D.Desk.told c.loop-said.desk) (g.D.Desk.told c.say.new.self) c.args.bytes.now c.loop-said.said c.in_ok-count.count before.said c.in_ok-count.ensures.said;
      counts = c.in_ok-count.ensures.counts ∙ before.counts;
    }
