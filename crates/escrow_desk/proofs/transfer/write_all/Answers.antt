use Rattle.std.proofs.Common.{rules, ◌∙◌}
use Rattle.escrow_desk.proofs.FilesFacts.{wrote_rest}
use Rattle.escrow_desk.proofs.transfer.write_all.Goals as goal

pub loop-written-preserved : goal.loop-written-preserved
loop-written-preserved g c =
    let before = c.loop-written.invariant in
    record {
      within = search rules;
      wrote = wrote_rest (g.D.Desk.told c.args.desk.now) (g.D.Desk.told c.loop-written.desk) (g.D.Desk.told c.append.new.self) c.args.name.now c.args.bytes.now c.loop-written.written c.in_ok-count.count before.wrote c.in_ok-count.ensures.appended;
      counts = c.in_ok-count.ensures.counts ∙ before.counts;
    }
