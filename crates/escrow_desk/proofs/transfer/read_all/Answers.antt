use Rattle.std.proofs.Common.{rules, ◌≡◌, true, ◌∙◌, length, take, drop}
use Rattle.std.proofs.lemmas.List.{take-append-le}
use Rattle.std.specs.Result.{is_ok}
use Rattle.escrow_desk.specs.Content.{Given}
use Rattle.escrow_desk.proofs.ContentFacts.{front_more}
use Rattle.escrow_desk.proofs.transfer.read_all.Goals as goal

pub pieces-preserved : goal.pieces-preserved
pieces-preserved g c =
    let good : is_ok c.extend_from_slice.result ≡ true = search rules in
    let part = take-append-le c.in-Ok.count c.read.new.into (drop c.if-more.most c.pieces.piece) c.in-Ok.ensures.count in
    let items = rw (good, part) at c.extend_from_slice.ensures.items in
    let before = c.pieces.invariant in
    let long : c.len-in-pieces-2.result ≡ length c.pieces.bytes.items = search rules in
    let given : Given (g.D.Desk.told c.args.desk.now) c.args.name.now (length c.pieces.bytes.items) (take c.if-more.most c.pieces.piece) c.in-Ok.count c.read.new.into = rw (before.told, long) at c.in-Ok.ensures.given in
    record {
      front = rw items (front_more (g.D.Desk.told c.args.desk.now) c.args.name.now c.pieces.bytes.items (take c.if-more.most c.pieces.piece) c.read.new.into c.in-Ok.count before.front given);
      told = c.read.ensures.told ∙ before.told;
      room = search rules;
      counts = c.in-Ok.ensures.counts ∙ before.counts;
    }
