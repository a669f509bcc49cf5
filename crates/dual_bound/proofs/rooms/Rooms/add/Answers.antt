use Rattle.std.proofs.Common.{◌++◌, [], ◌∷◌}
use Rattle.std.proofs.lemmas.List.Elements.{All-push, All-same}
use Rattle.dual_bound.specs.Rooms.{IsRoom}
use Rattle.dual_bound.proofs.rooms.Rooms.add.Goals as goal

pub returns : goal.returns
returns c =
    λ book known rooms.
    let is_room = IsRoom book c.args.tableau.now in
    All-same is_room c.push.new.self.items (c.args.self.now.rooms.items ++ c.in_ok-room.room ∷ []) c.in_ok-push.ensures.items
    (All-push is_room c.args.self.now.rooms.items c.in_ok-room.room rooms (c.in_ok-room.ensures book known))
