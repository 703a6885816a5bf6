use Rattle.std.proofs.Common.{ap, ◌∙◌, ◌∷◌, [], subst, IsTrue}
use Rattle.std.specs.FinMap as table
use Rattle.tied_cells.proofs.Rooms.{rooms_first, on_ok}
use Rattle.tied_cells.proofs.log.Log.+make_room.Goals as goal

pub returns-in_ok-make_room_for-in-len1-up-clause-rooms : goal.returns-in_ok-make_room_for-in-len1-up-clause-rooms
returns-in_ok-make_room_for-in-len1-up-clause-rooms g t c =
    let now = c.make_room.new.self.counts in
    let mid = c.in_ok-make_room_for-in-len1-up.ensures.room in
    let here = (c.make_room.ensures.more (c.key-key.result ∷ []) (mid, tt)).0 in
    on_ok c.make_room.result
    (rooms_first (λ x. x.share.0) now c.args.held.now c.first-item.result c.in-len1-up.len_at_least c.first-item.is
    (subst (λ k. IsTrue (table.contains_key now k)) (c.key-key.ensures ∙ ap (λ x. x.share.0) c.deref.ensures) here))
    c.make_room.ensures.rooms
