use Rattle.std.proofs.Common.{sym, ◌∙◌}
use Rattle.tied_cells.proofs.Rooms.{count_none, rooms_stay, room_here}
use Rattle.tied_cells.proofs.lending.make_room_for.Goals as goal

pub returns-in_ok-insert-clause-same : goal.returns-in_ok-insert-clause-same
returns-in_ok-insert-clause-same c =
    λ k. rw c.in_ok-insert.ensures.ok (count_none c.args.counts.now c.args.key k (sym c.contains.ensures
    ∙ c.if-not-contains.true))

pub returns-in_ok-insert-clause-more : goal.returns-in_ok-insert-clause-more
returns-in_ok-insert-clause-more c =
    λ keys rooms. rw c.in_ok-insert.ensures.ok (rooms_stay c.args.counts.now c.args.key 0 keys rooms)

pub returns-in_ok-insert-clause-room : goal.returns-in_ok-insert-clause-room
returns-in_ok-insert-clause-room c = rw c.in_ok-insert.ensures.ok (room_here c.args.counts.now c.args.key 0)
