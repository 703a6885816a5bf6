use Rattle.std.specs.Prelude.{◌/◌}
use Rattle.mm_areas.specs.Hints.{is_hint}
use Rattle.mm_space.proofs.RoomNear.{room_allows, room_ready}
use Rattle.mm_space.proofs.space.Space.has_room.Goals as goal

pub returns-clause-room : goal.returns-clause-room
returns-clause-room c =
    room_allows c.has_room_near.result (is_hint c.args.self.now.areas c.guess-hint.result (c.args.at / 4096))
    c.args.self.now c.args.at c.args.width c.ranges.at.fits c.has_room_near.ensures

pub returns-clause-ready : goal.returns-clause-ready
returns-clause-ready c =
    room_ready c.has_room_near.result (is_hint c.args.self.now.areas c.guess-hint.result (c.args.at / 4096))
    c.args.self.now c.args.at c.args.width c.ranges.at.fits c.has_room_near.ensures
