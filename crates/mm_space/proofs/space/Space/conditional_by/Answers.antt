-- A store-conditional by a guess at the page: there is room for it, so that its store is made.
use Rattle.std.proofs.Common.{◌≡◌, ◌/◌, true, refl}
use Rattle.mm_areas.specs.Hints.{is_hint}
use Rattle.mm_areas.specs.Mappings.{mapping}
use Rattle.mm_space.specs.Spaces.{space_of}
use Rattle.mm_space.proofs.NearConditionals.{conditional_done, from_true, not_on_false, not_on_true, on_false, on_true}
use Rattle.mm_space.proofs.RoomNear.{room_allows}
use Rattle.mm_space.proofs.space.Space.conditional_by.Goals as goal

pub returns-then-held-clause-done : goal.returns-then-held-clause-done
returns-then-held-clause-done c =
    let here = c.args.self.now in
    let has_room : c.has_room_near.result ≡ true = c.if-not-has_room_near.false in
    let room = c.has_room_near.ensures.0 has_room in
    conditional_done c.take-held.result here.areas here.reservations c.take-held.new.self
    (space_of c.store_by.new.self) c.args.task c.args.at c.args.width c.args.value c.ranges.at.fits room.1
    (from_true c.has_room_near.result has_room (room_allows c.has_room_near.result
    (is_hint here.areas c.args.hint (c.args.at / 4096)) here c.args.at c.args.width c.ranges.at.fits
    c.has_room_near.ensures))
    c.take-held.ensures.held c.take-held.ensures.ended
    (on_true c.take-held.result
    (from_true c.store_by.result (c.store_by.ensures.fits.1 room) c.store_by.ensures.done))
    (not_on_false _ c.take-held.result c.if-held.true)

pub returns-else-held-clause-done : goal.returns-else-held-clause-done
returns-else-held-clause-done c =
    let here = c.args.self.now in
    let has_room : c.has_room_near.result ≡ true = c.if-not-has_room_near.false in
    conditional_done c.take-held.result here.areas here.reservations c.take-held.new.self
    (record { mapping = mapping here.areas; reservations = c.take-held.new.self }) c.args.task c.args.at c.args.width
    c.args.value c.ranges.at.fits (c.has_room_near.ensures.0 has_room).1
    (from_true c.has_room_near.result has_room (room_allows c.has_room_near.result
    (is_hint here.areas c.args.hint (c.args.at / 4096)) here c.args.at c.args.width c.ranges.at.fits
    c.has_room_near.ensures))
    c.take-held.ensures.held c.take-held.ensures.ended
    (not_on_true _ c.take-held.result c.if-held.false) (on_false c.take-held.result refl)
