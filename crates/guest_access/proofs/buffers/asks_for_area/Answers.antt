-- An access that comes to something at once looks at no area.
use Rattle.mm_space.specs.Handed.{hand_of}
use Rattle.guest_access.proofs.AccessLaws.{asks_not, bars_at_once}
use Rattle.guest_access.proofs.buffers.asks_for_area.Goals as goal

pub returns-in-Ok : goal.returns-in-Ok
returns-in-Ok c so s =
    let a = c.args in
    asks_not a.right a.space.now _ a.at a.count (hand_of c.none.result) c.space.view_is c.none.ensures s c.in-Ok.field-0
    c.in-Ok.ensures.room

pub returns-in-Err-Fault : goal.returns-in-Err-Fault
returns-in-Err-Fault c so s =
    let a = c.args in
    bars_at_once a.right a.space.now _ a.at a.count (hand_of c.none.result) c.space.view_is c.none.ensures s
    c.in-Err-Fault.field-0-0 (rw c.in-Err-Fault.field-0-is at c.in-Err-Fault.ensures.room)
