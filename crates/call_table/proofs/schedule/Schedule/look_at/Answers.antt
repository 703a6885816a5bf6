-- A task whose call waits is parked, and behind an entry all is settled.
use Rattle.std.proofs.Common.{◌≡◌, subst, sym}
use Rattle.kernel_model.specs.entries.Steps.{task_of}
use Rattle.proc_cells.specs.Cells.{AreKept}
use Rattle.call_table.specs.Entries.{if_enters, if_waits}
use Rattle.call_table.specs.Moves.{LeavesRest}
use Rattle.call_table.specs.Parks.{Parks}
use Rattle.call_table.proofs.Parks.{parks_still}
use Rattle.call_table.proofs.ParkingSteps.{parked_but, parked_more, parked_still}
use Rattle.call_table.proofs.schedule.Schedule.look_at.Goals as goal

pub returns-in-Waits-clause-parked : goal.returns-in-Waits-clause-parked
returns-in-Waits-clause-parked c =
    let before = c.args.self.now.cells in
    let after = c.advance.new.cells in
    let kept = subst (if_waits (λ _. AreKept before after)) c.in-Waits.is c.in_ok-made.ensures.kept in
    let parks = subst (if_waits (Parks before c.args.task)) c.in-Waits.is c.in_ok-made.ensures.parks in
    parked_more after c.args.self.now.parking c.park.new.self
    (parked_still before after c.args.self.now.parking kept c.requires.parked) c.args.task c.in-Waits.spot
    (parks_still before after c.args.task c.in-Waits.spot kept parks) c.in_ok-park-in-Waits.ensures.awake
    c.in_ok-park-in-Waits.ensures.parked

pub returns-clause-parked : goal.returns-clause-parked
returns-clause-parked c =
    let before = c.args.self.now.cells in
    c.in_ok-settle.ensures.parked c.args.task before
    (sym (subst (if_enters (λ made. task_of made.entry ≡ c.args.task)) c.in-Enters.is c.in_ok-made.ensures.task))
    c.last-last.ensures
    (subst (if_enters (λ made. LeavesRest c.args.task c.standing-standing.result.memory made before
    c.advance.new.cells)) c.in-Enters.is c.in_ok-made.ensures.moves)
    (parked_but before c.args.self.now.parking c.args.self.now.parking c.requires.parked c.args.task
    c.requires.looked_at)
