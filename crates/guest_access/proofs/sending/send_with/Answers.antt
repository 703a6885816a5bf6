-- The bytes go into the pipe where each of the buffer may be read, or nothing changes.
use Rattle.std.proofs.Common.{refl}
use Rattle.mm_space.specs.Accesses.{byte_at, readable}
use Rattle.mm_space.specs.Handed.{hand_of}
use Rattle.kernel_model.specs.machine.Spaces.{reach_with}
use Rattle.kernel_model.specs.entries.Areas.{bytes_read, bytes_with}
use Rattle.kernel_model.specs.entries.Parts.{outcome_in}
use Rattle.guest_access.proofs.AccessLaws.{all_read, none_read}
use Rattle.guest_access.proofs.Sendings.{sent_all, sent_none}
use Rattle.guest_access.proofs.sending.send_with.Goals as goal

pub returns-then-not-branch-clause-sent : goal.returns-then-not-branch-clause-sent
returns-then-not-branch-clause-sent c s those =
    let a = c.args in
    sent_none (outcome_in s (bytes_read a.space.now a.at a.count)) a.taken a.pipe.now
    (none_read a.space.now a.at a.count (hand_of a.handed.now) (hand_of c.access.new.handed) c.requires.none a.areas.now
    c.in_ok-access.field-0 c.in_ok-access.ensures.comes c.if-not-branch.true s those)

pub returns-clause-sent : goal.returns-clause-sent
returns-clause-sent c s those =
    let a = c.args in
    let last = hand_of c.access.new.handed in
    sent_all (byte_at readable (reach_with a.space.now last)) a.at a.count a.taken a.pipe.now c.put_pieces.new.pipe
    (outcome_in s (bytes_read a.space.now a.at a.count)) c.ranges.at.fits c.requires.within
    (all_read a.space.now a.at a.count (hand_of a.handed.now) last c.requires.none a.areas.now c.in_ok-access.field-0
    c.in_ok-access.ensures.comes c.if-not-branch.false a.space.now refl a.count refl
    (bytes_with a.space.now a.at a.count last) refl s those)
    c.put_pieces.ensures
