-- The bytes are put where each of them may be written, or nothing changes.
use Rattle.mm_space.specs.Handed.{hand_of}
use Rattle.guest_access.proofs.AccessLaws.{none_written, all_written, there_behind}
use Rattle.guest_access.proofs.buffers.write_with.Goals.{in-Ok, in-Err-Memory}
use Rattle.guest_access.proofs.buffers.write_with.Goals as goal

pub returns-then-not-branch-clause-wrote : goal.returns-then-not-branch-clause-wrote
returns-then-not-branch-clause-wrote c =
    none_written c.args.task c.args.space.now c.args.at c.args.bytes.now (hand_of c.args.handed.now)
    (hand_of c.access.new.handed) c.requires c.args.areas.now c.access.new.areas c.in_ok-access.field-0
    c.in_ok-access.ensures.comes c.in_ok-access.ensures.back c.if-not-branch.true

pub returns-clause-there : goal.returns-clause-there
returns-clause-there c =
    there_behind c.args.task _ _ c.args.at c.args.bytes.now (hand_of c.access.new.handed) (hand_of c.write.new.handed)
    c.write.result c.write.ensures.ok c.write.ensures.err c.access.new.areas c.access.ensures.there

pub returns-clause-wrote : goal.returns-clause-wrote
returns-clause-wrote c =
    elim c.match-write.branch [
      | in-Ok w ↦ rw w.result-is (all_written c.args.task c.args.space.now c.args.at c.args.bytes.now
          (hand_of c.args.handed.now) (hand_of c.access.new.handed) c.requires c.args.areas.now c.access.new.areas
          c.in_ok-access.field-0 c.in_ok-access.ensures.comes c.in_ok-access.ensures.back c.if-not-branch.false
          c.access.ensures.there _ _ c.space.view_is (hand_of c.write.new.handed) w.in-Ok.ensures.ok)
      | in-Err-Memory w ↦ rw w.result-is tt
    ]
