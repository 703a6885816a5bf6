use Rattle.std.proofs.Common.{◌≡◌, ◌-◌, ◌≤◌, true, length, take}
use Rattle.mm_space.specs.Places.{AreAsReady, takes_no_memory}
use Rattle.mm_space.specs.Puts.{put_run}
use Rattle.mm_space.specs.Spaces.{reach}
use Rattle.mm_space.proofs.space.Space.put_run.Given as goal

abbrev pub invariant-loop-done : goal.invariant-loop-done
invariant-loop-done l = record {
  within : l.done ≤ length l.bytes;
  put : reach l.self l.handed ≡ put_run l.task l.at (take l.done l.bytes) (reach l.initial.self l.initial.handed);
  ready : takes_no_memory l.self l.handed l.at (length l.bytes) ≡ true;
  alike : AreAsReady l.initial.self l.self l.initial.handed l.handed;
}

abbrev pub decreases-loop-done : goal.decreases-loop-done
decreases-loop-done l = length l.bytes - l.done
