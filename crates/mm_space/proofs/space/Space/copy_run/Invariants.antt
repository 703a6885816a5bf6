use Rattle.std.proofs.Common.{◌≡◌, ◌-◌, ◌≤◌, length, take}
use Rattle.mm_space.specs.Accesses.{byte_at, readable}
use Rattle.mm_space.specs.Runs.{bytes_from}
use Rattle.mm_space.specs.Spaces.{reach}
use Rattle.mm_space.proofs.space.Space.copy_run.Given as goal

abbrev pub invariant-loop-done : goal.invariant-loop-done
invariant-loop-done l = record {
  within : l.done ≤ length l.initial.buffer;
  taken : take l.done l.buffer ≡ bytes_from (byte_at readable (reach l.self l.handed)) l.at l.done;
}

abbrev pub decreases-loop-done : goal.decreases-loop-done
decreases-loop-done l = length l.initial.buffer - l.done
