use Rattle.std.proofs.Common.{◌≡◌, ◌-◌, ◌≤◌}
use Rattle.mm_space.specs.Accesses.{byte_at, readable}
use Rattle.mm_space.specs.Handed.{hand_of}
use Rattle.mm_space.specs.Runs.{bytes_from}
use Rattle.pipe_core.specs.Pipes.{after_write}
use Rattle.kernel_model.specs.machine.Spaces.{reach_with}
use Rattle.guest_access.proofs.sending.put_pieces.Given as goal

abbrev pub invariant-loop-done : goal.invariant-loop-done
invariant-loop-done l = record {
  within : l.done ≤ l.count;
  put : l.pipe ≡ after_write l.initial.pipe
      (bytes_from (byte_at readable (reach_with l.space (hand_of l.handed))) l.at l.done);
}

abbrev pub decreases-loop-done : goal.decreases-loop-done
decreases-loop-done l = l.count - l.done
