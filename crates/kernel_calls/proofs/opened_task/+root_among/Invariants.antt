-- There are fewer mounts at each call.
use Rattle.std.proofs.Common.{length}
use Rattle.kernel_calls.proofs.opened_task.+root_among.Given as goal

abbrev pub decreases-root_among : goal.decreases-root_among
decreases-root_among l = length l.mounts.now
