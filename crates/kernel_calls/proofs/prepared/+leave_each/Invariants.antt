-- Each is gone over once.
use Rattle.std.proofs.Common.{length}
use Rattle.kernel_calls.proofs.prepared.+leave_each.Given as goal

abbrev pub decreases-leave_each : goal.decreases-leave_each
decreases-leave_each l = length l.ended.now
