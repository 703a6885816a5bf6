-- Each is gone over once.
use Rattle.std.proofs.Common.{length}
use Rattle.kernel_calls.proofs.prepared.+wake_each.Given as goal

abbrev pub decreases-wake_each : goal.decreases-wake_each
decreases-wake_each l = length l.keys.now
