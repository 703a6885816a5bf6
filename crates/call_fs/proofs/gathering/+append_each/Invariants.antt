-- Each is gone over once.
use Rattle.std.proofs.Common.{length}
use Rattle.call_fs.proofs.gathering.+append_each.Given as goal

abbrev pub decreases-append_each : goal.decreases-append_each
decreases-append_each l = length l.buffers.now
