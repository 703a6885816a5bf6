-- Each buffer is gone over once.
use Rattle.std.proofs.Common.{length}
use Rattle.guest_access.proofs.scattering.+put_each.Given as goal

abbrev pub decreases-put_each : goal.decreases-put_each
decreases-put_each l = length l.buffers.now
