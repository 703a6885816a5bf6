-- Each buffer is gone over once.
use Rattle.std.proofs.Common.{length}
use Rattle.guest_access.proofs.scattering.+access_each.Given as goal

abbrev pub decreases-access_each : goal.decreases-access_each
decreases-access_each l = length l.buffers.now
