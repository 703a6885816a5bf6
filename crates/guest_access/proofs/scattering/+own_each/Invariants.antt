-- Each buffer is gone over once.
use Rattle.std.proofs.Common.{length}
use Rattle.guest_access.proofs.scattering.+own_each.Given as goal

abbrev pub decreases-own_each : goal.decreases-own_each
decreases-own_each l = length l.buffers.now
