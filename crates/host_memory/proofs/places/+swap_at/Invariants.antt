-- What changes its place below takes one name less.
use Rattle.std.proofs.Common.{length}
use Rattle.host_memory.proofs.places.+swap_at.Given as goal

abbrev pub decreases-swap_at : goal.decreases-swap_at
decreases-swap_at l = length l.names.now
