-- A look at what is below takes one name less.
use Rattle.std.proofs.Common.{length}
use Rattle.host_memory.proofs.places.+look_at.Given as goal

abbrev pub decreases-look_at : goal.decreases-look_at
decreases-look_at l = length l.names.now
