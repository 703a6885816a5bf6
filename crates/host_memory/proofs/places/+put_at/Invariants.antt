-- What is put below takes one name less.
use Rattle.std.proofs.Common.{length}
use Rattle.host_memory.proofs.places.+put_at.Given as goal

abbrev pub decreases-put_at : goal.decreases-put_at
decreases-put_at l = length l.names.now
