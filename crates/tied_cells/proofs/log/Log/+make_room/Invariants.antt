use Rattle.std.proofs.Common.{length}
use Rattle.tied_cells.proofs.log.Log.+make_room.Given as goal

abbrev pub decreases-make_room : goal.decreases-make_room
decreases-make_room g l = length l.held.now
