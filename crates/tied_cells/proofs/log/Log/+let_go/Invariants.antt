use Rattle.std.proofs.Common.{length}
use Rattle.tied_cells.proofs.log.Log.+let_go.Given as goal

abbrev pub decreases-let_go : goal.decreases-let_go
decreases-let_go g l = length l.held.items
