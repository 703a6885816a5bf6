use Rattle.std.proofs.Common.{length}
use Rattle.lisafs_wire.proofs.piece.+put_all.Given as goal

abbrev pub decreases-put_all : goal.decreases-put_all
decreases-put_all l = length l.pieces.now
