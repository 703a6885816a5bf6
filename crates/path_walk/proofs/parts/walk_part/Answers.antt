use Rattle.std.proofs.Common.{arith}
use Rattle.path_walk.specs.Moves.{going_by}
use Rattle.path_walk.proofs.Parting.{by_directory}
use Rattle.path_walk.proofs.parts.walk_part.Goals as goal

pub returns-clause-moves : goal.returns-clause-moves
returns-clause-moves g c = λ t stands.
    let k = c.kind.ensures t (c.directory_part.ensures.stays t stands) in
    by_directory (going_by c.args.rules.tree.now c.args.rules.want c.args.rules.follow) c.args.here c.args.part.now
    c.args.behind.slash c.args.behind.at_end t c.directory_part.result
    (grind (arith, k, c.is_dir.ensures, c.if-not-is_dir.false, c.if-not-is_dir.ensures))
    (c.directory_part.ensures.moves t stands)
