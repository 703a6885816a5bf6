use Rattle.std.proofs.Common.{arith}
use Rattle.path_walk.specs.Moves.{going_by}
use Rattle.path_walk.proofs.Parting.{by_searched}
use Rattle.path_walk.proofs.parts.searched_part.Goals as goal

pub returns-clause-moves : goal.returns-clause-moves
returns-clause-moves g c = λ t stands.
    let s = c.searchable.ensures t (c.by_part.ensures.stays t stands) in
    by_searched (going_by c.args.rules.tree.now c.args.rules.want c.args.rules.follow) c.args.dir c.args.part.now
    c.args.behind.slash c.args.behind.at_end t c.by_part.result
    (grind (arith, s, c.if-not-searchable.false, c.if-not-searchable.ensures)) (c.by_part.ensures.moves t stands)
