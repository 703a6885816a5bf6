use Rattle.path_walk.specs.Moves.{going_by}
use Rattle.path_walk.proofs.Parting.{by_inner, by_last}
use Rattle.path_walk.proofs.parts.directory_part.Goals as goal

pub returns-then-ends_before-clause-moves : goal.returns-then-ends_before-clause-moves
returns-then-ends_before-clause-moves g c = λ t stands.
    by_last (going_by c.args.rules.tree.now c.args.rules.want c.args.rules.follow) c.args.dir c.args.part.now
    c.args.behind.slash c.args.behind.at_end t c.last_part.result
    (cc (c.ends_before.ensures, c.if-ends_before.true)) (c.last_part.ensures.moves t)

pub returns-clause-moves : goal.returns-clause-moves
returns-clause-moves g c = λ t stands.
    by_inner (going_by c.args.rules.tree.now c.args.rules.want c.args.rules.follow) c.args.dir c.args.part.now
    c.args.behind.slash c.args.behind.at_end t c.searched_part.result
    (cc (c.ends_before.ensures, c.if-ends_before.false)) (c.searched_part.ensures.moves t stands)
