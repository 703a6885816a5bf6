use Rattle.mm_space.proofs.Readied.{lacking_all}
use Rattle.mm_space.proofs.space.Space.+own_all.Goals as goal

pub returns-in-Ok-clause-lacking : goal.returns-in-Ok-clause-lacking
returns-in-Ok-clause-lacking n c =
    lacking_all c.own_all.result c.args.self.now c.own_at.new.self c.args.handed.now c.own_at.new.handed c.args.at
    c.args.count c.if-count-eq0.false c.own_at.ensures.still c.own_all.ensures.lacking
