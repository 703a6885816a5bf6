use Rattle.std.proofs.Common.{◌+◌, ◌%◌, ◌^◌, length, ap, sym, ◌∙◌}
use Rattle.mm_space.specs.Puts.{put_run}
use Rattle.mm_space.specs.Spaces.{reach}
use Rattle.mm_space.proofs.PageRuns.{put_split}
use Rattle.mm_space.proofs.Readied.{ready_same}
use Rattle.mm_space.proofs.ReadyRuns.{first_ready, rest_ready}
use Rattle.mm_space.proofs.space.Space.put_both.Goals as goal

pub put_run-requires : goal.put_run-requires
put_run-requires c =
    first_ready c.args.self.now c.args.handed.now c.args.at (length c.args.first.now) (length c.args.second.now)
    c.ranges.at.fits c.requires

pub put_run-requires-2 : goal.put_run-requires-2
put_run-requires-2 c =
    ready_same c.args.self.now c.put_run.new.self c.args.handed.now c.put_run.new.handed c.put_run.ensures.ready _ _
    ∙ rest_ready c.args.self.now c.args.handed.now c.args.at (length c.args.first.now) (length c.args.second.now)
    c.ranges.at.fits c.requires

pub returns-clause-put : goal.returns-clause-put
returns-clause-put c =
    c.put_run-2.ensures.put
    ∙ ap (put_run c.args.task ((c.args.at + length c.args.first.now) % 2 ^ 64) c.args.second.now) c.put_run.ensures.put
    ∙ sym (put_split c.args.task c.args.at c.args.first.now c.args.second.now
    (reach c.args.self.now c.args.handed.now) c.ranges.at.fits)

pub returns-clause-ready : goal.returns-clause-ready
returns-clause-ready c = λ address. c.put_run-2.ensures.ready address ∙ c.put_run.ensures.ready address
