use Rattle.worker_pool.proofs.Endings.{all_over_where}
use Rattle.worker_pool.proofs.pool.Pool.run.Goals as goal

pub returns-clause-all_ended : goal.returns-clause-all_ended
returns-clause-all_ended g c =
    all_over_where g.T.Turn.last c.run_named.result c.run_named.ensures.over c.run_named.ensures.stuck
    c.run_named.ensures.full
