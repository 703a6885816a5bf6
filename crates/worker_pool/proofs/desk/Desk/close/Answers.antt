use Rattle.pool_places.specs.Ends.{left_of}
use Rattle.worker_pool.specs.Accounts.{is_parked}
use Rattle.worker_pool.proofs.Standings.{still_parked, stuck_map}
use Rattle.worker_pool.proofs.desk.Desk.close.Goals as goal

pub returns-clause-stuck : goal.returns-clause-stuck
returns-clause-stuck g c =
    let old = c.args.self.now in
    let left = left_of c.close.result in
    stuck_map c.close.result _ _
    (λ n h. (
      h.2,
      still_parked (λ t. is_parked (g.T.Turn.last t)) old.places.parked.items left old.places.turns n h.1
          h.0 old.parked,
    ))
    c.close.ensures.stuck
