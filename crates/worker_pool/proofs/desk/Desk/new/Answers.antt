use Rattle.std.proofs.Common.{ap}
use Rattle.std.specs.List.{list_all}
use Rattle.worker_pool.specs.Accounts.{may_go, is_over}
use Rattle.worker_pool.proofs.Opening.{opened, all_ready}
use Rattle.worker_pool.proofs.Standings.{none_parked}
use Rattle.worker_pool.proofs.desk.Desk.new.Goals as goal

pub invariant_of-result-clause-balanced : goal.invariant_of-result-clause-balanced
invariant_of-result-clause-balanced g c kept =
    let places = c.in_ok-places.places in
    let ok = c.in_ok-places.ensures in
    opened g.T.Turn.number g.T.Turn.forked g.J.Handed.handed g.J.Handed.before c.args.handed.items places.ready.items
    places.parked.items places.ended.items c.args.knot
    c.requires.handed c.requires.before ok.ready ok.parked ok.ended c.requires.knot

pub invariant_of-result-clause-going : goal.invariant_of-result-clause-going
invariant_of-result-clause-going g c =
    all_ready (λ t. may_go (g.T.Turn.last t)) c.args.handed.items c.in_ok-places.places.ready.items
    c.in_ok-places.ensures.ready c.requires.going

pub invariant_of-result-clause-parked : goal.invariant_of-result-clause-parked
invariant_of-result-clause-parked g c =
    let places = c.in_ok-places.places in
    none_parked g.T.Turn.last places.turns places.parked.items c.in_ok-places.ensures.parked

pub invariant_of-result-clause-over : goal.invariant_of-result-clause-over
invariant_of-result-clause-over g c = ap (list_all (λ t. is_over (g.T.Turn.last t))) c.in_ok-places.ensures.ended
