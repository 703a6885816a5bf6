use Rattle.std.proofs.Common.{◌∙◌, ap, sym, refl}
use Rattle.std.specs.List.{list_all}
use Rattle.pool_places.specs.Turns.{waits}
use Rattle.worker_pool.specs.Accounts.{here, is_over}
use Rattle.worker_pool.proofs.Weights.{parks_or, put_back}
use Rattle.worker_pool.proofs.Standings.{going_park, filled_park, parked_park}
use Rattle.worker_pool.proofs.desk.Desk.park.Goals as goal

pub invariant_of-self-clause-balanced : goal.invariant_of-self-clause-balanced
invariant_of-self-clause-balanced g c kept =
    let old = c.args.self.now in
    let new = c.park.new.self in
    let e = c.park.ensures in
    put_back g.T.Turn.number g.T.Turn.forked g.J.Handed.handed g.J.Handed.before
    (here old.places.ready.items old.places.parked.items old.places.ended.items)
    (here new.ready.items new.parked.items new.ended.items)
    c.args.tried.task old.knot c.redeem.new.knot c.args.share
    (parks_or (waits old.places.turns c.args.tried.began) old.places.ready.items old.places.parked.items new.ready.items
    new.parked.items old.places.ended.items new.ended.items c.args.tried e.ready e.parked e.ended)
    c.requires.number c.requires.forked c.redeem.ensures.knot (old.balanced (λ lost. kept (e.halt ∙ lost)))

pub invariant_of-self-clause-going : goal.invariant_of-self-clause-going
invariant_of-self-clause-going g c =
    let old = c.args.self.now.places in
    going_park g.T.Turn.last (waits old.turns c.args.tried.began) old.ready.items c.park.new.self.ready.items
    c.args.tried c.park.ensures.ready c.args.self.now.going c.requires.parked

pub invariant_of-self-clause-parked : goal.invariant_of-self-clause-parked
invariant_of-self-clause-parked g c =
    let old = c.args.self.now.places in
    parked_park g.T.Turn.last (waits old.turns c.args.tried.began) old.parked.items c.park.new.self.parked.items
    old.turns c.park.new.self.turns c.args.tried refl c.park.ensures.parked c.park.ensures.turns
    c.args.self.now.parked c.requires.parked

pub invariant_of-self-clause-over : goal.invariant_of-self-clause-over
invariant_of-self-clause-over g c = ap (list_all (λ t. is_over (g.T.Turn.last t))) c.park.ensures.ended ∙
    c.args.self.now.over

pub invariant_of-self-clause-full : goal.invariant_of-self-clause-full
invariant_of-self-clause-full g c full =
    let old = c.args.self.now.places in
    filled_park g.T.Turn.last (waits old.turns c.args.tried.began) old.ready.items c.park.new.self.ready.items
    c.args.tried c.park.ensures.ready (c.args.self.now.full (sym c.park.ensures.halt ∙ full))
