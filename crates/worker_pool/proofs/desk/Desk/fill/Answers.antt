use Rattle.std.proofs.Common.{◌++◌, ◌∙◌, ap, refl}
use Rattle.std.specs.List.{list_all}
use Rattle.pool_places.specs.Turns.{filled}
use Rattle.worker_pool.specs.Accounts.{here, is_over}
use Rattle.worker_pool.proofs.Weights.{puts, put_back}
use Rattle.worker_pool.proofs.Standings.{going_both, going_put, filled_now, none_parked, may_go_full}
use Rattle.worker_pool.proofs.desk.Desk.fill.Goals as goal

pub invariant_of-self-clause-balanced : goal.invariant_of-self-clause-balanced
invariant_of-self-clause-balanced g c kept =
    let old = c.args.self.now in
    let new = c.fill.new.self in
    put_back g.T.Turn.number g.T.Turn.forked g.J.Handed.handed g.J.Handed.before
    (here old.places.ready.items old.places.parked.items old.places.ended.items)
    (here new.ready.items new.parked.items new.ended.items)
    c.args.tried.task old.knot c.redeem.new.knot c.args.share
    (puts old.places.ready.items old.places.parked.items new.ready.items new.parked.items old.places.ended.items
    new.ended.items c.args.tried c.fill.ensures.queue c.fill.ensures.parked c.fill.ensures.ended)
    c.requires.number c.requires.forked c.redeem.ensures.knot
    (old.balanced (λ lost. kept (c.fill.ensures.halt ∙ ap filled lost)))

pub invariant_of-self-clause-going : goal.invariant_of-self-clause-going
invariant_of-self-clause-going g c =
    let old = c.args.self.now.places in
    let last = g.T.Turn.last in
    going_put last (old.ready.items ++ old.parked.items) c.fill.new.self.ready.items c.args.tried c.fill.ensures.queue
    (going_both last old.turns old.ready.items old.parked.items (old.ready.items ++ old.parked.items) refl
    c.args.self.now.going c.args.self.now.parked)
    (may_go_full last c.args.tried c.requires.full)

pub invariant_of-self-clause-parked : goal.invariant_of-self-clause-parked
invariant_of-self-clause-parked g c =
    none_parked g.T.Turn.last c.fill.new.self.turns c.fill.new.self.parked.items c.fill.ensures.parked

pub invariant_of-self-clause-over : goal.invariant_of-self-clause-over
invariant_of-self-clause-over g c = ap (list_all (λ t. is_over (g.T.Turn.last t))) c.fill.ensures.ended ∙
    c.args.self.now.over

pub invariant_of-self-clause-full : goal.invariant_of-self-clause-full
invariant_of-self-clause-full g c full =
    let old = c.args.self.now.places in
    filled_now g.T.Turn.last (old.ready.items ++ old.parked.items) c.fill.new.self.ready.items c.args.tried
    c.fill.ensures.queue c.requires.full
