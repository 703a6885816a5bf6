use Rattle.std.proofs.Common.{◌∷◌, ◌++◌, [], ◌∙◌, ap, sym, refl}
use Rattle.std.specs.List.{list_all}
use Rattle.worker_pool.specs.Accounts.{here, is_over}
use Rattle.worker_pool.proofs.Weights.{puts, put_back}
use Rattle.worker_pool.proofs.Standings.{going_both, going_put, filled_put, none_parked}
use Rattle.worker_pool.proofs.desk.Desk.put.Goals as goal

pub invariant_of-self-clause-balanced : goal.invariant_of-self-clause-balanced
invariant_of-self-clause-balanced g c kept =
    let old = c.args.self.now in
    let new = c.put.new.self in
    put_back g.T.Turn.number g.T.Turn.forked g.J.Handed.handed g.J.Handed.before
    (here old.places.ready.items old.places.parked.items old.places.ended.items)
    (here new.ready.items new.parked.items new.ended.items)
    c.args.tried.task old.knot c.redeem.new.knot c.args.share
    (puts old.places.ready.items old.places.parked.items new.ready.items new.parked.items old.places.ended.items
    new.ended.items c.args.tried c.put.ensures.queue c.put.ensures.parked c.put.ensures.ended)
    c.requires.number c.requires.forked c.redeem.ensures.knot (old.balanced (λ lost. kept (c.put.ensures.halt ∙ lost)))

pub invariant_of-self-clause-going : goal.invariant_of-self-clause-going
invariant_of-self-clause-going g c =
    let old = c.args.self.now.places in
    let last = g.T.Turn.last in
    going_put last (old.ready.items ++ old.parked.items) c.put.new.self.ready.items c.args.tried c.put.ensures.queue
    (going_both last old.turns old.ready.items old.parked.items (old.ready.items ++ old.parked.items) refl
    c.args.self.now.going c.args.self.now.parked)
    c.requires.going

pub invariant_of-self-clause-parked : goal.invariant_of-self-clause-parked
invariant_of-self-clause-parked g c =
    none_parked g.T.Turn.last c.put.new.self.turns c.put.new.self.parked.items c.put.ensures.parked

pub invariant_of-self-clause-over : goal.invariant_of-self-clause-over
invariant_of-self-clause-over g c = ap (list_all (λ t. is_over (g.T.Turn.last t))) c.put.ensures.ended ∙
    c.args.self.now.over

pub invariant_of-self-clause-full : goal.invariant_of-self-clause-full
invariant_of-self-clause-full g c full =
    let old = c.args.self.now.places in
    let last = g.T.Turn.last in
    filled_put last (old.ready.items ++ old.parked.items) (c.args.tried ∷ []) c.put.new.self.ready.items
    c.put.ensures.queue
    (filled_put last old.ready.items old.parked.items (old.ready.items ++ old.parked.items) refl
    (c.args.self.now.full (sym c.put.ensures.halt ∙ full)))
