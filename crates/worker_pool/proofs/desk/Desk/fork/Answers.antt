use Rattle.std.proofs.Common.{◌∷◌, ◌++◌, [], ◌∙◌, ap, sym, refl}
use Rattle.std.specs.List.{list_all}
use Rattle.pool_places.specs.Turns.{born}
use Rattle.worker_pool.specs.Accounts.{here, is_over}
use Rattle.worker_pool.proofs.Weights.{forks, put_both}
use Rattle.worker_pool.proofs.Standings.{going_both, going_put, filled_put}
use Rattle.worker_pool.proofs.desk.Desk.fork.Goals as goal

pub invariant_of-self-clause-balanced : goal.invariant_of-self-clause-balanced
invariant_of-self-clause-balanced g c kept =
    let old = c.args.self.now in
    let new = c.fork.new.self in
    let e = c.in-Ok.ensures in
    put_both g.T.Turn.number g.T.Turn.forked g.J.Handed.handed g.J.Handed.before
    (here old.places.ready.items old.places.parked.items old.places.ended.items)
    (here new.ready.items new.parked.items new.ended.items)
    c.args.tried.task c.args.child old.knot c.redeem.new.knot c.args.share
    (forks old.places.ready.items old.places.parked.items new.ready.items new.parked.items old.places.ended.items
    new.ended.items c.args.tried c.args.child e.queue e.parked e.ended)
    c.requires.number c.requires.forked c.requires.child c.redeem.ensures.knot
    (old.balanced (λ lost. kept (e.halt ∙ lost)))

pub invariant_of-self-clause-going : goal.invariant_of-self-clause-going
invariant_of-self-clause-going g c =
    let old = c.args.self.now.places in
    let last = g.T.Turn.last in
    going_put last (old.ready.items ++ old.parked.items ++ c.args.tried ∷ []) c.fork.new.self.ready.items
    (born c.args.child) c.in-Ok.ensures.queue
    (going_put last (old.ready.items ++ old.parked.items) (old.ready.items ++ old.parked.items ++ c.args.tried ∷ [])
    c.args.tried refl
    (going_both last old.turns old.ready.items old.parked.items (old.ready.items ++ old.parked.items) refl
    c.args.self.now.going c.args.self.now.parked)
    c.requires.going)
    c.requires.child_going

pub invariant_of-self-clause-over : goal.invariant_of-self-clause-over
invariant_of-self-clause-over g c = ap (list_all (λ t. is_over (g.T.Turn.last t))) c.in-Ok.ensures.ended ∙
    c.args.self.now.over

pub invariant_of-self-clause-full : goal.invariant_of-self-clause-full
invariant_of-self-clause-full g c full =
    let old = c.args.self.now.places in
    let last = g.T.Turn.last in
    filled_put last (old.ready.items ++ old.parked.items ++ c.args.tried ∷ []) (born c.args.child ∷ [])
    c.fork.new.self.ready.items c.in-Ok.ensures.queue
    (filled_put last (old.ready.items ++ old.parked.items) (c.args.tried ∷ []) (old.ready.items ++ old.parked.items ++
    c.args.tried ∷ []) refl
    (filled_put last old.ready.items old.parked.items (old.ready.items ++ old.parked.items) refl
    (c.args.self.now.full (sym c.in-Ok.ensures.halt ∙ full))))
