use Rattle.std.proofs.Common.{◌∙◌, ap, sym}
use Rattle.std.specs.List.{list_all}
use Rattle.worker_pool.specs.Accounts.{here, is_over}
use Rattle.worker_pool.proofs.Weights.{ends, put_back}
use Rattle.worker_pool.proofs.Standings.{going_both, filled_put, none_parked, all_push}
use Rattle.worker_pool.proofs.desk.Desk.end.Goals as goal

pub invariant_of-self-clause-balanced : goal.invariant_of-self-clause-balanced
invariant_of-self-clause-balanced g c kept =
    let old = c.args.self.now in
    let new = c.end.new.self in
    put_back g.T.Turn.number g.T.Turn.forked g.J.Handed.handed g.J.Handed.before
    (here old.places.ready.items old.places.parked.items old.places.ended.items)
    (here new.ready.items new.parked.items new.ended.items)
    c.args.task old.knot c.redeem.new.knot c.args.share
    (ends old.places.ready.items old.places.parked.items new.ready.items new.parked.items old.places.ended.items
    new.ended.items c.args.task c.end.ensures.ready c.end.ensures.parked c.end.ensures.ended)
    c.requires.number c.requires.forked c.redeem.ensures.knot (old.balanced (λ lost. kept (c.end.ensures.halt ∙ lost)))

pub invariant_of-self-clause-parked : goal.invariant_of-self-clause-parked
invariant_of-self-clause-parked g c =
    none_parked g.T.Turn.last c.end.new.self.turns c.end.new.self.parked.items c.end.ensures.parked

pub invariant_of-self-clause-going : goal.invariant_of-self-clause-going
invariant_of-self-clause-going g c =
    let old = c.args.self.now.places in
    going_both g.T.Turn.last old.turns old.ready.items old.parked.items c.end.new.self.ready.items c.end.ensures.ready
    c.args.self.now.going c.args.self.now.parked

pub invariant_of-self-clause-over : goal.invariant_of-self-clause-over
invariant_of-self-clause-over g c =
    ap (list_all (λ t. is_over (g.T.Turn.last t))) c.end.ensures.ended
    ∙ all_push (λ t. is_over (g.T.Turn.last t)) c.args.self.now.places.ended.items c.args.task c.args.self.now.over
    c.requires.over

pub invariant_of-self-clause-full : goal.invariant_of-self-clause-full
invariant_of-self-clause-full g c full =
    let old = c.args.self.now.places in
    filled_put g.T.Turn.last old.ready.items old.parked.items c.end.new.self.ready.items c.end.ensures.ready
    (c.args.self.now.full (sym c.end.ensures.halt ∙ full))
