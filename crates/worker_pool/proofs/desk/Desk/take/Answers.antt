use Rattle.std.proofs.Common.{◌∷◌, ◌∙◌, ap, sym}
use Rattle.std.specs.List.{list_all}
use Rattle.worker_pool.specs.Accounts.{here, may_go, is_parked, is_over}
use Rattle.worker_pool.proofs.Weights.{takes, taken}
use Rattle.worker_pool.proofs.Standings.{all_taken, still_parked}
use Rattle.worker_pool.proofs.desk.Desk.take.Goals as goal

pub invariant_of-self-2-clause-balanced : goal.invariant_of-self-2-clause-balanced
invariant_of-self-2-clause-balanced g c kept =
    let old = c.args.self.now in
    let new = c.take.new.self in
    let ok = c.in_ok-tried.ensures in
    taken g.T.Turn.number g.T.Turn.forked g.J.Handed.handed g.J.Handed.before
    (here old.places.ready.items old.places.parked.items old.places.ended.items)
    (here new.ready.items new.parked.items new.ended.items)
    c.in_ok-tried.tried.task old.knot c.issue-share.new.knot c.issue-share.result
    (takes old.places.ready.items old.places.parked.items new.ready.items new.parked.items old.places.ended.items
    new.ended.items c.in_ok-tried.tried.task ok.first ok.parked ok.ended)
    (ap (λ n. n.number) c.issue-share.ensures.share) (ap (λ n. n.forked) c.issue-share.ensures.share)
    (c.issue-share.ensures.knot ∙ ap (λ n. (n ∷ old.knot.0, old.knot.1)) (sym c.issue-share.ensures.share))
    (old.balanced (λ lost. kept (ok.same.1 ∙ lost)))

pub invariant_of-self-2-clause-going : goal.invariant_of-self-2-clause-going
invariant_of-self-2-clause-going g c =
    let old = c.args.self.now in
    (all_taken (λ t. may_go (g.T.Turn.last t)) old.places.ready.items c.take.new.self.ready.items
    c.in_ok-tried.tried.task c.in_ok-tried.ensures.first old.going).1

pub invariant_of-result-clause-going : goal.invariant_of-result-clause-going
invariant_of-result-clause-going g c =
    let old = c.args.self.now in
    (all_taken (λ t. may_go (g.T.Turn.last t)) old.places.ready.items c.take.new.self.ready.items
    c.in_ok-tried.tried.task c.in_ok-tried.ensures.first old.going).0

pub invariant_of-self-2-clause-parked : goal.invariant_of-self-2-clause-parked
invariant_of-self-2-clause-parked g c =
    let old = c.args.self.now in
    let ok = c.in_ok-tried.ensures in
    still_parked (λ t. is_parked (g.T.Turn.last t)) old.places.parked.items c.take.new.self.parked.items
    old.places.turns c.take.new.self.turns ok.parked ok.same.0 old.parked

pub invariant_of-self-2-clause-over : goal.invariant_of-self-2-clause-over
invariant_of-self-2-clause-over g c = ap (list_all (λ t. is_over (g.T.Turn.last t))) c.in_ok-tried.ensures.ended ∙
    c.args.self.now.over
