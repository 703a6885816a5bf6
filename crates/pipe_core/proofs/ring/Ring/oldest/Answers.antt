use Rattle.std.proofs.Common.{arith, ap, ◌+◌, ◌-◌, ◌++◌, ◌≡◌, ◌∙◌, take, drop}
use Rattle.pipe_core.proofs.Rounds.{two_runs}
use Rattle.pipe_core.proofs.ring.Ring.oldest.Goals as goal

pub returns : goal.returns
returns c =
    let q = c.self.inside in
    let first = c.min-first.result in
    let same : q.start + first - q.start ≡ first = omega arith in
    ap (λ s. take (q.start + first - q.start) (drop q.start s) ++ take (q.len - first) s) c.as_slice-slots.ensures.value
    ∙ ap (λ n. take n (drop q.start q.slots.items) ++ take (q.len - first) q.slots.items) same
    ∙ two_runs q.start q.len first q.slots.items c.self.invariant.1 c.self.invariant.2 c.self.invariant.0
    c.min-first.ensures
    ∙ c.self.view_is
