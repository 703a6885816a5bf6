-- The pages of the first buffer, which stay so, and then those of the others.
use Rattle.std.proofs.Common.{◌-◌, arith}
use Rattle.mm_space.proofs.ReadyRuns.{still_ready}
use Rattle.guest_access.proofs.Scattered.{ready_on}
use Rattle.guest_access.proofs.scattering.+own_each.Goals as goal

pub returns-in_ok-own_run-in-len1-up-clause-ready : goal.returns-in_ok-own_run-in-len1-up-clause-ready
returns-in_ok-own_run-in-len1-up-clause-ready t c =
    let a = c.args in
    ready_on c.own_each.new.space c.own_each.new.handed a.buffers.now _ c.in-len1-up.len_at_least a.count
    c.min-piece.result (a.count - c.min-piece.result) c.min-piece.ensures (omega (arith, c.min-piece.ensures))
    (still_ready c.own_run.new.self c.own_each.new.space c.own_run.new.handed c.own_each.new.handed
    c.own_each.ensures.still _ c.min-piece.result c.in_ok-own_run-in-len1-up.ensures.ready)
    c.own_each.result c.own_each.ensures.ready
