use Rattle.std.proofs.Common.{◌≡◌, ◌+◌, vec_len, vec_capacity}
use Rattle.futex_core.proofs.Picks.{Picked}
use Rattle.futex_core.proofs.waiters.pick.Given as goal

abbrev pub invariant-loop-at : goal.invariant-loop-at
invariant-loop-at l =
    Picked (record { sleepers = l.initial.sleepers; woken = l.initial.woken.items }) l.key l.n l.sleepers
    l.woken.items l.left l.count l.at
    × (vec_len l.woken ≡ vec_len l.initial.woken + l.count)
    × (vec_capacity l.woken ≡ vec_capacity l.initial.woken)
