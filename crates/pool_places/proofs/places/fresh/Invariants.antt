use Rattle.std.proofs.Common.{◌≡◌, ◌+◌, ◌≤◌, ◌++◌, map}
use Rattle.std.specs.Vec.{vec_len}
use Rattle.std.specs.VecDeque.{deque_len, deque_capacity}
use Rattle.pool_places.proofs.places.fresh.Given as goal

abbrev pub decreases-loop-task : goal.decreases-loop-task
decreases-loop-task g l = deque_len l.tasks

abbrev pub invariant-loop-task : goal.invariant-loop-task
invariant-loop-task g l =
    (map (λ t. t.task) l.ready.items ++ l.tasks.items ≡ l.fn.tasks.items) ×
    (deque_len l.ready + deque_len l.tasks ≡ vec_len l.fn.tasks) × (l.room ≤ deque_capacity l.ready)
