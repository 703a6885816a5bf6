-- Each task so far is new.
use Rattle.std.proofs.Common.{◌≡◌, true}
use Rattle.std.specs.List.{list_all}
use Rattle.worker_pool.specs.Accounts.{may_go}
use Rattle.pool_times.proofs.measures.fresh.Given as goal

abbrev pub invariant-loop-number : goal.invariant-loop-number
invariant-loop-number l = list_all (λ t. may_go t.last) l.tasks.items ≡ true
