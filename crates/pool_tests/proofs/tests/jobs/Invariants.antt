use Rattle.std.proofs.Common.{◌≡◌, true}
use Rattle.std.specs.List.{list_all}
use Rattle.worker_pool.specs.Accounts.{may_go}
use Rattle.pool_tests.proofs.tests.jobs.Given as goal

abbrev pub invariant-loop-number : goal.invariant-loop-number
invariant-loop-number l = list_all (λ j. may_go j.last) l.jobs.items ≡ true
