-- The keys of a list are the tasks that are listed.
use Rattle.std.proofs.Common.{◌≡◌, ℕ}
use Rattle.std.specs.FinMap as map
use Rattle.parked_tasks.specs.Users.{is_among, is_listed}
use Rattle.parked_tasks.proofs.Results.{on_ok}
use Rattle.parked_tasks.proofs.UserLists.{among_listed}
use Rattle.parked_tasks.proofs.users.Users.listed.Goals as goal

pub returns-in-Some : goal.returns-in-Some
returns-in-Some c =
    let by_name = c.args.self.now.by_name in
    on_ok (λ keys. keys ≡ map.keys c.in-Some.tasks.now)
    (λ keys. (task : ℕ) → is_among task keys ≡ is_listed by_name c.args.name task) c.keys.result
    (λ keys e. among_listed by_name c.args.name c.in-Some.tasks.now keys c.in-Some.ensures e) c.keys.ensures
