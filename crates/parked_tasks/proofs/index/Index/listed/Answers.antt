-- The tasks that are listed with one thing.
use Rattle.std.proofs.Common.{◌≡◌, ℕ, ap, sym, ◌∙◌}
use Rattle.std.specs.FinMap as map
use Rattle.parked_tasks.specs.Used.{is_listed_in}
use Rattle.parked_tasks.specs.Users.{is_among}
use Rattle.parked_tasks.proofs.Results.{on_ok}
use Rattle.parked_tasks.proofs.UserLists.{among_keys}
use Rattle.parked_tasks.proofs.index.Index.listed.Goals as goal

pub returns-in-Areas : goal.returns-in-Areas
returns-in-Areas c =
    let index = c.args.self.now in
    on_ok (λ keys. keys ≡ map.keys index.in_areas)
    (λ keys. (task : ℕ) → is_among task keys ≡ is_listed_in index c.args.used task) c.keys.result
    (λ keys e task. among_keys index.in_areas keys e task ∙ ap (λ u. is_listed_in index u task) (sym c.in-Areas.is))
    c.keys.ensures
