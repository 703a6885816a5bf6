use Rattle.std.proofs.Common.{◌≡◌, ℕ, subst}
use Rattle.std.specs.Prelude.{List, IfOk}
use Rattle.fd_table.proofs.ListLaws.{keys_listed}
use Rattle.fd_table.proofs.slots.open_numbers.Goals as goal

pub returns : goal.returns
returns c = subst (λ (ns : List ℕ). IfOk c.taken_places.result (λ places. places.items ≡ ns))
    (keys_listed c.args.slots.now) c.taken_places.ensures
