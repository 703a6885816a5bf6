-- A list that lacked memory is as it was.
use Rattle.std.proofs.Common.{◌≡◌, ap, sym, ◌∙◌}
use Rattle.kernel_model.specs.Names.{with_named}
use Rattle.kernel_model.proofs.NamedMaps.{with_same}
use Rattle.parked_tasks.proofs.Results.{on_err}
use Rattle.parked_tasks.proofs.users.Users.list.Goals as goal

pub returns-in-Some-clause-err : goal.returns-in-Some-clause-err
returns-in-Some-clause-err c =
    let by_name = c.args.self.now.by_name in
    let place = c.args.name.place in
    let index = c.args.name.index in
    let tasks = c.in-Some.tasks.now in
    on_err c.insert.result
    (λ (same : c.insert.new.self ≡ tasks). ap (with_named by_name place index) same
    ∙ with_same by_name place index tasks (sym c.in-Some.ensures.value))
    c.insert.ensures.err
