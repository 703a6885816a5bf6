-- A task is listed with each of three.
use Rattle.std.proofs.Common.{◌≡◌, true}
use Rattle.parked_tasks.specs.Used.{is_listed_in, IsEndListed}
use Rattle.parked_tasks.specs.declared.used.Used.TheVariants.{Table, Description, Pipe}
use Rattle.parked_tasks.proofs.Results.{on_ok}
use Rattle.parked_tasks.proofs.index.Index.list_end.Goals as goal

pub returns-clause-listed : goal.returns-clause-listed
returns-clause-listed c =
    let task = c.args.task in
    let end = c.args.end in
    on_ok (λ u. is_listed_in c.list_with-3.new.self (Pipe end.pipe) task ≡ true)
    (λ u. IsEndListed c.list_with-3.new.self task c.args.table end) c.list_with-3.result
    (λ u listed. record {
      table =
          c.list_with-3.ensures.more (Table c.args.table) task
          (c.list_with-2.ensures.more (Table c.args.table) task c.in_ok-list_with.ensures.listed);
      description = c.list_with-3.ensures.more (Description end.description) task c.in_ok-list_with-2.ensures.listed;
      pipe = listed;
    }) c.list_with-3.ensures.listed
