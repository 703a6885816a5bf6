-- One task, which may be parked.
use Rattle.std.proofs.Common.{sym, ◌∙◌}
use Rattle.std.specs.FinMap as map
use Rattle.sn_base.proofs.Maps.{remove_absent}
use Rattle.parked_tasks.proofs.Woken.{none_of, one_looked_at}
use Rattle.parked_tasks.proofs.parked.look_at_one.Goals as goal

pub returns-in_ok-insert-clause-looked_at : goal.returns-in_ok-insert-clause-looked_at
returns-in_ok-insert-clause-looked_at c =
    one_looked_at c.args.awake.now c.insert.new.self c.args.task tt
    (map.contains_key c.args.parked.now c.args.task) (sym c.contains.ensures ∙ c.if-contains.true)
    c.in_ok-insert.ensures.ok

pub returns-else-contains-clause-parked : goal.returns-else-contains-clause-parked
returns-else-contains-clause-parked c =
    sym (remove_absent c.args.parked.now c.args.task
    (none_of (map.get c.args.parked.now c.args.task) (sym c.contains.ensures ∙ c.if-contains.false)))
