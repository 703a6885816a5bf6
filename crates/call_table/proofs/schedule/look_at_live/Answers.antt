-- No live task has a number above the last.
use Rattle.std.proofs.Common.{◌≡◌, ◌≤◌, true, false, refl, arith}
use Rattle.std.specs.Prelude.{Option, Some, None, is_some}
use Rattle.std.specs.Option.{option_map_or}
use Rattle.std.specs.FinMap as map
use Rattle.task_table.specs.declared.task.Task.{Task}
use Rattle.call_table.proofs.schedule.look_at_live.Goals as goal

there : (o : Option Task) → option_map_or (λ (c : Task). c.live) o false ≡ true → is_some o ≡ true
there None e = e
there (Some c) e = refl

pub returns-clause-live : goal.returns-clause-live
returns-clause-live c task live off =
    let kept = c.loop-task.invariant.kept (omega (arith, c.loop-task-test.false)) in
    let within : task ≤ c.args.cells.now.tasks.last =
    (kept.task_numbers task (there (map.get c.args.cells.now.tasks.tasks task) live)).1 in
    c.loop-task.invariant.live task (omega (arith, within, c.loop-task-test.false, c.last-task-end.ensures)) live off
