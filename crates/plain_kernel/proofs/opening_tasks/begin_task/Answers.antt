-- An opening execve that fails refuses the opening, and one that starts leaves the tasks.
use Rattle.std.proofs.Common.{◌+◌, ap, sym, ◌∙◌}
use Rattle.task_table.specs.Clones.{opened}
use Rattle.task_table.specs.Table.{TaskTable}
use Rattle.kernel_model.specs.declared.kernel.Kernel.{Kernel}
use Rattle.kernel_model.specs.opening.Opening.{made_by}
use Rattle.kernel_model.specs.opening.Opening.{execve_of, root_of, with_task}
use Rattle.kernel_model.specs.entries.Parts.{parts, outcome_in}
use Rattle.kernel_model.proofs.OpenedTasks.{opens_still}
use Rattle.plain_kernel.proofs.BeginLemmas.{fails_refused, starts_begun}
use Rattle.plain_kernel.proofs.WalkLemmas.{tasks_stay}
use Rattle.plain_kernel.proofs.opening_tasks.begin_task.Goals as goal

pub returns-in-Fails-clause-refused : goal.returns-in-Fails-clause-refused
returns-in-Fails-clause-refused c = λ rest.
    rw c.last-number.ensures
    (fails_refused (outcome_in (parts c.args.kernel.now) (execve_of (root_of c.args.kernel.now.mounts)
    c.args.program.now c.args.given.now))
    c.args.kernel.now c.execve.new.kernel c.in_ok-image.field-0 c.in-Fails.errno rest
    (with_task (c.args.kernel.now.tasks.last + 1) c.args.program.now) (c.args.kernel.now.tasks.last + 1)
    c.in_ok-image.ensures.does c.in-Fails.is)

pub add_task-requires-clause-room : goal.add_task-requires-clause-room
add_task-requires-clause-room c =
    opens_still c.args.kernel.now.tasks c.execve.new.kernel.tasks
    (tasks_stay c.args.kernel.now c.execve.new.kernel c.args.program.now c.args.given.now c.in_ok-image.field-0
    c.in-Starts.image c.in-Starts.is c.in_ok-image.ensures.does) c.requires.room

pub returns-in_ok-add_task-in-Starts-clause-ok : goal.returns-in_ok-add_task-in-Starts-clause-ok
returns-in_ok-add_task-in-Starts-clause-ok c = λ rest.
    starts_begun (outcome_in (parts c.args.kernel.now) (execve_of (root_of c.args.kernel.now.mounts)
    c.args.program.now c.args.given.now))
    c.args.kernel.now c.execve.new.kernel c.add_task.new.kernel c.in_ok-image.field-0 c.in-Starts.image rest
    (with_task (c.args.kernel.now.tasks.last + 1) c.args.program.now) (c.args.kernel.now.tasks.last + 1)
    c.in_ok-image.ensures.does c.in-Starts.is
    (c.in_ok-add_task-in-Starts.ensures
    ∙ ap (λ (list : TaskTable). with_task (list.last + 1) c.args.program.now c.in-Starts.image c.execve.new.kernel)
    (tasks_stay c.args.kernel.now c.execve.new.kernel c.args.program.now c.args.given.now c.in_ok-image.field-0
    c.in-Starts.image c.in-Starts.is c.in_ok-image.ensures.does))

pub returns-in_ok-add_task-in-Starts-clause-tasks : goal.returns-in_ok-add_task-in-Starts-clause-tasks
returns-in_ok-add_task-in-Starts-clause-tasks c =
    ap (λ (k : Kernel). k.tasks) c.in_ok-add_task-in-Starts.ensures
    ∙ ap (λ (list : TaskTable). opened list (made_by (list.last + 1)) (made_by (list.last + 1))
    (root_of c.execve.new.kernel.mounts))
    (tasks_stay c.args.kernel.now c.execve.new.kernel c.args.program.now c.args.given.now c.in_ok-image.field-0
    c.in-Starts.image c.in-Starts.is c.in_ok-image.ensures.does)
    ∙ ap (λ root. opened c.args.kernel.now.tasks (made_by (c.args.kernel.now.tasks.last + 1))
    (made_by (c.args.kernel.now.tasks.last + 1)) root)
    (sym (ap (λ (k : Kernel). root_of k.mounts) c.in_ok-add_task-in-Starts.ensures))
