-- The next task begins with what it opens with.
use Rattle.std.proofs.Common.{ℕ, ◌+◌, ap, ◌∙◌}
use Rattle.task_table.specs.Clones.{opened}
use Rattle.kernel_model.specs.declared.kernel.Kernel.{Kernel}
use Rattle.kernel_model.specs.opening.Opening.{made_by}
use Rattle.proc_cells.specs.Beside.{nothing_beside}
use Rattle.call_table.proofs.Openings.{with_next}
use Rattle.call_table.proofs.processes.Processes.open.Goals as goal

pub returns-clause-begun : goal.returns-clause-begun
returns-clause-begun c = λ beside n seed at.
    c.in_ok-cells.ensures beside n
    ∙ with_next c.args.self.cells (c.last-number.result + 1) c.args.opening.now.root
    c.in_ok-beginning.beginning.registers
    c.in_ok-beginning.beginning.space c.args.opening.now.program.now c.args.image.now c.args.opening.now.seed.now
    beside n
    (ap (λ (k : ℕ). k + 1) c.last-number.ensures) c.in_ok-beginning.ensures.registers
    c.in_ok-beginning.ensures.space seed at

pub returns-clause-tasks : goal.returns-clause-tasks
returns-clause-tasks c =
    ap (λ (k : Kernel). k.tasks) (c.in_ok-cells.ensures nothing_beside 0)
    ∙ ap (λ (k : ℕ). opened c.args.self.cells.tasks (made_by (k + 1)) (made_by (k + 1)) c.args.opening.now.root)
    c.last-number.ensures
