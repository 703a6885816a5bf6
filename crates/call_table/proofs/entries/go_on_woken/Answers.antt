-- The call of a task that was woken is a step of the kernel.
use Rattle.std.proofs.Common.{◌+◌, ap, sym, refl, ◌∙◌, [], pos}
use Rattle.kernel_model.specs.declared.entry.Entry.{Entry}
use Rattle.kernel_model.specs.Names.{get_named}
use Rattle.kernel_model.specs.machine.Registers.{args_of, call_of, replied}
use Rattle.kernel_model.specs.entries.Steps.{step}
use Rattle.proc_cells.specs.Beside.{HeldParts, kernel_with}
use Rattle.proc_cells.specs.Cells.{held_by, kernel_of}
use Rattle.call_table.specs.Moves.{puts_to_sleep}
use Rattle.call_table.proofs.Moves.{moves_woken, others_go_on}
use Rattle.call_table.proofs.Steps.{step_woken}
use Rattle.call_table.proofs.entries.go_on_woken.Goals as goal
use Rattle.std.specs.Prelude.{Some}

pub returns-clause-step : goal.returns-clause-step
returns-clause-step c = λ beside n.
    let p = c.args.cells.now in
    let r = c.args.standing.now.registers in
    ap (λ (e : Entry). step (kernel_of p beside n) e) c.call_entry.ensures
    ∙ step_woken p c.args.task c.args.standing.now c.requires.stands (call_of r) (args_of r)
    (record { fresh = []; rises = [] }) c.leave.new.self c.go_on.new.cells.registers beside n c.requires.woken refl refl
    refl c.leave.ensures c.go_on.ensures.registers
    ∙ ap (λ (h : HeldParts). Some (kernel_with h beside (n + 1))) (
    ap (λ x. record (held_by p) { registers = c.go_on.new.cells.registers; sleepers = x })
    (sym c.go_on.ensures.sleepers)
    ∙ ap (λ x. record (held_by p) {
      registers = c.go_on.new.cells.registers;
      sleepers = c.go_on.new.cells.sleepers;
      tasks = x;
    }) (sym c.go_on.ensures.tasks)
    ∙ ap (λ x. record (held_by p) {
      registers = c.go_on.new.cells.registers;
      sleepers = c.go_on.new.cells.sleepers;
      tasks = c.go_on.new.cells.tasks;
      spaces = x;
    }) (sym c.go_on.ensures.spaces)
    ∙ ap (λ x. record (held_by p) {
      registers = c.go_on.new.cells.registers;
      sleepers = c.go_on.new.cells.sleepers;
      tasks = c.go_on.new.cells.tasks;
      spaces = c.go_on.new.cells.spaces;
      areas = x;
    }) (sym c.go_on.ensures.areas)
    ∙ ap (λ x. record (held_by c.go_on.new.cells) { files = x; console = p.console }) (sym c.go_on.ensures.files)
    ∙ ap (λ x. record (held_by c.go_on.new.cells) { console = x }) (sym c.go_on.ensures.console))

pub returns-clause-moves : goal.returns-clause-moves
returns-clause-moves c =
    let p = c.args.cells.now in
    let q = c.go_on.new.cells in
    moves_woken c.args.task c.args.standing.now.memory _ p q c.go_on.ensures.tasks
    (c.go_on.ensures.sleepers ∙ c.leave.ensures) (ap puts_to_sleep c.call_entry.ensures)
    c.go_on.ensures.areas c.go_on.ensures.files (record {
      registers = λ other apart.
          others_go_on p.registers q.registers c.args.task other (replied c.args.standing.now.registers (pos 0))
          c.go_on.ensures.registers apart;
      spaces = λ name apart. ap (λ m. get_named m name.place name.index) c.go_on.ensures.spaces;
    })
