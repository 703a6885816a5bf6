-- What a call leaves that makes a child.
use mir.Val.{SFits}
use mir.Syntax.{w64}
use Rattle.std.proofs.Math.Facts.{to_z-of_z}
use Rattle.kernel_model.specs.machine.Registers.{replied}
use Rattle.std.proofs.Common.{◌≡◌, ◌+◌, ap, sym, refl, ◌∙◌, subst, IsTrue, pos, rules}
use Rattle.std.specs.FinMap as map
use Rattle.task_table.specs.Table.{TaskTable}
use Rattle.kernel_model.specs.declared.caller.Caller.{Caller}
use Rattle.kernel_model.specs.declared.kernel.Kernel.{Kernel}
use Rattle.kernel_calls.specs.Making.{with_new_child}
use Rattle.proc_cells.specs.Beside.{AreAtHome, nothing_beside}
use Rattle.proc_cells.specs.Cells.{kernel_of}
use Rattle.proc_cells.proofs.Homes.{at_home}
use Rattle.parked_tasks.proofs.Results.{both_err, by_result}
use Rattle.call_table.specs.Moves.{puts_to_sleep}
use Rattle.call_table.proofs.Moves.{OneMore, more_by_child, moves_child}
use Rattle.call_table.proofs.Homes.{child_registers, home_made, key_stays}
use Rattle.call_table.proofs.answers.make_child.Goals as goal

pub invariant_of-cells : goal.invariant_of-cells
invariant_of-cells c =
    let p = c.args.cells.now in
    let k : Kernel = kernel_of p nothing_beside 0 in
    let x : Caller =
    record (at_home p.tasks p.registers p.spaces c.args.context.now.task p.at_home c.requires.lives).0 {
      task = c.args.context.now.task;
      memory = c.args.context.now.memory;
      table = c.args.context.now.table;
    } in
    record {
      at_home =
          by_result c.make.result c.make.ensures.ok
          (both_err _ _ c.make.result c.make.ensures.err
          (both_err _ _ c.make.result c.make.ensures.err_registers c.make.ensures.err_spaces))
          (λ does.
          let is : with_new_child c.into_inner.result c.args.context.now.place x k
          ≡ record k {
            tasks = c.make.new.tasks;
            registers = c.make.new.registers;
            spaces = c.make.new.spaces;
            areas = c.make.new.areas;
            files = c.make.new.files;
          } = does x k refl refl refl refl refl refl refl refl in
          subst (λ (m : Kernel). AreAtHome m.tasks m.registers m.spaces) is
          (home_made c.into_inner.result c.args.context.now.place x k p.at_home c.requires.lives))
          (λ same.
          subst (λ (t : TaskTable). AreAtHome t c.make.new.registers c.make.new.spaces) (sym same.0)
          (subst (λ r. AreAtHome p.tasks r c.make.new.spaces) (sym same.1.0)
          (subst (λ s. AreAtHome p.tasks p.registers s) (sym same.1.1) p.at_home)));
    }

pub go_on-requires : goal.go_on-requires
go_on-requires c =
    let p = c.args.cells.now in
    let k : Kernel = kernel_of p nothing_beside 0 in
    let x : Caller =
    record (at_home p.tasks p.registers p.spaces c.args.context.now.task p.at_home c.requires.lives).0 {
      task = c.args.context.now.task;
      memory = c.args.context.now.memory;
      table = c.args.context.now.table;
    } in
    let is = c.in_ok-make.ensures.ok x k refl refl refl refl refl refl refl refl in
    subst (λ r. IsTrue (map.contains_key r c.args.context.now.task))
    (sym (child_registers c.into_inner.result c.args.context.now.place x k) ∙ ap (λ (m : Kernel). m.registers) is)
    (key_stays p.registers (p.tasks.last + 1) c.into_inner.result.registers c.args.context.now.task
    c.requires.registered)

pub returns-clause-does : goal.returns-clause-does
returns-clause-does c =
    let fits : SFits w64 c.from-value.result = search rules in (
      c.make.new.registers,
      c.go_on.ensures.registers
          ∙ ap (λ v. map.insert c.make.new.registers c.args.context.now.task (replied c.args.registers.now v))
          (to_z-of_z fits ∙ c.from-value.ensures ∙ ap (λ n. pos (n + 1)) c.last.ensures),
      λ x k task memory table tasks registers spaces areas files.
          ap (λ child. with_new_child child c.args.context.now.place x k) (sym c.into_inner.ensures)
          ∙ c.in_ok-make.ensures.ok x k task memory table tasks registers spaces areas files
          ∙ ap (λ t. record k {
            tasks = t;
            registers = c.make.new.registers;
            spaces = c.make.new.spaces;
            areas = c.make.new.areas;
            files = c.make.new.files;
          }) (sym c.go_on.ensures.tasks)
          ∙ ap (λ s. record k {
            tasks = c.go_on.new.cells.tasks;
            registers = c.make.new.registers;
            spaces = s;
            areas = c.make.new.areas;
            files = c.make.new.files;
          }) (sym c.go_on.ensures.spaces)
          ∙ ap (λ a. record k {
            tasks = c.go_on.new.cells.tasks;
            registers = c.make.new.registers;
            spaces = c.go_on.new.cells.spaces;
            areas = a;
            files = c.make.new.files;
          }) (sym c.go_on.ensures.areas)
          ∙ ap (λ f. record k {
            tasks = c.go_on.new.cells.tasks;
            registers = c.make.new.registers;
            spaces = c.go_on.new.cells.spaces;
            areas = c.go_on.new.cells.areas;
            files = f;
          }) (sym c.go_on.ensures.files),
    )

pub returns-clause-moves : goal.returns-clause-moves
returns-clause-moves c =
    let p = c.args.cells.now in
    let k : Kernel = kernel_of p nothing_beside 0 in
    let x : Caller =
    record (at_home p.tasks p.registers p.spaces c.args.context.now.task p.at_home c.requires.lives).0 {
      task = c.args.context.now.task;
      memory = c.args.context.now.memory;
      table = c.args.context.now.table;
    } in
    let is = c.in_ok-make.ensures.ok x k refl refl refl refl refl refl refl refl in
    moves_child c.args.context.now.task c.args.context.now.memory _ p c.go_on.new.cells
    (subst (λ (t : TaskTable). OneMore p.tasks t) (ap (λ (m : Kernel). m.tasks) is ∙ sym c.go_on.ensures.tasks)
    (more_by_child c.into_inner.result c.args.context.now.place x k))
    c.go_on.ensures.sleepers c.requires.awake (ap puts_to_sleep c.call_entry-entry.ensures) refl refl
