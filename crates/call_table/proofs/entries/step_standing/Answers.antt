-- An instruction that touches a shared area is a step of the kernel, or nothing.
use Rattle.std.proofs.Common.{ap, sym, ◌∙◌, refl}
use Rattle.std.specs.FinMap as map
use Rattle.std.specs.Ordering.{nat_cmp}
use Rattle.rv_table.specs.declared.registers.Regs.{Regs}
use Rattle.kernel_model.specs.Names.{with_named}
use Rattle.kernel_model.specs.declared.traps.Next.TheVariants.{Goes}
use Rattle.proc_cells.specs.Beside.{HeldParts}
use Rattle.proc_cells.specs.Cells.{held_by, kernel_of, caller_with}
use Rattle.proc_cells.proofs.Homes.{home_reached, home_run}
use Rattle.parked_tasks.proofs.Results.{err_by}
use Rattle.call_table.proofs.Moves.{moves_alone, others_go_on, others_stay}
use Rattle.call_table.proofs.Steps.{own_same, own_space, ready_next, registers_same, next_told, step_touching}
use Rattle.call_table.proofs.entries.step_standing.Goals as goal

pub invariant_of-cells : goal.invariant_of-cells
invariant_of-cells c = record {
  at_home =
      home_reached c.args.cells.now.tasks c.args.cells.now.registers c.args.cells.now.spaces
      c.args.standing.now.memory.place c.args.standing.now.memory.index c.step.new.space c.args.cells.now.at_home;
}

pub invariant_of-cells-2 : goal.invariant_of-cells-2
invariant_of-cells-2 c = record {
  at_home =
      home_run c.args.cells.now.tasks c.args.cells.now.registers _ c.args.cells.now.spaces _ c.args.task
      c.step.new.registers c.args.standing.now.memory.place c.args.standing.now.memory.index c.step.new.space
      c.args.cells.now.at_home
      c.put_registers.ensures refl;
}

pub returns-clause-step : goal.returns-clause-step
returns-clause-step c = λ goes beside n.
    step_touching c.args.cells.now c.args.task c.args.standing.now c.requires.stands c.requires.touches
    c.step.new.registers c.step.new.space c.step.new.areas (left c.put_registers.new.all) beside n c.requires.awake
    (c.in_ok-next.ensures.goes goes (caller_with c.args.task c.args.standing.now c.requires.stands.space)
    (kernel_of c.args.cells.now beside n) (record {
      task = refl;
      registers = refl;
      space =
          own_space c.args.cells.now c.args.task c.args.standing.now c.requires.stands c.in-Some.space.now
          (sym c.in-Some.ensures.value);
      areas = refl;
    }))
    (ap left
    c.put_registers.ensures)
  where
    left : map.FinMap nat_cmp Regs → HeldParts
    left registers = record (held_by c.args.cells.now) {
      registers = registers;
      spaces =
          with_named c.args.cells.now.spaces c.args.standing.now.memory.place c.args.standing.now.memory.index
          c.step.new.space;
      areas = c.step.new.areas;
    }

pub returns-clause-next : goal.returns-clause-next
returns-clause-next c =
    next_told c.args.cells.now c.args.task c.args.standing.now c.requires.stands c.in_ok-next.next
    (λ k areas. c.in_ok-next.ensures.next (caller_with c.args.task c.args.standing.now c.requires.stands.space) k
    (record {
      task = refl;
      registers = refl;
      space =
          own_space c.args.cells.now c.args.task c.args.standing.now c.requires.stands c.in-Some.space.now
          (sym c.in-Some.ensures.value);
      areas = areas;
    }))

pub returns-clause-ready : goal.returns-clause-ready
returns-clause-ready c = λ goes beside n.
    ready_next c.args.cells.now c.args.task c.args.standing.now c.requires.stands Goes c.requires.awake
    (next_told c.args.cells.now c.args.task c.args.standing.now c.requires.stands Goes
    (λ k areas. c.in_ok-next.ensures.next (caller_with c.args.task c.args.standing.now c.requires.stands.space) k
    (record {
      task = refl;
      registers = refl;
      space =
          own_space c.args.cells.now c.args.task c.args.standing.now c.requires.stands c.in-Some.space.now
          (sym c.in-Some.ensures.value);
      areas = areas;
    }) ∙ goes)) beside n

pub returns-clause-moves : goal.returns-clause-moves
returns-clause-moves c =
    moves_alone c.args.task c.args.standing.now.memory _ c.args.cells.now _ refl refl c.requires.awake refl
    (λ e. absurd (cc e)) refl (record {
      registers = λ other apart.
          others_go_on c.args.cells.now.registers c.put_registers.new.all c.args.task other c.step.new.registers
          c.put_registers.ensures apart;
      spaces = λ name apart.
          others_stay c.args.cells.now.spaces _ c.args.standing.now.memory name c.step.new.space refl apart;
    })

pub returns-clause-kept : goal.returns-clause-kept
returns-clause-kept c = λ off.
    let kept = c.in_ok-next.ensures.kept off in
    record {
      tasks = refl;
      registers =
          c.put_registers.ensures
          ∙ registers_same c.args.cells.now c.args.task c.args.standing.now c.requires.stands c.step.new.registers
          kept.0;
      spaces =
          own_same c.args.cells.now c.args.task c.args.standing.now c.requires.stands c.in-Some.space.now
          c.step.new.space c.in-Some.ensures.value kept.1;
      areas = kept.2;
      files = refl;
      sleepers = refl;
      console = refl;
    }

pub returns-in_err-next-clause-err : goal.returns-in_err-next-clause-err
returns-in_err-next-clause-err c =
    err_by c.from_residual.result (record {
      tasks = refl;
      registers = refl;
      spaces =
          own_same c.args.cells.now c.args.task c.args.standing.now c.requires.stands c.in-Some.space.now
          c.step.new.space c.in-Some.ensures.value c.in_err-next.ensures.err.1;
      areas = c.in_err-next.ensures.err.2;
      files = refl;
      sleepers = refl;
      console = refl;
    })
