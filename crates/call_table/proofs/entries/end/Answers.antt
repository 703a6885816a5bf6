-- The end of a thread group is a step of the kernel.
use Rattle.std.proofs.Common.{ap, sym, refl, ◌∙◌, length}
use Rattle.task_table.specs.Ends.{ended_tasks, is_member}
use Rattle.kernel_model.specs.declared.kernel.Kernel.{Kernel}
use Rattle.kernel_model.specs.declared.traps.Next.TheVariants.{Traps}
use Rattle.kernel_model.specs.Names.{with_named}
use Rattle.kernel_calls.specs.declared.prepared.Effect.{Effect}
use Rattle.kernel_calls.specs.declared.prepared.Effect.TheVariants.{EndsGroup}
use Rattle.proc_cells.specs.Beside.{AreAtHome, kernel_with, nothing_beside, nothing_held}
use Rattle.proc_cells.specs.Cells.{held_by, kernel_of, caller_with}
use Rattle.proc_cells.proofs.Homes.{home_reached}
use Rattle.parked_tasks.proofs.Results.{err_by}
use Rattle.call_table.proofs.Homes.{home_committed}
use Rattle.call_table.proofs.Kept.{part_none}
use Rattle.call_table.proofs.Moves.{lists_of, moves_done, others_stay}
use Rattle.call_table.proofs.MovedParts.{Lists, lists_are}
use Rattle.call_table.proofs.Steps.{calling_here, own_same, ready_next, step_end}
use Rattle.call_table.proofs.entries.end.Goals as goal

pub invariant_of-cells : goal.invariant_of-cells
invariant_of-cells c = record {
  at_home =
      home_reached c.args.cells.now.tasks c.args.cells.now.registers c.args.cells.now.spaces
      c.args.standing.now.memory.place c.args.standing.now.memory.index c.end_group.new.space c.args.cells.now.at_home;
}

pub invariant_of-cells-2 : goal.invariant_of-cells-2
invariant_of-cells-2 c =
    let p = c.args.cells.now in
    let k : Kernel = kernel_of p nothing_beside 0 in
    let home : AreAtHome p.tasks p.registers
    (with_named p.spaces c.args.standing.now.memory.place c.args.standing.now.memory.index c.end_group.new.space) =
    home_reached p.tasks p.registers p.spaces c.args.standing.now.memory.place c.args.standing.now.memory.index
    c.end_group.new.space p.at_home in
    record {
      at_home =
          home_committed (EndsGroup c.in_ok-ending.ending) c.args.standing.now.group k c.commit.new.tasks p.registers _
          (ap (λ (m : Kernel). m.tasks) (c.commit.ensures k refl refl refl)) home;
    }

pub returns-in_err-ending-clause-memory : goal.returns-in_err-ending-clause-memory
returns-in_err-ending-clause-memory c =
    err_by c.from_residual.result (part_none c.args.cells.now _ c.args.context.now.task c.args.standing.now
    c.requires.stands refl refl
    (own_same c.args.cells.now c.args.context.now.task c.args.standing.now c.requires.stands c.in-Some.space.now
    c.end_group.new.space c.in-Some.ensures.value c.in_err-ending.ensures.err) c.in_err-ending.ensures.err_areas
    refl refl refl)

pub returns-clause-step : goal.returns-clause-step
returns-clause-step c = λ beside n seed place.
    let p = c.args.cells.now in
    let k : Kernel = kernel_of p beside n in
    let m : Kernel = record k {
      spaces =
          with_named p.spaces c.args.standing.now.memory.place c.args.standing.now.memory.index c.end_group.new.space;
      areas = c.end_group.new.areas;
    } in
    let ends = c.in_ok-ending.ensures.ends
    (caller_with c.args.context.now.task c.args.standing.now c.requires.stands.space) k p.sleepers (length p.console)
    (calling_here p c.args.context.now.task c.args.standing.now c.requires.stands c.args.context.now c.in-Some.space.now
    (length p.console) beside n refl c.requires.known (sym c.in-Some.ensures.value) refl seed place) in
    step_end p c.args.context.now.task c.args.standing.now c.requires.stands c.args.signal (record (held_by p) {
      tasks = c.commit.new.tasks;
      spaces = m.spaces;
      areas = m.areas;
      files = c.commit.new.files;
      sleepers = c.commit.new.sleepers;
    }) beside n c.requires.awake c.requires.traps
    (ends.done_is
    ∙ c.commit.ensures m refl refl refl)

pub returns-clause-ready : goal.returns-clause-ready
returns-clause-ready c = λ beside n.
    ready_next c.args.cells.now c.args.context.now.task c.args.standing.now c.requires.stands (Traps c.args.signal)
    c.requires.awake c.requires.traps beside n

pub returns-clause-moves : goal.returns-clause-moves
returns-clause-moves c =
    let p = c.args.cells.now in
    let task = c.args.context.now.task in
    let group = c.args.standing.now.group in
    let effect : Effect = EndsGroup c.in_ok-ending.ending in
    let k : Kernel =
    kernel_with
    (record nothing_held { tasks = p.tasks; sleepers = p.sleepers; console = p.console; files = p.files })
    nothing_beside 0
    in
    let after : Lists = record { tasks = c.commit.new.tasks; sleepers = c.commit.new.sleepers } in
    moves_done task c.args.standing.now.memory _ p _ effect group
    (lists_are task group (lists_of p) effect after p.console p.files c.commit.new.files
    (c.commit.ensures k refl refl refl)) tt
    (c.in_ok-ending.ensures.ended ∙ ap (λ g. ended_tasks (is_member g) p.tasks.tasks) c.requires.known.group)
    c.requires.awake refl refl (λ e. absurd (cc e)) (λ e. absurd (cc e)) (record {
      registers = λ other apart. refl;
      spaces = λ name apart.
          others_stay p.spaces _ c.args.standing.now.memory name c.end_group.new.space refl apart;
    })
