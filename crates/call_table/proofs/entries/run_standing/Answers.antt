-- A run of a task's instructions is a step of the kernel, or nothing.
use Rattle.std.proofs.Common.{◌≡◌, ℕ, ◌<◌, false, refl, ap, ◌∙◌, arith}
use Rattle.std.specs.Prelude.{Result, Ok, Err, IfOk, OnErr, None}
use Rattle.rv_table.specs.declared.registers.Regs.{Regs}
use Rattle.mm_space.specs.Spaces.{AddressSpace}
use Rattle.sn_base.specs.declared.made.Made.{Made}
use Rattle.kernel_model.specs.Names.{NamedMap, with_named}
use Rattle.kernel_model.specs.declared.entry.Entry.TheVariants.{Run}
use Rattle.guest_access.specs.declared.instructions.InstructionRun.{InstructionRun}
use Rattle.proc_cells.specs.Cells.{caller_with, held_by, kernel_of}
use Rattle.proc_cells.proofs.Homes.{home_run}
use Rattle.parked_tasks.proofs.Results.{with_ok, on_err}
use Rattle.call_table.specs.Entries.{RunsIn}
use Rattle.call_table.proofs.Moves.{moves_alone, others_go_on, others_stay}
use Rattle.call_table.proofs.Steps.{step_run, whole_run, registers_left, spaces_left, next_left, left_there}
use Rattle.call_table.proofs.Steps.{ready_run, stop_not_on, touching_left}
use Rattle.call_table.proofs.entries.run_standing.Goals as goal

-- one memory alone was written to
put_by : {E : Type 0} (task : ℕ) (memory : Made) (before after : Regs) (spaces spaces' : NamedMap AddressSpace)
    (r : Result InstructionRun E) → IfOk r (λ x. RunsIn task memory x.count before after spaces spaces')
    → OnErr r ((n : ℕ) × (n < 10000) × RunsIn task memory n before after spaces spaces')
    → (left : AddressSpace) × (spaces' ≡ with_named spaces memory.place memory.index left)
put_by task memory before after spaces spaces' (Ok x) runs part = (runs.left, runs.put)
put_by task memory before after spaces spaces' (Err e) runs part = (part.2.left, part.2.put)

pub invariant_of-cells : goal.invariant_of-cells
invariant_of-cells c =
    let put = put_by c.args.task c.args.standing.now.memory c.args.standing.now.registers c.run_in-ran.new.registers
    c.args.cells.now.spaces c.run_in-ran.new.spaces c.run_in-ran.result c.run_in-ran.ensures.runs
    c.run_in-ran.ensures.memory in
    record {
      at_home =
          home_run c.args.cells.now.tasks c.args.cells.now.registers _ c.args.cells.now.spaces _ c.args.task
          c.run_in-ran.new.registers c.args.standing.now.memory.place c.args.standing.now.memory.index put.0
          c.args.cells.now.at_home
          c.put_registers.ensures put.1;
    }

pub returns-clause-step : goal.returns-clause-step
returns-clause-step c =
    with_ok _ _ _ c.run_in-ran.result (λ r runs within more beside n.
    step_run c.args.cells.now c.args.task c.args.standing.now c.requires.stands r.count c.run_in-ran.new.registers
    c.run_in-ran.new.spaces runs
    (record (held_by c.args.cells.now) { registers = c.put_registers.new.all; spaces = c.run_in-ran.new.spaces })
    beside n
    c.requires.awake (omega arith) within
    (ap (λ x. record (held_by c.args.cells.now) { registers = x; spaces = c.run_in-ran.new.spaces })
    c.put_registers.ensures))
    c.run_in-ran.ensures.runs c.run_in-ran.ensures.within

pub returns-clause-ready : goal.returns-clause-ready
returns-clause-ready c =
    with_ok _ _ _ c.run_in-ran.result (λ r runs within more.
    ready_run c.args.cells.now c.args.task c.args.standing.now c.requires.stands r.count c.run_in-ran.new.registers
    c.run_in-ran.new.spaces runs c.requires.awake (omega arith) within)
    c.run_in-ran.ensures.runs c.run_in-ran.ensures.within

pub returns-clause-whole : goal.returns-clause-whole
returns-clause-whole c =
    with_ok _ _ _ c.run_in-ran.result (λ r runs stops beside n m.
    whole_run c.args.cells.now c.args.task c.args.standing.now c.requires.stands r.count c.run_in-ran.new.registers
    c.run_in-ran.new.spaces runs
    (record (held_by c.args.cells.now) { registers = c.put_registers.new.all; spaces = c.run_in-ran.new.spaces })
    beside m
    (kernel_of c.args.cells.now beside n) r.next
    (ap (λ x. record (held_by c.args.cells.now) { registers = x; spaces = c.run_in-ran.new.spaces })
    c.put_registers.ensures)
    (stops runs.left
    (left_there c.args.cells.now c.args.task c.args.standing.now c.requires.stands r.count c.run_in-ran.new.registers
    c.run_in-ran.new.spaces runs))) c.run_in-ran.ensures.runs c.run_in-ran.ensures.stopped

pub returns-clause-moves : goal.returns-clause-moves
returns-clause-moves c =
    with_ok _ _ _ c.run_in-ran.result (λ r runs within.
    moves_alone c.args.task c.args.standing.now.memory
    (record { entry = Run c.args.task r.count; tasks = false; areas = false; touched = None })
    c.args.cells.now _ refl refl c.requires.awake refl (λ e. refl) refl (record {
      registers = λ other apart.
          others_go_on c.args.cells.now.registers c.put_registers.new.all c.args.task other c.run_in-ran.new.registers
          c.put_registers.ensures apart;
      spaces = λ name apart.
          others_stay c.args.cells.now.spaces c.run_in-ran.new.spaces c.args.standing.now.memory name runs.left runs.put
          apart;
    })) c.run_in-ran.ensures.runs c.run_in-ran.ensures.within

pub returns-clause-none : goal.returns-clause-none
returns-clause-none c =
    with_ok _ _ _ c.run_in-ran.result (λ r runs within none. record {
      tasks = refl;
      registers =
          c.put_registers.ensures
          ∙ registers_left c.args.cells.now c.args.task c.args.standing.now c.requires.stands r.count
          c.run_in-ran.new.registers c.run_in-ran.new.spaces runs none;
      spaces =
          spaces_left c.args.cells.now c.args.task c.args.standing.now c.requires.stands r.count
          c.run_in-ran.new.registers c.run_in-ran.new.spaces runs none;
      areas = refl;
      files = refl;
      sleepers = refl;
      console = refl;
    }) c.run_in-ran.ensures.runs c.run_in-ran.ensures.within

pub returns-clause-next : goal.returns-clause-next
returns-clause-next c =
    with_ok _ _ _ c.run_in-ran.result (λ r runs stops none apart.
    next_left c.args.cells.now c.args.task c.args.standing.now c.requires.stands r.count c.run_in-ran.new.registers
    c.run_in-ran.new.spaces runs r.next none
    (stops runs.left
    (left_there c.args.cells.now c.args.task c.args.standing.now c.requires.stands r.count c.run_in-ran.new.registers
    c.run_in-ran.new.spaces runs)) apart) c.run_in-ran.ensures.runs c.run_in-ran.ensures.stopped

pub returns-clause-touching : goal.returns-clause-touching
returns-clause-touching c =
    with_ok _ _ _ c.run_in-ran.result (λ r runs stops none.
    touching_left c.args.cells.now c.args.task c.args.standing.now c.requires.stands r.count c.run_in-ran.new.registers
    c.run_in-ran.new.spaces runs r.next none
    (stops runs.left
    (left_there c.args.cells.now c.args.task c.args.standing.now c.requires.stands r.count c.run_in-ran.new.registers
    c.run_in-ran.new.spaces runs))) c.run_in-ran.ensures.runs c.run_in-ran.ensures.stopped

pub returns-clause-stops : goal.returns-clause-stops
returns-clause-stops c =
    with_ok _ _ _ c.run_in-ran.result (λ r runs stops none.
    stop_not_on r.count r.next _ (stops runs.left
    (left_there c.args.cells.now c.args.task c.args.standing.now c.requires.stands r.count c.run_in-ran.new.registers
    c.run_in-ran.new.spaces runs)) none) c.run_in-ran.ensures.runs c.run_in-ran.ensures.stopped

pub returns-clause-memory : goal.returns-clause-memory
returns-clause-memory c =
    on_err c.run_in-ran.result (λ part. record {
      caller = caller_with c.args.task c.args.standing.now c.requires.stands.space;
      found = c.requires.stands.found;
      count = part.0;
      few = part.1;
      registers = c.run_in-ran.new.registers;
      runs = part.2;
      kept_registers =
          c.put_registers.ensures;
      kept_tasks = refl;
      kept_areas = λ place index. refl;
      kept_files = refl;
      kept_sleepers = refl;
      kept_console = refl;
    }) c.run_in-ran.ensures.memory
